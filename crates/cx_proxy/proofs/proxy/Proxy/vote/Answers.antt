use Rattle.cx_role.proofs.Common.{true, false, sym, subst}
use Rattle.cx_proxy.specs.Holds.{HasPendingRing}
use Rattle.cx_proxy.proofs.Holding.{found_near, found_stands, holds_noted}
use Rattle.cx_proxy.proofs.Rows.{vote_stops}
use Rattle.cx_proxy.proofs.proxy.Proxy.vote.Goals as goal

pub returns-in-Some-uncounted : goal.returns-in-Some-uncounted
returns-in-Some-uncounted c =
    rw (← c.self.view_is, c.requires.empty)
    (vote_stops _ _ _ _ _ _ (sym c.in-Some.ensures) (sym c.in-Some-uncounted.ensures))

pub update_pending-requires-clause-low : goal.update_pending-requires-clause-low
update_pending-requires-clause-low c = (found_near _ _ c.self.invariant _ _ (sym c.in-Some.ensures)).low

pub update_pending-requires-clause-high : goal.update_pending-requires-clause-high
update_pending-requires-clause-high c = (found_near _ _ c.self.invariant _ _ (sym c.in-Some.ensures)).high

pub invariant_of-self : goal.invariant_of-self
invariant_of-self c =
    let found = sym c.in-Some.ensures in
    subst (HasPendingRing c.self.inside.me) (sym (c.update_pending.ensures.some _ found))
    (holds_noted _ _ c.self.invariant _ _ _ false found)

pub announce-sent-requires-clause-parts : goal.announce-sent-requires-clause-parts
announce-sent-requires-clause-parts c = (found_stands _ _ c.self.invariant _ _ (sym c.in-Some.ensures)).parts

pub update_pending-requires-2-clause-low : goal.update_pending-requires-2-clause-low
update_pending-requires-2-clause-low c = (found_near _ _ c.self.invariant _ _ (sym c.in-Some.ensures)).low

pub update_pending-requires-2-clause-high : goal.update_pending-requires-2-clause-high
update_pending-requires-2-clause-high c = (found_near _ _ c.self.invariant _ _ (sym c.in-Some.ensures)).high

pub invariant_of-self-2 : goal.invariant_of-self-2
invariant_of-self-2 c =
    let found = sym c.in-Some.ensures in
    subst (HasPendingRing c.self.inside.me) (sym (c.update_pending-2.ensures.some _ found))
    (holds_noted _ _ c.self.invariant _ _ _ true found)
