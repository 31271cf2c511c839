use Rattle.cx_role.proofs.Common.{◌≡◌, map, refl, subst, sym, true, rules, Pending, phase2a_to, column_for}
use Rattle.cx_ring.specs.Ring.{raise_ring}
use Rattle.cx_proxy.specs.Holds.{HasPendingRing}
use Rattle.cx_proxy.specs.Slots.{ring_with, slot_of}
use Rattle.cx_proxy.proofs.Holding.{holds_asked, holds_raised}
use Rattle.cx_proxy.proofs.Rows.{asks, declines, lacks, not_past}
use Rattle.cx_proxy.proofs.proxy.Proxy.propose.Goals as goal

pub invariant_of-self : goal.invariant_of-self
invariant_of-self c =
    let ring = c.self.inside.pending in
    subst (HasPendingRing c.self.inside.me) (sym c.raise.ensures) (holds_raised _ ring c.self.invariant _ ring.room (λ h. h))

pub returns-in-Some : goal.returns-in-Some
returns-in-Some c =
    rw (← c.self.view_is, c.raise.ensures, c.requires.empty)
    (declines _ _ _ c.self.inside.pending _ _ (sym c.in-Some.ensures))

pub returns-in_err-asked : goal.returns-in_err-asked
returns-in_err-asked c =
    rw (← c.self.view_is, c.requires.empty)
    (lacks _ _ _ c.self.inside.pending _ _ c.from_residual.ensures.0 (sym c.in_default.ensures))

pub returns-in_err-make_room : goal.returns-in_err-make_room
returns-in_err-make_room c =
    rw (← c.self.view_is, c.requires.empty, c.in_err-make_room.ensures.err)
    (lacks _ _ _ c.self.inside.pending _ _ c.from_residual-in_err-make_room.ensures.0 (sym c.in_default.ensures))

pub returns-in_err-all_or_none : goal.returns-in_err-all_or_none
returns-in_err-all_or_none c =
    rw (← c.self.view_is, c.in_ok-make_room.ensures.ok, c.in_err-all_or_none.ensures.err)
    (lacks _ _ _ c.self.inside.pending _ _ c.from_residual-in_err-all_or_none.ensures.0 (sym c.in_default.ensures))

-- what is left in the end
left : (c : goal.Joined-put_pending) → let p : Pending = record c.args.pending { value = c.args.value.now } in
    c.put_pending.new.pendings ≡ ring_with p (raise_ring slot_of p.cw (record c.self.inside.pending { room = true }))
left c = rw (c.put_pending.ensures.items, c.raise-2.ensures, c.in_ok-make_room.ensures.ok, c.in_ok-asked.ensures) refl

pub invariant_of-self-2 : goal.invariant_of-self-2
invariant_of-self-2 c =
    let i = c.self.inside in
    let low = not_past i.cluster i.me i.live i.pending c.args.pending (sym c.in_default.ensures) in
    subst (HasPendingRing i.me) (sym (left c)) (holds_asked _ _ _ c.self.invariant c.requires.parts low)

pub returns : goal.returns
returns c =
    let i = c.self.inside in
    let p : Pending = record c.args.pending { value = c.args.value.now } in
    let sent : c.all_or_none.new.out.list ≡ map (phase2a_to i.me p) (column_for i.cluster p) = search rules in
    rw (← c.self.view_is, left c, sent) (asks _ _ _ i.pending _ (sym c.in_default.ensures))
