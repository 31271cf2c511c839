use Rattle.cx_role.proofs.Common.{sym}
use Rattle.cx_leader.specs.Proposing.{HasSpelledValue}
use Rattle.cx_leader.proofs.BySlot.{found_is}
use Rattle.cx_leader.proofs.proposals.Proposals.propose.Goals as goal

pub proposal-requires-clause-value : goal.proposal-requires-clause-value
proposal-requires-clause-value c =
    let found = found_is HasSpelledValue c.args.slot c.self.inside.list.items c.in-Some.placed.now c.self.invariant.proposing.values
    (sym c.in-Some.ensures) in
    rw c.in_ok-value.ensures found
