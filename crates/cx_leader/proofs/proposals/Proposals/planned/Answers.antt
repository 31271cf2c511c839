use Rattle.cx_role.proofs.Common.{refl}
use Rattle.cx_leader.proofs.Proposed.{proposed_plan}
use Rattle.cx_leader.proofs.proposals.Proposals.planned.Goals as goal

pub invariant_of-result : goal.invariant_of-result
invariant_of-result c = rw (c.new.ensures, c.in_ok-placed.ensures, c.as_slice.ensures, c.new-2.ensures)
    (record { proposing = proposed_plan c.args.plan.now c.requires; first = refl; known_first = refl })
