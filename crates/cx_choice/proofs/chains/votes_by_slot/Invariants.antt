use Rattle.std.proofs.Common.{◌≤◌, length}
use Rattle.cx_choice.specs.Chains.{HaveVotes}
use Rattle.cx_choice.proofs.chains.votes_by_slot.Given as goal

abbrev pub invariant-loop-number : goal.invariant-loop-number
invariant-loop-number l =
    record {
      within : l.number ≤ length l.kept;
      votes : HaveVotes l.votes l.kept l.number;
    }

abbrev pub decreases-loop-number : goal.decreases-loop-number
decreases-loop-number l = l.number
