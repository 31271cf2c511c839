use Rattle.std.proofs.Common.{◌≡◌, ◌++◌, Some, length, map, slice_get}
use Rattle.cx_choice.specs.Sorted.{votes_of}
use Rattle.cx_choice.proofs.Chained.{IsVote, votes_on}
use Rattle.cx_choice.proofs.chains.votes_in.Given as goal

abbrev pub invariant-loop-here : goal.invariant-loop-here
invariant-loop-here l =
    record {
      votes : l.found.items ++ votes_on l.slot l.here l.kept ≡ votes_of l.slot l.kept;
      here : IsVote l.slot l.here l.kept;
      numbers : map (slice_get l.kept) l.numbers.items ≡ map (λ vote. Some vote) l.found.items;
    }

abbrev pub decreases-loop-here : goal.decreases-loop-here
decreases-loop-here l = length (votes_on l.slot l.here l.kept)
