use Rattle.cx_model.specs.Prelude.{◌≡◌, ◌++◌, ◌-◌, length, map, All, prefix_from, chosen_prefix}
use Rattle.cx_choice.specs.Prefix.{IsVoteAt, vote_value_at}
use Rattle.cx_choice.proofs.choice.chosen_votes.Given as goal

abbrev pub invariant-loop-slot : goal.invariant-loop-slot
invariant-loop-slot l =
    record {
      prefix : map (vote_value_at l.kept) l.numbers.items ++ prefix_from l.kept l.slot (length l.kept - l.slot) ≡ chosen_prefix l.kept;
      votes : All (IsVoteAt l.kept) l.numbers.items;
    }
