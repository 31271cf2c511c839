use Rattle.cx_model.specs.Prelude.{◌≡◌, ◌||◌, drop, list_any, Value, KeptRecord}
use Rattle.cx_choice.specs.Enough.{is_value_among, is_whole_vote}
use Rattle.cx_choice.specs.Sorted.{casts_in}
use Rattle.cx_choice.proofs.tally.chosen_values.Given as goal

abbrev pub invariant-loop-vote : goal.invariant-loop-vote
invariant-loop-vote l = (v : Value) → (is_value_among l.chosen.items v
    || list_any (λ (k : KeptRecord). is_whole_vote l.rounds (casts_in l.by_round) l.at v k.what) (drop l.vote-index l.votes))
    ≡ list_any (λ (k : KeptRecord). is_whole_vote l.rounds (casts_in l.by_round) l.at v k.what) l.votes
