-- Votes whose round has enough votes for their value, by which a choice is found vote by vote.
use Rattle.std.specs.Prelude.{◌≡◌, ◌==◌, ◌&&◌, ℕ, Bool, false, List}
use denote.Ref.{Bor}
use Rattle.cx_model.specs.Prelude.{list_any, Shape, Value, Round, same_value, is_chosen_in, KeptRecord, Written}
use Rattle.cx_letter.specs.declared.kept.Record.TheVariants as kept
use Rattle.cx_letter.specs.declared.input.Written.TheVariants as written
use Rattle.cx_choice.specs.OfRound.{of_round}
use Rattle.cx_choice.specs.declared.of_round.OfRound.{OfRound}

-- a value is chosen in a slot, by these rounds with their grids and these votes
abbrev pub is_chosen_among : List (OfRound Shape) → List KeptRecord → ℕ → Value → Bool
is_chosen_among rounds votes s v = list_any (λ (begun : OfRound Shape). is_chosen_in votes begun.round begun.item s v) rounds

-- a round has enough votes for a value in a slot
abbrev pub is_enough : List (OfRound Shape) → List KeptRecord → ℕ → Round → Value → Bool
is_enough rounds votes s j v = is_chosen_among (of_round j rounds) votes s v

-- a vote of a round, in a slot and for a value, is one for this value in this slot, and its round has enough votes for it
abbrev pub is_whole_vote_in : List (OfRound Shape) → List KeptRecord → ℕ → Value → Round → ℕ → Value → Bool
is_whole_vote_in rounds votes s v j t u = (t == s) && same_value u v && is_enough rounds votes s j v

-- a change is a record of such a vote
abbrev pub is_whole_vote : List (OfRound Shape) → List KeptRecord → ℕ → Value → Written → Bool
is_whole_vote rounds votes s v (written.Record (kept.Vote j t cw u)) = is_whole_vote_in rounds votes s v j t u
is_whole_vote rounds votes s v other = false

-- a value is chosen in a slot exactly where a vote for it is whole
abbrev pub ChosenByWholeVotes : Type 0
ChosenByWholeVotes = (rounds : List (OfRound Shape)) (votes : List KeptRecord) (s : ℕ) (v : Value)
    → is_chosen_among rounds votes s v ≡ list_any (λ (k : KeptRecord). is_whole_vote rounds votes s v k.what) votes

-- a change is a record of a vote in this slot for a value that is chosen there
abbrev pub selects : List (OfRound Shape) → List KeptRecord → ℕ → Written → Bool
selects rounds votes s (written.Record (kept.Vote j t cw v)) = (t == s) && is_chosen_among rounds votes s v
selects rounds votes s other = false

abbrev pub is_value_among : List (Bor Value) → Value → Bool
is_value_among values v = list_any (λ (u : Bor Value). same_value u.now v) values

-- a change is a record of a vote in this slot for one of these values
abbrev pub is_vote_for : List (Bor Value) → ℕ → Written → Bool
is_vote_for values s (written.Record (kept.Vote j t cw v)) = (t == s) && is_value_among values v
is_vote_for values s other = false
