-- The chosen values, by the records with votes for them.
use Rattle.std.specs.Prelude.{ℕ, Bool, true, false, ◌≡◌, ◌==◌, ◌&&◌, List, Option, None, Some, slice_get}
use Rattle.cx_model.specs.Prelude.{Value, Noop, is_chosen, chosen_at, KeptRecord, Written}
use Rattle.cx_letter.specs.declared.kept.Record.TheVariants as kept
use Rattle.cx_letter.specs.declared.input.Written.TheVariants as written

-- whether a change is a record of a vote in a slot for a value that is chosen there
abbrev pub chooses : List KeptRecord → ℕ → Written → Bool
chooses history s (written.Record (kept.Vote j t cw v)) = (t == s) && is_chosen history s v
chooses history s other = false

abbrev pub is_vote_written : Written → Bool
is_vote_written (written.Record (kept.Vote j s cw v)) = true
is_vote_written other = false

-- the value of a vote; of another change a no-op, which nothing asks for
abbrev pub written_value : Written → Value
written_value (written.Record (kept.Vote j s cw v)) = v
written_value other = Noop

abbrev pub value_found : Option KeptRecord → Value
value_found None = Noop
value_found (Some k) = written_value k.what

-- the value of the vote of this number
abbrev pub vote_value_at : List KeptRecord → ℕ → Value
vote_value_at history number = value_found (slice_get history number)

abbrev pub is_vote_found : Option KeptRecord → Bool
is_vote_found None = false
is_vote_found (Some k) = is_vote_written k.what

-- the record of this number is a vote
abbrev pub IsVoteAt : List KeptRecord → ℕ → Type 0
IsVoteAt history number = is_vote_found (slice_get history number) ≡ true

-- the record of this number is a vote for the value chosen in a slot, and there is none where no value is
abbrev pub IsChosenVote : List KeptRecord → ℕ → Option ℕ → Type 0
IsChosenVote history s None = chosen_at history s ≡ None
IsChosenVote history s (Some number) = (chosen_at history s ≡ Some (vote_value_at history number)) × IsVoteAt history number
