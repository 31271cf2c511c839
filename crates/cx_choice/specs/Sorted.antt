-- The records on which a choice rests, apart: the rounds, and the votes of a slot.
use Rattle.std.specs.Prelude.{◌≡◌, ◌==◌, ◌++◌, ◌∷◌, [], ℕ, Bool, false, List, Option, None, Some, filter, map, All, IsPermutation}
use denote.Ref.{Bor}
use Rattle.cx_model.specs.Prelude.{Shape, no_round, Round, KeptRecord, Written}
use Rattle.cx_letter.specs.declared.kept.Record.TheVariants as kept
use Rattle.cx_letter.specs.declared.input.Written.TheVariants as written
use Rattle.cx_choice.specs.OfRound.{IsByRound}
use Rattle.cx_choice.specs.declared.of_round.OfRound.{OfRound}

-- the round that a leader began by a change of its store, with its grid
abbrev pub begun_by : Written → List (OfRound Shape)
begun_by (written.Record (kept.Round j g)) = record { round = j; item = g } ∷ []
begun_by other = []

-- the rounds that were kept, in order
abbrev pub rounds_of : List KeptRecord → List (OfRound Shape)
rounds_of [] = []
rounds_of (k ∷ ks) = begun_by k.what ++ rounds_of ks

-- all of these rounds, in the order of rounds
pub record AreRounds (history : List KeptRecord) (rounds : List (OfRound Shape)) : Type 0 where
  pub all : IsPermutation (rounds_of history) rounds
  pub sorted : IsByRound rounds

-- the slot of a vote; of another change none
abbrev pub slot_voted : Written → Option ℕ
slot_voted (written.Record (kept.Vote j t cw v)) = Some t
slot_voted other = None

abbrev pub is_slot : ℕ → Option ℕ → Bool
is_slot s None = false
is_slot s (Some t) = t == s

abbrev pub is_vote_in : ℕ → Written → Bool
is_vote_in s w = is_slot s (slot_voted w)

-- the votes that were kept in a slot, in order
abbrev pub votes_of : ℕ → List KeptRecord → List KeptRecord
votes_of s history = filter (λ (k : KeptRecord). is_vote_in s k.what) history

-- the round of a vote; of another change no round, which nothing asks for
abbrev pub written_round : Written → Round
written_round (written.Record (kept.Vote j s cw v)) = j
written_round other = no_round

-- a vote is listed with its own round
abbrev pub IsCast : OfRound (Bor KeptRecord) → Type 0
IsCast one = one.round ≡ written_round one.item.now.what

-- the votes that are listed with their rounds
abbrev pub casts_in : List (OfRound (Bor KeptRecord)) → List KeptRecord
casts_in casts = map (λ (one : OfRound (Bor KeptRecord)). one.item.now) casts

-- all of these votes, in the order of their rounds
pub record AreCast (votes : List KeptRecord) (casts : List (OfRound (Bor KeptRecord))) : Type 0 where
  pub all : IsPermutation votes (casts_in casts)
  pub sorted : IsByRound casts
  pub cast : All IsCast casts
