-- What belongs to rounds, in the order of the rounds.
use Rattle.std.specs.Prelude.{◌≡◌, ◌≤◌, ℕ, true, false, List, length, filter, IsSortedBy}
use Rattle.std.specs.List.{AllWithin}
use Rattle.cx_letter.specs.Prelude.{is_before, same_round, Round}
use Rattle.cx_choice.specs.declared.of_round.OfRound.{OfRound}

-- none is of an earlier round than one before it
abbrev pub IsByRound : {T : Type 0} → List (OfRound T) → Type 0
IsByRound {T} list = IsSortedBy (λ (a b : OfRound T). is_before a.round b.round) list

-- those of a round
abbrev pub of_round : {T : Type 0} → Round → List (OfRound T) → List (OfRound T)
of_round {T} round list = filter (λ (one : OfRound T). same_round one.round round) list

-- those before the place are of earlier rounds, and those from it on are not
pub record IsBegin {T : Type 0} (round : Round) (list : List (OfRound T)) (place : ℕ) : Type 0 where
  pub inside : place ≤ length list
  pub before : AllWithin (λ (one : OfRound T). is_before one.round round ≡ true) list 0 place
  pub behind : AllWithin (λ (one : OfRound T). is_before one.round round ≡ false) list place (length list)

-- those before the place are of no later round, and those from it on are
pub record IsEndOfRound {T : Type 0} (round : Round) (list : List (OfRound T)) (place : ℕ) : Type 0 where
  pub inside : place ≤ length list
  pub before : AllWithin (λ (one : OfRound T). is_before round one.round ≡ false) list 0 place
  pub behind : AllWithin (λ (one : OfRound T). is_before round one.round ≡ true) list place (length list)
