-- The votes of each slot as chains of numbers: each is one more than a record's, and 0 where no vote follows.
use Rattle.std.specs.Prelude.{ℕ, true, ◌≡◌, ◌≤◌, ◌<◌, ◌+◌, if◌then◌else◌, List, [], ◌∷◌, Some, drop, length, get_or, slice_get}
use Rattle.cx_model.specs.Prelude.{KeptRecord, Written}
use Rattle.cx_choice.specs.Sorted.{is_vote_in}
use Rattle.cx_choice.specs.declared.chains.VoteChains.{VoteChains}

-- the first vote in a slot among records that are numbered from n on
abbrev pub first_vote : ℕ → ℕ → List KeptRecord → ℕ
first_vote s n [] = 0
first_vote s n (k ∷ ks) = if is_vote_in s k.what then n + 1 else first_vote s (n + 1) ks

-- the first vote in a slot among the records from this number on
abbrev pub vote_from : ℕ → ℕ → List KeptRecord → ℕ
vote_from s from history = first_vote s from (drop from history)

-- of the records from this number on: each slot's first vote, and after each vote the next one in its slot
pub record HaveVotes (votes : VoteChains) (history : List KeptRecord) (from : ℕ) : Type 0 where
  pub count : length votes.next.items ≡ length history
  pub first : (s : ℕ) → s < length history → get_or votes.first.items s 0 ≡ vote_from s from history
  pub next : (s n : ℕ) (k : KeptRecord) → s < length history → from ≤ n → slice_get history n ≡ Some k → is_vote_in s k.what ≡ true
      → get_or votes.next.items n 0 ≡ vote_from s (n + 1) history

-- a record of this number is before the later votes of its slot, if it is a vote in a slot below the number of records
pub record Puts (old new : VoteChains) (number : ℕ) (what : Written) : Type 0 where
  pub count : length new.next.items ≡ length old.next.items
  pub first : (s : ℕ) → s < length old.next.items
      → get_or new.first.items s 0 ≡ (if is_vote_in s what then number + 1 else get_or old.first.items s 0)
  pub next : (s : ℕ) → s < length old.next.items → is_vote_in s what ≡ true → get_or new.next.items number 0 ≡ get_or old.first.items s 0
  pub others : (n : ℕ) → (n ≡ number → ⊥) → get_or new.next.items n 0 ≡ get_or old.next.items n 0
