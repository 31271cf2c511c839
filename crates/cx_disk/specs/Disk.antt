-- What the calls of a disk do to its bytes, and what a crash may leave of them.
use Rattle.std.specs.Prelude.{◌≡◌, ◌⊎◌, ℕ, ◌+◌, ◌≤◌, min, max, List, ◌++◌, length, take, drop, Option, Some, Result, IsErr, OnOk}
use Rattle.cx_base.specs.Faults.{Rises}

-- the bytes with others in their place from `at` on
abbrev pub written : ℕ → List ℕ → List ℕ → List ℕ
written at bytes file = take at file ++ bytes ++ drop (at + length bytes) file

-- A write of n bytes that was not synced: any bytes in the range and past the old end, any length from the old to the new, the same
-- elsewhere.
pub record Torn (at n : ℕ) (old new : List ℕ) : Type 0 where
  pub before : take at new ≡ take at old
  pub after : drop (at + n) new ≡ drop (at + n) old
  pub no_shorter : length old ≤ length new
  pub no_longer : length new ≤ max (length old) (at + n)

-- A cut that was not synced: any length from the new to the old, and what was shorter stays.
pub record TornCut (at : ℕ) (old new : List ℕ) : Type 0 where
  pub no_shorter : min at (length old) ≤ length new
  pub front : take (length new) old ≡ new

-- each new outcome of a crash is an old outcome after a step
abbrev pub IsAfterStep : (List ℕ → List ℕ → Type 0) → (List ℕ → Type 0) → (List ℕ → Type 0) → Type 0
IsAfterStep step old new = (c : List ℕ) → new c → (d : List ℕ) × old d × step d c

-- a crash leaves this and nothing else
abbrev pub Only : List ℕ → (List ℕ → Type 0) → Type 0
Only file outcomes = (c : List ℕ) → outcomes c → c ≡ file

-- where the disk's bytes are known, a crash leaves these and nothing else
abbrev pub OnlyTold : Option (List ℕ) → (List ℕ → Type 0) → Type 0
OnlyTold seen outcomes = (file : List ℕ) → seen ≡ Some file → Only file outcomes

-- Time goes on: a crash since t might have left what it might have left before, or what it may leave now.
pub record Elapses (before now : ℕ) (past since : ℕ → List ℕ → Type 0) (may_leave : List ℕ → Type 0) : Type 0 where
  pub later : before ≤ now
  pub nothing_else : (t : ℕ) (c : List ℕ) → t ≤ before → since t c → past t c ⊎ may_leave c
  pub keeps : (t : ℕ) (c : List ℕ) → t ≤ before → past t c → since t c

-- A crash at any moment since old leaves a file that has P.
pub record LeavesOnly {D : Type 0} (moment : D → ℕ) (left_since : D → ℕ → List ℕ → Type 0) (old new : D)
    (P : List ℕ → Type 0) : Type 0 where
  pub later : moment old ≤ moment new
  pub each : (c : List ℕ) → left_since new (moment old) c → P c
  -- for a run that began earlier
  pub before : (t : ℕ) (c : List ℕ) → t ≤ moment old → left_since new t c → left_since old t c ⊎ P c

-- the count doesn't fall, stays where the call succeeds, and rises where it fails
pub record HasCause {T E : Type 0} (before now : ℕ) (result : Result T E) : Type 0 where
  pub later : before ≤ now
  pub still : OnOk result (now ≡ before)
  pub failed : IsErr result → Rises before now
