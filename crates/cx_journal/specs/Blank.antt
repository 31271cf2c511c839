-- What an opening of two disks may leave of the first one.
use Rattle.std.specs.Prelude.{◌≡◌, ◌⊎◌, ◌≤◌, ℕ, List, length, Ok, Err}
use Rattle.cx_journal.specs.Generation.{generation, second_is_live}
use Rattle.cx_journal.specs.Pair.{begins_with, live_of}
use Rattle.cx_journal.specs.declared.opening.Live.{Live}
use Rattle.cx_journal.specs.declared.opening.PairFault.{PairFault}
use Rattle.cx_journal.specs.declared.opening.PairFault.TheVariants as fault

-- at most two bytes, which are no open gate with something after it: no records, and no generation
pub record IsBlank (file : List ℕ) : Type 0 where
  pub few : length file ≤ 2
  pub shut : length file ≡ 2 → begins_with file 1 → ⊥

-- the same file, or two without records
abbrev pub IsSame : List ℕ → List ℕ → Type 0
IsSame file other = (file ≡ other) ⊎ (IsBlank file × IsBlank other)

-- the live one of two files, and its generation
pub record IsLiveOfTwo (a b : List ℕ) (live : Live) : Type 0 where
  pub choice : second_is_live (generation a) (generation b) ≡ Ok live.second
  pub gen : live.generation ≡ generation (live_of live.second a b)

-- the byte at 1 that is bad
abbrev pub IsBadPair : List ℕ → List ℕ → PairFault → Type 0
IsBadPair a b (fault.Bad byte) = second_is_live (generation a) (generation b) ≡ Err byte
IsBadPair a b fault.Failed = Unit {0}

-- a crash left what it may have left before, or a file that is the same as such a one
abbrev pub IsLeftOr : (List ℕ → Type 0) → List ℕ → Type 0
IsLeftOr may_leave c = (d : List ℕ) × may_leave d × IsSame c d
