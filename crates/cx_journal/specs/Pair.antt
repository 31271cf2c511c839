-- What the bytes of two disks stand for, one of which is live.
use Rattle.std.specs.Prelude.{◌≡◌, ◌≢◌, ◌⊎◌, ◌<◌, ◌≤◌, ℕ, Bool, false, if◌then◌else◌, List, [], ◌∷◌, ◌++◌, length, Option, Some, None, Ok}
use Rattle.cx_disk.specs.Disk.{Only}
use Rattle.cx_journal.specs.Journal.{frames}
use Rattle.cx_journal.specs.Generation.{generation, second_is_live, IsBehind}

-- the bytes are a front, these records, a closed gate and anything
pub record StandsAfter (front : List ℕ) (payloads : List (List ℕ)) (file : List ℕ) : Type 0 where
  pub gate : ℕ
  pub rest : List ℕ
  pub shut : gate ≢ 1
  pub is : file ≡ front ++ frames payloads ++ gate ∷ rest

-- what a live disk stands for: after its generation, or from its first byte on, where at most one byte is no record
abbrev pub LiveStands : Option ℕ → List (List ℕ) → List ℕ → Type 0
LiveStands (Some g) payloads file = StandsAfter (4 ∷ g ∷ []) payloads file
LiveStands None payloads file = StandsAfter [] payloads file ⊎ ((length file ≤ 1) × (payloads ≡ []))

abbrev pub live_of : Bool → List ℕ → List ℕ → List ℕ
live_of second a b = if second then b else a

-- the two files stand for these records
pub record PairStands (payloads : List (List ℕ)) (a b : List ℕ) : Type 0 where
  pub second : Bool
  pub choice : second_is_live (generation a) (generation b) ≡ Ok second
  pub stands : LiveStands (generation (live_of second a b)) payloads (live_of second a b)

-- a live file whose records begin after these bytes: the generation's two, or none
abbrev pub front_of : Option ℕ → List ℕ
front_of None = []
front_of (Some g) = 4 ∷ g ∷ []

abbrev pub begins_with : List ℕ → ℕ → Type 0
begins_with [] n = ⊥
begins_with (a ∷ rest) n = a ≡ n

-- A live file and the other one, whether the live one is the second: what an open pair keeps. A plain live one is the first, and
-- doesn't begin as a generation does.
pub record IsTwin (second : Bool) (payloads : List (List ℕ)) (live other : List ℕ) : Type 0 where
  pub sound : (g : ℕ) → generation live ≡ Some g → g < 3
  pub behind : IsBehind (generation live) (generation other)
  pub plain_is_first : generation live ≡ None → second ≡ false
  pub plain_begins : generation live ≡ None → begins_with live 4 → ⊥
  pub stands : StandsAfter (front_of (generation live)) payloads live

abbrev pub first_file : Bool → List ℕ → List ℕ → List ℕ
first_file second live other = if second then other else live

abbrev pub second_file : Bool → List ℕ → List ℕ → List ℕ
second_file second live other = if second then live else other

-- the pair stands for the records, whichever side is live
abbrev pub OpensTo : List (List ℕ) → Bool → List ℕ → List ℕ → Type 0
OpensTo payloads second live other = PairStands payloads (first_file second live other) (second_file second live other)

-- a disk tells these bytes, and a crash leaves them
abbrev pub IsLive : {D : Type 0} → (D → Option (List ℕ)) → (D → List ℕ → Type 0) → D → List ℕ → Type 0
IsLive seen may_leave disk file = (seen disk ≡ Some file) × Only file (may_leave disk)
