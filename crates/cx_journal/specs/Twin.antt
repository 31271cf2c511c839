-- The records of two disks, one of which is live.
use Rattle.std.specs.Prelude.{◌≡◌, ◌<◌, ◌≤◌, ◌⊎◌, ℕ, ◌++◌, not, Bool, true, is_some, if◌then◌else◌, List, [], length, Option, Some, None}
use Rattle.std.specs.Prelude.{Result, Ok, Err}
use Rattle.cx_base.specs.declared.role.Kind.{Kind}
use Rattle.cx_letter.specs.declared.kept.Record.{Record}
use Rattle.cx_journal.specs.Blank.{IsSame}
use Rattle.cx_journal.specs.Generation.{IsGeneration, generation, second_is_live}
use Rattle.cx_journal.specs.Image.{Image, image, image_from}
use Rattle.cx_journal.specs.Journal.{frames, gates_from}
use Rattle.cx_journal.specs.Pair.{StandsAfter, begins_with, front_of, live_of, first_file, second_file, IsTwin, IsLive}
use Rattle.cx_journal.specs.Payload.{payloads, all_kept_by}
use Rattle.cx_journal.specs.State.{records_or_none}
use Rattle.cx_journal.specs.declared.anew.Renewed.{Renewed}
use Rattle.cx_journal.specs.declared.image.Found.{Found}
use Rattle.cx_journal.specs.declared.opening.Live.{Live}
use Rattle.cx_journal.specs.Found.{IsFaultIn}
use Rattle.cx_keep.specs.declared.keeper.OpenFault.{OpenFault}
use Rattle.cx_keep.specs.declared.keeper.OpenFault.TheVariants as fault

-- the image of a live file: after its generation, or from its first byte on
abbrev pub image_in : Option Kind → Option ℕ → List ℕ → Image
image_in k None file = image k file
image_in k (Some g) file = image_from k 2 file

abbrev pub file_image : Option Kind → List ℕ → Image
file_image k file = image_in k (generation file) file

abbrev pub image_chosen : Option Kind → List ℕ → List ℕ → Result Bool ℕ → Image
image_chosen k a b (Err byte) = Err 1
image_chosen k a b (Ok second) = file_image k (live_of second a b)

-- the records of two files, or the place of the first break in the live one
abbrev pub pair_image : Option Kind → List ℕ → List ℕ → Image
pair_image k a b = image_chosen k a b (second_is_live (generation a) (generation b))

-- for each kind of role that keeps these records, they are those of the two files
abbrev pub IsPairImageOf : List Record → List ℕ → List ℕ → Type 0
IsPairImageOf records a b = (k : Option Kind) → all_kept_by k records ≡ true → pair_image k a b ≡ Ok records

-- the same records or the same break, for each kind
abbrev pub SamePair : List ℕ → List ℕ → List ℕ → List ℕ → Type 0
SamePair a b c d = (k : Option Kind) → pair_image k a b ≡ pair_image k c d

-- the records that two disks tell
abbrev pub pair_records : Option (List ℕ) → Option (List ℕ) → List Record
pair_records None seen = []
pair_records (Some a) None = []
pair_records (Some a) (Some b) = records_or_none (pair_image None a b)

-- the records were read of a live file
pub record IsFoundLive (k : Option Kind) (file : List ℕ) (found : Found) : Type 0 where
  pub is : file_image k file ≡ Ok found.records.items
  pub stands : StandsAfter (front_of (generation file)) (payloads found.records.items) file
  pub gates : found.gates.items ≡ gates_from (length (front_of (generation file))) (payloads found.records.items)
  pub gate : found.gate ≡ length (front_of (generation file) ++ frames (payloads found.records.items))

-- The records of a first disk that is live were read: of its file, or of a closed gate in the place of one without records.
pub record IsReadFirst {D : Type 0} (seen : D → Option (List ℕ)) (may_leave : D → List ℕ → Type 0) (k : Option Kind) (was : List ℕ)
    (found : Found) (disk : D) : Type 0 where
  pub file : List ℕ
  pub rests : IsLive seen may_leave disk file
  pub same : IsSame file was
  pub gen : generation file ≡ generation was
  pub begins : generation file ≡ None → begins_with file 4 → ⊥
  pub read : IsFoundLive k file found

-- Two disks, whether the live one is the second, its generation, the places of the gates, that of the closed one, whether no change has
-- failed since they were read, and how often the twin has failed.
pub record TwinState (D : Type 0) : Type 0 where
  pub first : D
  pub second : D
  pub second_lives : Bool
  pub generation : Option ℕ
  pub gates : List ℕ
  pub gate : ℕ
  pub whole : Bool
  pub faults : ℕ

abbrev pub BothTell : {D : Type 0} → (D → Option (List ℕ)) → D → D → Type 0
BothTell seen first second = (is_some (seen first) ≡ true) × (is_some (seen second) ≡ true)

-- the records that two disks tell
abbrev pub seen_pair_records : {D : Type 0} → (D → Option (List ℕ)) → D → D → List Record
seen_pair_records seen first second = pair_records (seen first) (seen second)

-- whatever a crash leaves of the disk that was not live, the two have the old records or the new ones
abbrev pub IsEitherPair : Bool → List Record → List Record → List ℕ → List ℕ → Type 0
IsEitherPair second old new live c = IsPairImageOf old (first_file second live c) (second_file second live c)
    ⊎ IsPairImageOf new (first_file second live c) (second_file second live c)

-- the disk that was not live has these records, beside the one that was
pub record IsRenewed {D : Type 0} (seen : D → Option (List ℕ)) (may_leave : D → List ℕ → Type 0) (second : Bool) (records : List Record)
    (was_live : List ℕ) (r : Renewed) (disk : D) : Type 0 where
  pub file : List ℕ
  pub rests : IsLive seen may_leave disk file
  pub twin : IsTwin (not second) (payloads records) file was_live
  pub gen : Some r.generation ≡ generation file
  pub place : r.gate ≡ length (front_of (generation file) ++ frames (payloads records))

-- the live one of two disks was read, and both keep what they tell
pub record PairRests {D : Type 0} (seen : D → Option (List ℕ)) (may_leave : D → List ℕ → Type 0) (k : Option Kind) (live : Live)
    (found : Found) (first second : D) : Type 0 where
  pub file : List ℕ
  pub beside : List ℕ
  pub rests : IsLive seen may_leave (if live.second then second else first) file
  pub other : IsLive seen may_leave (if live.second then first else second) beside
  pub twin : IsTwin live.second (payloads found.records.items) file beside
  pub gen : live.generation ≡ generation file
  pub read : IsFoundLive k file found

-- the fault is the bad byte of the generations, the first break of the live file, or of the outside
abbrev pub IsPairFault : Option Kind → List ℕ → List ℕ → Result Bool ℕ → OpenFault → Type 0
IsPairFault k a b (Ok second) f = IsFaultIn (file_image k (live_of second a b)) (live_of second a b) f
IsPairFault k a b (Err bad) (fault.NotJournal at byte) = (at ≡ 1) × (byte ≡ Some bad)
IsPairFault k a b (Err bad) fault.Failed = Unit {0}
IsPairFault k a b (Err bad) fault.NoMemory = Unit {0}

-- the same of what the two files say of their generations
abbrev pub IsFaultOfPair : Option Kind → List ℕ → List ℕ → OpenFault → Type 0
IsFaultOfPair k a b f = IsPairFault k a b (second_is_live (generation a) (generation b)) f

-- two disks at rest: the one that is live has these records, and the generation is its own
pub record TwoRest {D : Type 0} (seen : D → Option (List ℕ)) (may_leave : D → List ℕ → Type 0) (second_lives : Bool) (gen : Option ℕ)
    (records : List Record) (first second : D) : Type 0 where
  pub file : List ℕ
  pub beside : List ℕ
  pub rests : IsLive seen may_leave (if second_lives then second else first) file
  pub other : IsLive seen may_leave (if second_lives then first else second) beside
  pub twin : IsTwin second_lives (payloads records) file beside
  pub gen_is : gen ≡ generation file

-- A crash of two disks since a call began, any file of each that it may have left since then, has the old records or the new ones.
pub record LeavesTwo {D : Type 0} (moment : D → ℕ) (left_since : D → ℕ → List ℕ → Type 0) (first second new_first new_second : D)
    (old new : List Record) : Type 0 where
  pub first_later : moment first ≤ moment new_first
  pub second_later : moment second ≤ moment new_second
  pub each : (a b : List ℕ) → left_since new_first (moment first) a → left_since new_second (moment second) b
      → IsPairImageOf old a b ⊎ IsPairImageOf new a b

-- whatever a crash leaves of the live disk, the two have the old records or the new ones
abbrev pub IsEitherLive : Bool → List Record → List Record → List ℕ → List ℕ → Type 0
IsEitherLive second old new beside c = IsPairImageOf old (first_file second c beside) (second_file second c beside)
    ⊎ IsPairImageOf new (first_file second c beside) (second_file second c beside)

-- the live disk has these records, beside the other one, and is of the generation that it was
pub record IsAppended {D : Type 0} (seen : D → Option (List ℕ)) (may_leave : D → List ℕ → Type 0) (second : Bool) (records : List Record)
    (beside : List ℕ) (gen : Option ℕ) (disk : D) : Type 0 where
  pub file : List ℕ
  pub rests : IsLive seen may_leave disk file
  pub twin : IsTwin second (payloads records) file beside
  pub gen_is : generation file ≡ gen

-- A crash of two disks since a call began, any file of each that it may have left since then, has the records of two files that it might
-- have left before the call, or breaks where they do.
pub record LeavesSame {D : Type 0} (may_leave : D → List ℕ → Type 0) (moment : D → ℕ) (left_since : D → ℕ → List ℕ → Type 0)
    (first second new_first new_second : D) : Type 0 where
  pub first_later : moment first ≤ moment new_first
  pub second_later : moment second ≤ moment new_second
  pub each : (a b : List ℕ) → left_since new_first (moment first) a → left_since new_second (moment second) b
      → (c : List ℕ) × (d : List ℕ) × may_leave first c × may_leave second d × SamePair a b c d

-- what two disks tell has these records
abbrev pub HasImage : {D : Type 0} → (D → Option (List ℕ)) → Option Kind → D → D → List Record → Type 0
HasImage seen k first second records = (a b : List ℕ) → seen first ≡ Some a → seen second ≡ Some b → pair_image k a b ≡ Ok records

-- Where both disks' bytes are known, they have records. Unless a change has failed, these are at rest, the generation is the live
-- disk's, and each gate is at its place.
pub record IsTwinReady {D : Type 0} (seen : D → Option (List ℕ)) (may_leave : D → List ℕ → Type 0) (size : D → ℕ)
    (t : TwinState D) : Type 0 where
  pub below : t.whole ≡ true → t.gate < (if t.second_lives then size t.second else size t.first)
  pub sound : IsGeneration t.generation
  pub rests : t.whole ≡ true → BothTell seen t.first t.second
      → TwoRest seen may_leave t.second_lives t.generation (seen_pair_records seen t.first t.second) t.first t.second
  pub place : t.whole ≡ true → BothTell seen t.first t.second
      → t.gate ≡ length (front_of t.generation ++ frames (payloads (seen_pair_records seen t.first t.second)))
  pub gates_are : t.whole ≡ true → BothTell seen t.first t.second
      → t.gates ≡ gates_from (length (front_of t.generation)) (payloads (seen_pair_records seen t.first t.second))
  pub fit : BothTell seen t.first t.second → all_kept_by None (seen_pair_records seen t.first t.second) ≡ true
  pub reads : HasImage seen None t.first t.second (seen_pair_records seen t.first t.second)
