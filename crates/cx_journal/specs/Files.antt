-- What a role's store holds: one file, or two of which one is live.
use Rattle.std.specs.Prelude.{◌≡◌, ℕ, Bool, true, List, [], Option, Some, None, Result, Ok, Err, option_map}
use Rattle.cx_base.specs.declared.role.Kind.{Kind}
use Rattle.cx_letter.specs.declared.kept.Record.{Record}
use Rattle.cx_journal.specs.Generation.{generation, second_is_live}
use Rattle.cx_journal.specs.Image.{Image, image}
use Rattle.cx_journal.specs.Pair.{front_of, live_of}
use Rattle.cx_journal.specs.Payload.{all_kept_by}
use Rattle.cx_journal.specs.State.{records_or_none}
use Rattle.cx_journal.specs.Twin.{pair_image}

pub data Files : Type 0 where
  OneFile : List ℕ → Files
  TwoFiles : List ℕ → List ℕ → Files

-- the records of a store, or the place of the first break in its only or live file
abbrev pub files_image : Option Kind → Files → Image
files_image k (OneFile file) = image k file
files_image k (TwoFiles a b) = pair_image k a b

-- the records of what is seen, none where it is not known
abbrev pub files_records : Option Files → List Record
files_records None = []
files_records (Some files) = records_or_none (files_image None files)

-- for each kind of role that keeps these records, they are those of the store
abbrev pub IsFilesImageOf : List Record → Files → Type 0
IsFilesImageOf records files = (k : Option Kind) → all_kept_by k records ≡ true → files_image k files ≡ Ok records

-- the same records or the same break, for each kind
abbrev pub SameFiles : Files → Files → Type 0
SameFiles files other = (k : Option Kind) → files_image k files ≡ files_image k other

-- the bytes before the first record: the generation's two in a live file that has one
abbrev pub front_chosen : List ℕ → List ℕ → Result Bool ℕ → List ℕ
front_chosen a b (Err byte) = []
front_chosen a b (Ok second) = front_of (generation (live_of second a b))

abbrev pub front_in : Files → List ℕ
front_in (OneFile file) = []
front_in (TwoFiles a b) = front_chosen a b (second_is_live (generation a) (generation b))

-- what one disk tells, or two
abbrev pub one_told : Option (List ℕ) → Option Files
one_told seen = option_map OneFile seen

abbrev pub both_told : Option (List ℕ) → Option (List ℕ) → Option Files
both_told None seen = None
both_told (Some a) seen = option_map (TwoFiles a) seen
