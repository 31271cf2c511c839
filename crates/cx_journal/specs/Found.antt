-- What was read of the bytes of a journal.
use Rattle.std.specs.Prelude.{◌≡◌, ℕ, ◌+◌, true, List, length, drop, Option, Result, Ok, Err, slice_get}
use Rattle.cx_base.specs.declared.role.Kind.{Kind}
use Rattle.cx_letter.specs.declared.kept.Record.{Record}
use Rattle.cx_journal.specs.Payload.{payloads, all_kept_by}
use Rattle.cx_journal.specs.Journal.{frames, gates_from, StandsFor}
use Rattle.cx_journal.specs.Image.{Image, image, image_from, with_first, IsBreak}
use Rattle.cx_journal.specs.declared.image.Found.{Found}
use Rattle.cx_journal.specs.declared.split.ImageFault.{ImageFault}
use Rattle.cx_journal.specs.declared.split.ImageFault.TheVariants as stop
use Rattle.cx_keep.specs.declared.keeper.OpenFault.{OpenFault}
use Rattle.cx_keep.specs.declared.keeper.OpenFault.TheVariants as fault

-- the records are in the bytes, each gate at its place
pub record IsFound (k : Option Kind) (bytes : List ℕ) (found : Found) : Type 0 where
  pub stands : StandsFor (payloads found.records.items) bytes
  pub fit : all_kept_by k found.records.items ≡ true
  pub gates : found.gates.items ≡ gates_from 0 (payloads found.records.items)
  pub gate : found.gate ≡ length (frames (payloads found.records.items))

-- the same from a place on
pub record IsFoundFrom (k : Option Kind) (start : ℕ) (bytes : List ℕ) (found : Found) : Type 0 where
  pub stands : StandsFor (payloads found.records.items) (drop start bytes)
  pub fit : all_kept_by k found.records.items ≡ true
  pub gates : found.gates.items ≡ gates_from start (payloads found.records.items)
  pub gate : found.gate ≡ start + length (frames (payloads found.records.items))

-- an image breaks there, unless memory ran out
abbrev pub Breaks : Image → ImageFault → Type 0
Breaks image (stop.Break at) = image ≡ Err at
Breaks image stop.NoMemory = Unit {0}

-- what was read of two bytes or more
abbrev pub IsRead : Option Kind → List ℕ → Result Found ImageFault → Type 0
IsRead k bytes (Ok found) = image k bytes ≡ Ok found.records.items
IsRead k bytes (Err s) = Breaks (image k bytes) s

-- the same of what stands from a place on
abbrev pub IsReadFrom : Option Kind → ℕ → List ℕ → Result Found ImageFault → Type 0
IsReadFrom k start bytes (Ok found) = image_from k start bytes ≡ Ok found.records.items
IsReadFrom k start bytes (Err s) = Breaks (image_from k start bytes) s

-- the fault is the break of an image of these bytes, or of the outside
abbrev pub IsFaultIn : Image → List ℕ → OpenFault → Type 0
IsFaultIn image bytes (fault.NotJournal at byte) = (image ≡ Err at) × (byte ≡ slice_get bytes at)
IsFaultIn image bytes fault.Failed = Unit {0}
IsFaultIn image bytes fault.NoMemory = Unit {0}

-- where a payload that begins at a place stops being a record
abbrev pub IsStopAt : ℕ → Result Record ℕ → ImageFault → Type 0
IsStopAt at read (stop.Break place) = (image : Image) → with_first at read image ≡ Err place
IsStopAt at read stop.NoMemory = Unit {0}

-- the fault is the first break of the bytes, a failure of the disk, or out of memory
abbrev pub IsFaultOf : Option Kind → List ℕ → OpenFault → Type 0
IsFaultOf k bytes (fault.NotJournal at byte) = IsBreak k bytes at byte
IsFaultOf k bytes fault.Failed = Unit {0}
IsFaultOf k bytes fault.NoMemory = Unit {0}

-- the disk failed, or memory ran out
abbrev pub IsOutside : OpenFault → Type 0
IsOutside (fault.NotJournal at byte) = ⊥
IsOutside fault.Failed = Unit {0}
IsOutside fault.NoMemory = Unit {0}
