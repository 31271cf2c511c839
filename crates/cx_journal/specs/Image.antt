-- The records that the bytes of a journal are, or the first place at which they are none.
use Rattle.std.specs.Prelude.{◌≡◌, ℕ, zero, suc, ◌+◌, ◌==◌, ◌||◌, nat_lt, List, [], ◌∷◌, length, take, drop, Option, Result, Ok, Err}
use Rattle.std.specs.Prelude.{if◌then◌else◌, slice_get}
use Rattle.byteorder.specs.Endian.{big_number}
use Rattle.cx_base.specs.declared.role.Kind.{Kind}
use Rattle.cx_letter.specs.declared.kept.Record.{Record}
use Rattle.cx_journal.specs.Payload.{payload_read, part_break}

-- the records, or the place of the first break
abbrev pub Image : Type 0
Image = Result (List Record) ℕ

-- a record before an image
abbrev pub image_with_record : Record → Image → Image
image_with_record r (Ok records) = Ok (r ∷ records)
image_with_record r (Err break) = Err break

-- a payload that was read, before an image; its break counts from the payload's place
abbrev pub with_first : ℕ → Result Record ℕ → Image → Image
with_first at (Ok r) image = image_with_record r image
with_first at (Err place) image = Err (at + place)

-- a payload of n bytes after its length, at this place
abbrev pub sized : Option Kind → ℕ → List ℕ → ℕ → (ℕ → List ℕ → Image) → Image
sized k at bytes n next =
    if n == 0 || nat_lt 32768 n then Err at
    else if nat_lt (length bytes) (4 + n) then Err (at + 4 + part_break k n (drop 4 bytes))
    else with_first (at + 4) (payload_read k (take n (drop 4 bytes))) (next (at + (4 + n)) (drop (4 + n) bytes))

-- what comes after an open gate
abbrev pub framed : Option Kind → ℕ → List ℕ → (ℕ → List ℕ → Image) → Image
framed k at bytes next = if nat_lt (length bytes) 4 then Err (at + length bytes) else sized k at bytes (big_number 4 bytes) next

-- the image from a gate on, of at most n records
unfoldable pub image_at : Option Kind → ℕ → ℕ → List ℕ → Image
image_at k zero at bytes = Err at
image_at k (suc n) at [] = Err at
image_at k (suc n) at (gate ∷ rest) = if gate == 1 then framed k (at + 1) rest (image_at k n) else Ok []

-- The image, for a role of a kind, or of records of any kind. A file of at most one byte has no records.
abbrev pub image : Option Kind → List ℕ → Image
image k bytes = if nat_lt 1 (length bytes) then image_at k (length bytes) 0 bytes else Ok []

-- the image of what stands from a place on
abbrev pub image_from : Option Kind → ℕ → List ℕ → Image
image_from k start bytes = image_at k (length bytes) start (drop start bytes)

-- the first break is there, and this is the byte, none past the end
pub record IsBreak (k : Option Kind) (bytes : List ℕ) (at : ℕ) (byte : Option ℕ) : Type 0 where
  pub place : image k bytes ≡ Err at
  pub there : byte ≡ slice_get bytes at

-- the same records or the same break, for each kind of role
abbrev pub SameImage : List ℕ → List ℕ → Type 0
SameImage bytes file = (k : Option Kind) → image k bytes ≡ image k file
