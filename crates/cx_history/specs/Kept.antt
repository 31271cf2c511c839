-- Changes of stores with the roles that keep them, as they are held.
use Rattle.std.specs.Prelude.{◌≡◌, ◌≤◌, ◌<◌, ◌^◌, ◌==◌, List, ℕ, [], ◌∷◌, Bool, true, false, if◌then◌else◌, Ok, All, drop, length, map}
use Rattle.byteorder.specs.Endian.{big_bytes, big_number}
use Rattle.cx_model.specs.Prelude.{list_all, RoleId, Record, KeptRecord, Written}
use Rattle.cx_letter.specs.Records.{fits}
use Rattle.cx_msg.specs.RecordBytes.{record_of_bytes, spelling}
use Rattle.cx_letter.specs.declared.input.Written.TheVariants as written
use Rattle.cx_keeper.specs.Pieces.{record_or}

-- whether the fields of a change's record are in their ranges
abbrev pub change_fits : Written → Bool
change_fits (written.Record r) = fits r
change_fits (written.Snap first) = true

abbrev pub all_changes_fit : List Written → Bool
all_changes_fit changes = list_all (λ (w : Written). change_fits w) changes

-- eight bytes hold the slot of a change
abbrev pub HasU64Slot : Written → Type 0
HasU64Slot (written.Record r) = Unit {0}
HasU64Slot (written.Snap first) = first < 256 ^ 8

-- each change with its role
abbrev pub kept_with_roles : List RoleId → List Written → List KeptRecord
kept_with_roles [] changes = []
kept_with_roles (role ∷ roles) [] = []
kept_with_roles (role ∷ roles) (what ∷ changes) = record { role = role; what = what } ∷ kept_with_roles roles changes

-- the changes alone
abbrev pub changes_kept : List KeptRecord → List Written
changes_kept kept = map (λ (k : KeptRecord). k.what) kept

-- the bytes of a change: a record's own, which begin with its tag, from 1 on; or a 0 and the eight bytes of a slot
abbrev pub piece_of : Written → List ℕ
piece_of (written.Record r) = spelling r
piece_of (written.Snap first) = 0 ∷ big_bytes 8 first

-- whether a piece holds a slot
abbrev pub holds_slot : List ℕ → Bool
holds_slot [] = false
holds_slot (b ∷ bytes) = b == 0

-- the slot, or the record, that a piece holds: all of its bytes
abbrev pub slot_in : List ℕ → ℕ
slot_in piece = big_number 8 (drop 1 piece)

abbrev pub record_in : List ℕ → Record
record_in piece = record_or (record_of_bytes piece)

-- the change that a piece holds
abbrev pub change_in : List ℕ → Written
change_in piece = if holds_slot piece then written.Snap (slot_in piece) else written.Record (record_in piece)

abbrev pub changes_in : List (List ℕ) → List Written
changes_in pieces = map (λ (piece : List ℕ). change_in piece) pieces

-- a piece holds a slot, or else a record
abbrev pub IsOneOf : Bool → List ℕ → Type 0
IsOneOf true piece = 9 ≤ length piece
IsOneOf false piece = record_of_bytes piece ≡ Ok (record_in piece)

abbrev pub IsChangePiece : List ℕ → Type 0
IsChangePiece piece = IsOneOf (holds_slot piece) piece

-- each piece holds a change, and for each there is a role
pub record AreKeptPieces (roles : List RoleId) (pieces : List (List ℕ)) : Type 0 where
  pub same_count : length roles ≡ length pieces
  pub are_changes : All IsChangePiece pieces
