-- Records as pieces of one list of bytes.
use Rattle.std.specs.Prelude.{◌≡◌, ◌≤◌, ◌+◌, ℕ, List, [], ◌∷◌, ◌++◌, Result, Ok, Err, length, take, drop, map}
use Rattle.cx_msg.specs.RecordBytes.{record_of_bytes, spelling}
use Rattle.cx_msg.specs.declared.fault.WireFault.{WireFault}
use Rattle.cx_letter.specs.declared.kept.Record.{Record}
use Rattle.cx_letter.specs.declared.kept.Record.TheVariants as kept
use Rattle.cx_keeper.specs.declared.records.Piece.{Piece}

-- what bytes that spell no record are read as; there are none here
abbrev pub no_record : Record
no_record = kept.Log []

abbrev pub record_or : Result Record WireFault → Record
record_or (Ok r) = r
record_or (Err e) = no_record

-- the bytes of a piece, and the record that they spell
abbrev pub bytes_at : List ℕ → Piece → List ℕ
bytes_at bytes p = take p.size (drop p.from bytes)

abbrev pub record_at : List ℕ → Piece → Record
record_at bytes p = record_or (record_of_bytes (bytes_at bytes p))

abbrev pub records_at : List ℕ → List Piece → List Record
records_at bytes pieces = map (λ (p : Piece). record_at bytes p) pieces

-- a piece lies in the bytes and spells a record
pub record IsPiece (bytes : List ℕ) (p : Piece) : Type 0 where
  pub lies : p.from + p.size ≤ length bytes
  pub spells : record_of_bytes (bytes_at bytes p) ≡ Ok (record_at bytes p)

abbrev pub ArePieces : List ℕ → List Piece → Type 0
ArePieces bytes [] = Unit {0}
ArePieces bytes (p ∷ pieces) = IsPiece bytes p × ArePieces bytes pieces

-- the bytes of a record were put after others, as this piece
pub record IsPut (r : Record) (old : List ℕ) (p : Piece) (new : List ℕ) : Type 0 where
  pub bytes : new ≡ old ++ spelling r
  pub piece : IsPiece new p
  pub what : record_at new p ≡ r
