-- Pieces stay what they are when bytes are added, and spell what was put.
use Rattle.std.proofs.Math.Seq.{take-length}
use Rattle.cx_base.proofs.Common.{◌≡◌, ◌≤◌, ◌+◌, ◌-◌, ◌∙◌, ℕ, zero, suc, true, List, [], ◌∷◌, ◌++◌, Some, Ok, length, take, drop, ap, sym}
use Rattle.cx_base.proofs.Common.{refl, arith, slice_get, drop-append-le, take-append-le, length-append, length-drop, map-append}
use Rattle.cx_base.proofs.Common.{drop-append_seam}
use Rattle.cx_letter.specs.Records.{fits}
use Rattle.cx_msg.specs.RecordBytes.{record_of_bytes, spelling}
use Rattle.cx_letter.specs.declared.kept.Record.{Record}
use Rattle.cx_msg.proofs.RecordLaws.{recorded-again}
use Rattle.cx_keeper.specs.Pieces.{ArePieces, IsPiece, IsPut, bytes_at, record_at, record_or, records_at}
use Rattle.cx_keeper.specs.declared.records.Piece.{Piece}

-- the bytes of a record after others, as a piece
pub put : (r : Record) → fits r ≡ true → (old new : List ℕ) (from size : ℕ) → new ≡ old ++ spelling r → from ≡ length old
    → size ≡ length new - from → IsPut r old (record { from = from; size = size }) new
put r fit old new from size bytes begins long =
    let p : Piece = record { from = from; size = size } in
    let all : length new ≡ length old + length (spelling r) = ap length bytes ∙ length-append old (spelling r) in
    let same : size ≡ length (spelling r) = omega (arith, all, begins, long) in
    let rest : drop from new ≡ spelling r = rw (bytes, begins) (drop-append_seam old (spelling r)) in
    let spelled : bytes_at new p ≡ spelling r = rw (same, rest) (take-length (spelling r)) in
    let read : record_of_bytes (bytes_at new p) ≡ Ok r = ap record_of_bytes spelled ∙ recorded-again r fit in
    let what : record_at new p ≡ r = ap record_or read in
    record {
      bytes = bytes;
      piece = record { lies = omega (arith, all, begins, same); spells = rw what read };
      what = what;
    }

module _ (bytes more : List ℕ) where
  same_bytes : (p : Piece) → p.from + p.size ≤ length bytes → bytes_at (bytes ++ more) p ≡ bytes_at bytes p
  same_bytes p lies =
      let size : length (drop p.from bytes) ≡ length bytes - p.from = length-drop p.from bytes in
      ap (take p.size) (drop-append-le p.from bytes more (omega (arith, lies)))
      ∙ take-append-le p.size (drop p.from bytes) more (omega (arith, lies, size))

  still_piece : (p : Piece) → IsPiece bytes p → IsPiece (bytes ++ more) p
  still_piece p h =
      let same = same_bytes p h.lies in
      record {
        lies = let all = length-append bytes more in omega (arith, h.lies, all);
        spells = rw same h.spells;
      }

  pub still_pieces : (ps : List Piece) → ArePieces bytes ps → ArePieces (bytes ++ more) ps
  still_pieces [] h = tt
  still_pieces (p ∷ ps) h = (still_piece p h.0, still_pieces ps h.1)

  pub same_records : (ps : List Piece) → ArePieces bytes ps → records_at (bytes ++ more) ps ≡ records_at bytes ps
  same_records [] h = refl
  same_records (p ∷ ps) h = rw (same_bytes p h.0.lies) (ap (λ l. record_at bytes p ∷ l) (same_records ps h.1))

ArePieces-push : (bytes : List ℕ) (ps : List Piece) (p : Piece) → ArePieces bytes ps → IsPiece bytes p → ArePieces bytes (ps ++ p ∷ [])
ArePieces-push bytes [] p h k = (k, tt)
ArePieces-push bytes (q ∷ ps) p h k = (h.0, ArePieces-push bytes ps p h.1 k)

-- one more piece, which was put
pub pieces_more : (r : Record) (old new : List ℕ) (ps : List Piece) (p : Piece) → ArePieces old ps → IsPut r old p new
    → ArePieces new (ps ++ p ∷ [])
pieces_more r old new ps p h k = ArePieces-push new ps p (rw k.bytes (still_pieces old (spelling r) ps h)) k.piece

pub records_more : (r : Record) (old new : List ℕ) (ps : List Piece) (p : Piece) → ArePieces old ps → IsPut r old p new
    → records_at new (ps ++ p ∷ []) ≡ records_at old ps ++ r ∷ []
records_more r old new ps p h k =
    let before : records_at new ps ≡ records_at old ps = rw k.bytes (same_records old (spelling r) ps h) in
    map-append (λ (q : Piece). record_at new q) ps (p ∷ []) ∙ ap (λ l. l ++ record_at new p ∷ []) before
    ∙ ap (λ x. records_at old ps ++ x ∷ []) k.what

-- each piece of several
pub piece_at : (bytes : List ℕ) (ps : List Piece) (i : ℕ) (p : Piece) → ArePieces bytes ps → slice_get ps i ≡ Some p → IsPiece bytes p
piece_at bytes [] i p h e = cc
piece_at bytes (q ∷ ps) zero p h e = let same : q ≡ p = cc in rw (sym same) h.0
piece_at bytes (q ∷ ps) (suc i) p h e = piece_at bytes ps i p h.1 e

pub pieces_from : (bytes : List ℕ) (n : ℕ) (ps : List Piece) → ArePieces bytes ps → ArePieces bytes (drop n ps)
pieces_from bytes zero ps h = h
pieces_from bytes (suc n) [] h = tt
pieces_from bytes (suc n) (p ∷ ps) h = pieces_from bytes n ps h.1
