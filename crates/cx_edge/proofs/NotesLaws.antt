-- What is noted stays as it was where bytes are added after it.
use Rattle.std.proofs.lemmas.List.{take-take}
use Rattle.cx_base.proofs.Common.{◌≡◌, ◌≤◌, ◌+◌, ◌-◌, ℕ, Bool, true, false, List, [], ◌∷◌, ◌++◌, length, take, drop, slice_range, map}
use Rattle.cx_base.proofs.Common.{Option, None, Some, arith, refl, sym, ap, subst, ◌∙◌, inl, inr, ◌⊎◌, All, take_all, take-append-le}
use Rattle.cx_base.proofs.Common.{drop-append-le, map-append, length-take, length-drop, length-append, take-append_seam, drop-append_seam}
use Rattle.cx_base.proofs.Common.{All-head, All-tail}
use Rattle.cx_base.specs.declared.role.RoleId.{RoleId}
use Rattle.cx_edge.specs.declared.link.TakeEnd.TheVariants.{Got}
use Rattle.cx_edge.specs.declared.pieces.Piece.{Piece}
use Rattle.cx_edge.specs.declared.pieces.SentRow.{SentRow}
use Rattle.cx_edge.specs.declared.pieces.FrontRow.{FrontRow}
use Rattle.cx_edge.specs.Notes.{NotesFit, NotesTake, Fits, TakenFits, SentFits, bytes_at, told_taken, told_sent, notes_state, keeping}
use Rattle.cx_edge.specs.Notes.{with_sending}

map_same : {A B : Type 0} (P : A → Type 0) (f g : A → B) → ((x : A) → P x → f x ≡ g x) → (xs : List A) → All P xs → map f xs ≡ map g xs
map_same P f g same [] all = refl
map_same P f g same (x ∷ xs) all =
    ap (λ y. y ∷ map f xs) (same x (All-head P x xs all)) ∙ ap (λ ys. g x ∷ ys) (map_same P f g same xs (All-tail P x xs all))

piece_kept : (bytes more : List ℕ) (piece : Piece) → Fits (length bytes) piece → bytes_at (bytes ++ more) piece ≡ bytes_at bytes piece
piece_kept bytes more piece fits =
    let s = piece.start in
    let n = s + piece.len - s in
    let front : drop s (bytes ++ more) ≡ drop s bytes ++ more = drop-append-le s bytes more (omega arith) in
    let within : n ≤ length (drop s bytes) = omega (arith, length-drop s bytes) in
    ap (take n) front ∙ take-append-le n (drop s bytes) more within

piece_added : (bytes more : List ℕ) (piece : Piece) → piece.start ≡ length bytes → piece.len ≡ length more
    → bytes_at (bytes ++ more) piece ≡ more
piece_added bytes more piece start long =
    let n = piece.start + piece.len - piece.start in
    let rest : drop piece.start (bytes ++ more) ≡ more = ap (λ k. drop k (bytes ++ more)) start ∙ drop-append_seam bytes more in
    let all : length more ≤ n = omega arith in
    ap (take n) rest ∙ take_all n more all

taken_kept : (bytes more : List ℕ) (piece : Option Piece) → TakenFits (length bytes) piece
    → told_taken (bytes ++ more) piece ≡ told_taken bytes piece
taken_kept bytes more None fits = refl
taken_kept bytes more (Some piece) fits = ap Some (piece_kept bytes more piece fits)

sent_kept : (bytes more : List ℕ) (row : SentRow) → SentFits (length bytes) row → told_sent (bytes ++ more) row ≡ told_sent bytes row
sent_kept bytes more row fits =
    ap (λ (b : List ℕ). record { from = row.from; port = row.port; bytes = b }) (piece_kept bytes more row.piece fits)

queue_kept : (is_lost : Bool) (f : Piece → List ℕ) (queue : List Piece) (piece : Piece)
    → map f (keeping is_lost queue piece) ≡ keeping is_lost (map f queue) (f piece)
queue_kept true f queue piece = refl
queue_kept false f queue piece = map-append f queue (piece ∷ [])

-- what is noted once bytes were sent
pub send_noted : (bytes more : List ℕ) (takes : List (Option Piece)) (sends : List SentRow) (queue : List Piece) (rows : List FrontRow)
    → NotesFit (length bytes) takes sends queue rows
    → (from : RoleId) (port : ℕ) (is_lost : Bool) (piece : Piece) → piece.start ≡ length bytes → piece.len ≡ length more
    → notes_state (bytes ++ more) takes (sends ++ record { from = from; port = port; piece = piece } ∷ []) (keeping is_lost queue piece)
    ≡ with_sending is_lost (record { from = from; port = port; bytes = more }) (notes_state bytes takes sends queue)
send_noted bytes more takes sends queue rows fit from port is_lost piece start long =
    let all = bytes ++ more in
    let row : SentRow = record { from = from; port = port; piece = piece } in
    let new = piece_added bytes more piece start long in
    let t : map (told_taken all) takes ≡ map (told_taken bytes) takes =
    map_same (TakenFits (length bytes)) _ _ (taken_kept bytes more) takes fit.taken in
    let s : map (told_sent all) sends ≡ map (told_sent bytes) sends =
    map_same (SentFits (length bytes)) _ _ (sent_kept bytes more) sends fit.sent in
    let q : map (bytes_at all) queue ≡ map (bytes_at bytes) queue =
    map_same (Fits (length bytes)) _ _ (piece_kept bytes more) queue fit.waiting in
    rw (t, map-append (told_sent all) sends (row ∷ []), s, queue_kept is_lost (bytes_at all) queue piece, q, new) refl

front_of : (bytes : List ℕ) (piece : Piece) (count long : ℕ) → count ≤ piece.len → count ≤ long → (count ≡ piece.len ⊎ count ≡ long)
    → slice_range bytes piece.start (piece.start + count) ≡ take long (bytes_at bytes piece)
front_of bytes piece count long le_piece le_long which =
    let d = drop piece.start bytes in
    let e : piece.start + count - piece.start ≡ count = omega arith in
    let f : piece.start + piece.len - piece.start ≡ piece.len = omega arith in
    let short : length (take piece.len d) ≤ piece.len = omega (arith, length-take piece.len d) in
    rw (e, f) (elim which [
      | inl whole ↦ ap (λ n. take n d) whole ∙ sym (take_all long (take piece.len d) (omega arith))
      | inr cut ↦ ap (λ n. take n d) cut ∙ sym (take-take long piece.len d (omega arith))
    ])

-- what is noted once the first that waited was taken
pub take_noted : (bytes : List ℕ) (takes : List (Option Piece)) (sends : List SentRow) (queue rest : List Piece) (piece : Piece) (count : ℕ)
    (buffer copied : List ℕ)
    → queue ≡ piece ∷ rest → Fits (length bytes) piece → count ≤ piece.len → count ≤ length buffer
    → (count ≡ piece.len ⊎ count ≡ length buffer) → copied ≡ slice_range bytes piece.start (piece.start + count)
    → NotesTake (notes_state bytes takes sends queue) (notes_state bytes (takes ++ Some (record { start = piece.start; len = count }) ∷ [])
    sends rest) (copied ++ drop count buffer) (Got count)
take_noted bytes takes sends queue rest piece count buffer copied first fits le_piece le_buffer which is =
    let now = copied ++ drop count buffer in
    let cut : Piece = record { start = piece.start; len = count } in
    let copied_long : length copied ≡ count =
    ap length is ∙ omega (arith, length-take (piece.start + count - piece.start) (drop piece.start bytes), length-drop piece.start bytes) in
    let long : length now ≡ length buffer = omega (arith, length-append copied (drop count buffer), length-drop count buffer) in
    let got : take count now ≡ copied = subst (λ n. take n now ≡ copied) copied_long (take-append_seam copied (drop count buffer)) in
    let same : take count now ≡ take (length now) (bytes_at bytes piece) =
    got ∙ is ∙ front_of bytes piece count (length buffer) le_piece le_buffer which ∙ ap (λ n. take n (bytes_at bytes piece)) (sym long) in (
      bytes_at bytes piece,
      map (bytes_at bytes) rest,
      ap (map (bytes_at bytes)) first,
      omega arith,
      same,
      ap (λ ts. record { taken = ts; sent = map (told_sent bytes) sends; waiting = map (bytes_at bytes) rest })
          (map-append (told_taken bytes) takes (Some cut ∷ [])
          ∙ ap (λ (b : List ℕ). map (told_taken bytes) takes ++ Some b ∷ []) (sym (got ∙ is))),
    )
