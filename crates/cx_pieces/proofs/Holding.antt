-- What is stored of pieces stays right.
use Rattle.std.proofs.Common.{◌≡◌, ◌+◌, ◌∙◌, ℕ, List, [], ◌∷◌, ◌++◌, length, length-append, ap, sym, arith}
use Rattle.cx_pieces.specs.Chunks.{AreFull, ArePieceChunks, all_of}

-- the last pieces may have become a chunk
pub held_closed : (count : ℕ) (chunks more : List (List (List ℕ))) (last left : List (List ℕ)) (room : List ℕ) → ArePieceChunks count chunks
    last room → all_of more ++ left ≡ all_of chunks ++ last → (AreFull 256 chunks → AreFull 256 more) → ArePieceChunks count more left room
held_closed count chunks more last left room stored same full =
    let sizes : length (all_of more) + length left ≡ length (all_of chunks) + length last =
    sym (length-append (all_of more) left) ∙ ap (λ (l : List (List ℕ)). length l) same ∙ length-append (all_of chunks) last in
    record { count_is = stored.count_is ∙ sym sizes; are_full = full stored.are_full; room_is = stored.room_is }

-- one piece more after the last ones
pub held_more : (count next : ℕ) (chunks : List (List (List ℕ))) (last : List (List ℕ)) (room left piece : List ℕ)
    → ArePieceChunks count chunks last room → next ≡ count + 1 → left ≡ [] → ArePieceChunks next chunks (last ++ piece ∷ []) left
held_more count next chunks last room left piece stored one none =
    record { count_is = omega (arith, stored.count_is, one, length-append last (piece ∷ [])); are_full = stored.are_full; room_is = none }
