-- Pieces in chunks.
use Rattle.std.specs.Prelude.{◌≡◌, ◌+◌, ℕ, List, [], ◌∷◌, ◌++◌, length}

-- the pieces of chunks in order
abbrev pub all_of : List (List (List ℕ)) → List (List ℕ)
all_of [] = []
all_of (chunk ∷ chunks) = chunk ++ all_of chunks

-- each chunk has this many pieces
abbrev pub AreFull : ℕ → List (List (List ℕ)) → Type 0
AreFull size [] = Unit {0}
AreFull size (chunk ∷ chunks) = (length chunk ≡ size) × AreFull size chunks

-- each chunk is full, the pieces in chunks and those after them are this many, and no bytes wait in the room
pub record ArePieceChunks (count : ℕ) (chunks : List (List (List ℕ))) (last : List (List ℕ)) (room : List ℕ) : Type 0 where
  pub count_is : count ≡ length (all_of chunks) + length last
  pub are_full : AreFull 256 chunks
  pub room_is : room ≡ []
