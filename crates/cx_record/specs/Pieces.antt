-- Words as they are written one after the other.
use Rattle.std.specs.Prelude.{ℕ, List, [], ◌∷◌, ◌++◌}

-- words, each behind this byte
abbrev pub behind_each : ℕ → List (List ℕ) → List ℕ
behind_each b [] = []
behind_each b (word ∷ words) = b ∷ word ++ behind_each b words

-- words with this byte between them
abbrev pub in_row : ℕ → List (List ℕ) → List ℕ
in_row b [] = []
in_row b (word ∷ words) = word ++ behind_each b words
