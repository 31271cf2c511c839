-- Pairs as they came, and their places in the rising order of their keys.
use Rattle.std.specs.Prelude.{ℕ, ◌<◌, ◌==◌, Bool, false, List, [], ◌∷◌, Option, None, Some, if◌then◌else◌, map, length, slice_index_or}
use Rattle.cx_base.specs.Fold.{is_less}
use Rattle.cx_base.specs.declared.command.Pair.{Pair}
use Rattle.cx_kv.specs.Rising.{IsRising}

-- the pair at a place
abbrev pub pair_at : List Pair → ℕ → Pair
pair_at list place = slice_index_or list place (record { key = []; text = [] })

-- the pairs at these places
abbrev pub picked : List Pair → List ℕ → List Pair
picked list order = map (pair_at list) order

-- each place is below the end
abbrev pub AreBelow : ℕ → List ℕ → Type 0
AreBelow end [] = Unit {0}
AreBelow end (place ∷ order) = (place < end) × AreBelow end order

-- the places are those of pairs, whose keys rise
pub record IsKeyOrder (list : List Pair) (order : List ℕ) : Type 0 where
  pub below : AreBelow (length list) order
  pub rising : IsRising (picked list order)

-- whether a pair, if there is one, comes before a key
abbrev pub is_pair_before : List ℕ → Option Pair → Bool
is_pair_before key None = false
is_pair_before key (Some p) = is_less p.key key

-- a place, once the last pair has moved to the gap
abbrev pub renamed : ℕ → ℕ → ℕ → ℕ
renamed last gap place = if place == last then gap else place
