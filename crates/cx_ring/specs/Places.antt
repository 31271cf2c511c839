-- Places that are emptied.
use Rattle.std.specs.Prelude.{ℕ, zero, suc, ◌+◌, ◌%◌, List, Option, None, slice_set}

-- the places without the values of `count` slots from the first on
abbrev pub emptied : {A : Type 0} → ℕ → ℕ → List (Option A) → List (Option A)
emptied first zero places = places
emptied first (suc count) places = slice_set (emptied first count places) ((first + count) % 32) None
