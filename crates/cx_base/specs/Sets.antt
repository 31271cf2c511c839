-- Sets of matchmakers: lists of ids that rise strictly.
use Rattle.std.specs.Prelude.{ℕ, Bool, true, ◌&&◌, nat_le, nat_lt, List, [], ◌∷◌, length, Option, None, Some, if◌then◌else◌}
use Rattle.std.specs.List.{list_all}

-- whether a list of numbers rises strictly
abbrev pub is_rising : List ℕ → Bool
is_rising [] = true
is_rising (n ∷ ns) = list_all (λ m. nat_lt n m) ns && is_rising ns

-- these ids, where they are a set
abbrev pub set_from_ids : List ℕ → Option (List ℕ)
set_from_ids ids = if nat_le (length ids) 7 && is_rising ids then Some ids else None

-- whether every id of the one set is above every id of the other
abbrev pub is_above : List ℕ → List ℕ → Bool
is_above s t = list_all (λ m. list_all (λ n. nat_lt n m) t) s
