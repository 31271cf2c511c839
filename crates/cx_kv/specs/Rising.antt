-- Maps as lists whose keys rise.
use Rattle.std.specs.Prelude.{◌≡◌, ℕ, Bool, true, List, [], ◌∷◌}
use Rattle.cx_base.specs.Fold.{is_less}
use Rattle.cx_base.specs.declared.command.Pair.{Pair}

-- a key comes before all keys of a map
abbrev pub IsBeforeAll : List ℕ → List Pair → Type 0
IsBeforeAll key [] = Unit {0}
IsBeforeAll key (p ∷ map) = (is_less key p.key ≡ true) × IsBeforeAll key map

-- each key comes before all keys after it
abbrev pub IsRising : List Pair → Type 0
IsRising [] = Unit {0}
IsRising (p ∷ map) = IsBeforeAll p.key map × IsRising map

-- whether the key of a pair comes before another's
abbrev pub has_lower_key : Pair → Pair → Bool
has_lower_key p later = is_less p.key later.key
