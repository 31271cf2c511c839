-- Maps as they are printed.
use Rattle.std.specs.Prelude.{ℕ, List, [], ◌∷◌, ◌++◌, codes}
use Rattle.cx_base.specs.declared.command.Pair.{Pair}

-- a space, the key, '=' and its text
abbrev pub pair_text : Pair → List ℕ
pair_text p = codes " " ++ p.key ++ codes "=" ++ p.text

-- each key with its text, in the rising order of the keys
abbrev pub map_text : List Pair → List ℕ
map_text [] = []
map_text (p ∷ map) = pair_text p ++ map_text map
