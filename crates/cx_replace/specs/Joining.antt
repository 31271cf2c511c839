-- Where an entry belongs.
use Rattle.std.specs.Prelude.{◌∷◌, if◌then◌else◌, suc}
use Rattle.cx_role.specs.Prelude.{ℕ, List, [], Entry, Round, is_before}

-- how many entries at the front are of earlier rounds
abbrev pub earlier : Round → List Entry → ℕ
earlier i [] = 0
earlier i (e ∷ es) = if is_before e.round i then suc (earlier i es) else 0
