-- Bytes cut into pieces.
use Rattle.std.specs.Prelude.{◌≡◌, ◌≤◌, ◌-◌, ℕ, zero, suc, List, [], ◌∷◌, take, drop}

-- the pieces of bytes from a place on, given where each of them ends
abbrev pub split_at_ends : ℕ → List ℕ → List ℕ → List (List ℕ)
split_at_ends from [] bytes = []
split_at_ends from (end ∷ ends) bytes = take (end - from) (drop from bytes) ∷ split_at_ends end ends bytes

-- each piece ends at or after where it begins, and the last one where the bytes end
abbrev pub AreEnds : ℕ → List ℕ → ℕ → Type 0
AreEnds from [] all = from ≡ all
AreEnds from (end ∷ ends) all = (from ≤ end) × AreEnds end ends all

-- where the piece of a number begins: where the one before it ends
abbrev pub begin_of : ℕ → List ℕ → ℕ → ℕ
begin_of from ends zero = from
begin_of from [] (suc number) = 0
begin_of from (end ∷ ends) (suc number) = begin_of end ends number
