-- The slots of a window that are known to be chosen, as contracts see them.
use Rattle.std.specs.Prelude.{◌≡◌, ◌∷◌, ◌++◌}
use Rattle.cx_role.specs.Prelude.{ℕ, max, nat_le, filter, List, [], is_in}

-- where the window begins, and the slots in the order in which they were noted
pub record KnownSlotsState : Type 0 where
  pub first : ℕ
  pub list : List ℕ

abbrev pub with_known_slot : ℕ → KnownSlotsState → KnownSlotsState
with_known_slot s k = record k { list = k.list ++ s ∷ [] }

-- a greater beginning drops the slots below it
abbrev pub known_from : ℕ → KnownSlotsState → KnownSlotsState
known_from s k = record { first = max k.first s; list = filter (λ x. nat_le (max k.first s) x) k.list }

-- the same slots are in both
pub record AreSame (in_ring list : List ℕ) : Type 0 where
  pub same : (s : ℕ) → is_in s in_ring ≡ is_in s list
