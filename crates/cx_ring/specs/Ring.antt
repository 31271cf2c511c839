-- Values of the slots of a window.
use Rattle.std.specs.Prelude.{◌≡◌, ℕ, ◌+◌, ◌%◌, ◌^◌, ◌<◌, ◌≤◌, ◌==◌, Bool, max, nat_le, if◌then◌else◌, List, [], ◌∷◌, length, get_or, find}
use Rattle.std.specs.Prelude.{filter, All, Option, None, ◌⊎◌}

-- where the window begins, its values in the order in which their slots came, and whether there is room for more
pub record RingState (A : Type 0) : Type 0 where
  pub first : ℕ
  pub items : List A
  pub room : Bool

-- the value of a slot
abbrev pub value_at : {A : Type 0} → (A → ℕ) → ℕ → List A → Option A
value_at at s xs = find (λ x. at x == s) xs

-- the values with one in the place of the earlier one of its slot, or at the end
abbrev pub with_value : {A : Type 0} → (A → ℕ) → A → List A → List A
with_value at one [] = one ∷ []
with_value at one (x ∷ xs) = if at x == at one then one ∷ xs else x ∷ with_value at one xs

-- the values from a slot on
abbrev pub values_from_slot : {A : Type 0} → (A → ℕ) → ℕ → List A → List A
values_from_slot at s xs = filter (λ x. nat_le s (at x)) xs

-- a greater beginning drops the values below it
abbrev pub raise_ring : {A : Type 0} → (A → ℕ) → ℕ → RingState A → RingState A
raise_ring at s r = record r { first = max r.first s; items = values_from_slot at (max r.first s) r.items }

-- a slot of the window
pub record IsNear (first s : ℕ) : Type 0 where
  pub low : first ≤ s
  pub high : s < first + 32

-- What is where: no places, or 32, and each slot's value at the place of its number modulo 32.
pub record IsRing {A : Type 0} (at : A → ℕ) (first : ℕ) (places : List (Option A)) (items : List A) : Type 0 where
  pub limit : first ≤ 2 ^ 40
  pub size : (length places ≡ 0) ⊎ (length places ≡ 32)
  pub near : All (λ x. IsNear first (at x)) items
  pub found : (s : ℕ) → IsNear first s → get_or places (s % 32) None ≡ value_at at s items
