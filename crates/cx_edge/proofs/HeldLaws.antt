-- What other bytes in one store do to what all stores hold.
use Rattle.cx_base.proofs.Common.{◌≡◌, ◌<◌, ℕ, zero, suc, true, false, ◌||◌, if◌then◌else◌, List, [], ◌∷◌, length, arith, refl, sym, ap}
use Rattle.cx_base.proofs.Common.{◌∙◌, inl, inr, slice_index_or, slice_set, cases_Bool}
use Rattle.cx_edge.specs.declared.shelf.Shelf.{Shelf}
use Rattle.cx_edge.specs.Held.{ShelfContent, is_held_at, has_store, shelf_bytes, with_bytes}
use Rattle.cx_edge.proofs.ShelfLaws.{same_shelf-true}

pub with_own : (place : Shelf) (bytes : List ℕ) (rows : List ShelfContent) → has_store place rows ≡ true
    → shelf_bytes (with_bytes place bytes rows) place ≡ bytes
with_own place bytes [] has = cc
with_own place bytes (row ∷ rest) has = elim (cases_Bool (is_held_at place row)) [
  | inl is ↦ rw (is, is) refl
  | inr other ↦ rw (other, other) (with_own place bytes rest (rw other at has))
]

pub with_other : (which place : Shelf) (bytes : List ℕ) (rows : List ShelfContent) → (which ≡ place → ⊥)
    → shelf_bytes (with_bytes place bytes rows) which ≡ shelf_bytes rows which
with_other which place bytes [] other = refl
with_other which place bytes (row ∷ rest) other = elim (cases_Bool (is_held_at place row)) [
  | inl is ↦ elim (cases_Bool (is_held_at which row)) [
    | inl both ↦ absurd (other (same_shelf-true which row.place both ∙ sym (same_shelf-true place row.place is)))
    | inr not_which ↦ rw (is, not_which) refl
  ]
  | inr not_place ↦ rw not_place (ap (λ b. if is_held_at which row then row.bytes else b) (with_other which place bytes rest other))
]

pub with_has : (which place : Shelf) (bytes : List ℕ) (rows : List ShelfContent)
    → has_store which (with_bytes place bytes rows) ≡ has_store which rows
with_has which place bytes [] = refl
with_has which place bytes (row ∷ rest) = elim (cases_Bool (is_held_at place row)) [
  | inl is ↦ rw is refl
  | inr other ↦ rw other (ap (λ b. is_held_at which row || b) (with_has which place bytes rest))
]

pub with_at : (place : Shelf) (bytes : List ℕ) (rows : List ShelfContent) (i : ℕ) (d : ShelfContent) → i < length rows
    → is_held_at place (slice_index_or rows i d) ≡ true → ((k : ℕ) → k < i → is_held_at place (slice_index_or rows k d) ≡ false)
    → slice_set rows i (record (slice_index_or rows i d) { bytes = bytes }) ≡ with_bytes place bytes rows
with_at place bytes [] i d within at before = absurd (omega arith)
with_at place bytes (row ∷ rest) zero d within at before = rw at refl
with_at place bytes (row ∷ rest) (suc i) d within at before = rw (before 0 (omega arith))
    (ap (λ (rs : List ShelfContent). row ∷ rs) (with_at place bytes rest i d (omega arith) at (λ k less. before (suc k) (omega arith))))

-- what a store holds that stands first among those in its place
pub held_at : (place : Shelf) (rows : List ShelfContent) (i : ℕ) (d : ShelfContent) → i < length rows
    → is_held_at place (slice_index_or rows i d) ≡ true → ((k : ℕ) → k < i → is_held_at place (slice_index_or rows k d) ≡ false)
    → (shelf_bytes rows place ≡ (slice_index_or rows i d).bytes) × (has_store place rows ≡ true)
held_at place [] i d within at before = absurd (omega arith)
held_at place (row ∷ rest) zero d within at before = (rw at refl, rw at refl)
held_at place (row ∷ rest) (suc i) d within at before =
    let later = held_at place rest i d (omega arith) at (λ k less. before (suc k) (omega arith)) in
    rw (before 0 (omega arith)) later
