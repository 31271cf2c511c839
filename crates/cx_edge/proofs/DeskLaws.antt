-- What a count does to the counts of all roles, and changes at a place that was found.
use Rattle.cx_base.proofs.Common.{map, ◌≡◌, ◌≤◌, ◌<◌, ℕ, zero, suc, Bool, true, false, if◌then◌else◌, List, [], ◌∷◌, arith, refl, sym, ap}
use Rattle.cx_base.proofs.Common.{◌∙◌, inl, inr, length, None, Some, cond, nat_lt, slice_index_or, slice_set, position, position_or_len}
use Rattle.cx_base.proofs.Common.{remove, cases_Bool, nat_tests, Rises, same_role}
use Rattle.cx_base.specs.declared.role.RoleId.{RoleId}
use Rattle.cx_edge.specs.declared.rows.CountRow.{CountRow}
use Rattle.cx_edge.specs.declared.shelf.Shelf.{Shelf}
use Rattle.cx_edge.specs.Depot.{without, first_faults}
use Rattle.cx_edge.specs.Desk.{plus, of_role, no_faults, fault_count_of, with_faults}
use Rattle.cx_edge.specs.Shelf.{same_shelf}
use Rattle.cx_edge.proofs.ShelfLaws.{same_role-true}

plus_later : (a b : ℕ) → a ≤ plus a b
plus_later a b = omega arith

plus_rises : (a b : ℕ) → 0 < b → Rises a (plus a b)
plus_rises a b some = grind arith

plus_none : (a : ℕ) → plus a 0 ≡ a
plus_none a = omega arith

pub count_first : (role : RoleId) (roles : List RoleId) → fault_count_of role (map no_faults roles) ≡ first_faults role roles
count_first role [] = refl
count_first role (r ∷ rest) = elim (cases_Bool (same_role role r)) [
  | inl is ↦ rw is refl
  | inr other ↦ rw other (count_first role rest)
]

pub count_later : (role : RoleId) (n : ℕ) (rows : List CountRow) → fault_count_of role rows ≤ fault_count_of role (with_faults role n rows)
count_later role n [] = omega arith
count_later role n (row ∷ rest) = elim (cases_Bool (of_role role row)) [
  | inl is ↦ rw (is, is) (plus_later row.count n)
  | inr other ↦ rw (other, other) (count_later role n rest)
]

pub count_rises : (role : RoleId) (n : ℕ) (rows : List CountRow) → 0 < n
    → Rises (fault_count_of role rows) (fault_count_of role (with_faults role n rows))
count_rises role n [] some = inr (omega arith)
count_rises role n (row ∷ rest) some = elim (cases_Bool (of_role role row)) [
  | inl is ↦ rw (is, is) (plus_rises row.count n some)
  | inr other ↦ rw (other, other) (count_rises role n rest some)
]

pub count_none : (who role : RoleId) (rows : List CountRow) → fault_count_of who (with_faults role 0 rows) ≡ fault_count_of who rows
count_none who role [] = refl
count_none who role (row ∷ rest) = elim (cases_Bool (of_role role row)) [
  | inl is ↦ rw (is, plus_none row.count) refl
  | inr other ↦ rw other (ap (λ n. if of_role who row then row.count else n) (count_none who role rest))
]

pub count_other : (who role : RoleId) (n : ℕ) (rows : List CountRow) → (who ≡ role → ⊥)
    → fault_count_of who (with_faults role n rows) ≡ fault_count_of who rows
count_other who role n [] other = refl
count_other who role n (row ∷ rest) other = elim (cases_Bool (of_role role row)) [
  | inl is ↦ elim (cases_Bool (of_role who row)) [
    | inl both ↦ absurd (other (same_role-true who row.role both ∙ sym (same_role-true role row.role is)))
    | inr not_who ↦ rw (is, not_who) refl
  ]
  | inr not_role ↦ rw not_role (ap (λ m. if of_role who row then row.count else m) (count_other who role n rest other))
]

pub counted_at : (role : RoleId) (n : ℕ) (rows : List CountRow) (i : ℕ) (d : CountRow) → i < length rows
    → of_role role (slice_index_or rows i d) ≡ true → ((k : ℕ) → k < i → of_role role (slice_index_or rows k d) ≡ false)
    → slice_set rows i (record (slice_index_or rows i d) { count = plus (slice_index_or rows i d).count n }) ≡ with_faults role n rows
counted_at role n [] i d within at before = absurd (omega arith)
counted_at role n (row ∷ rest) zero d within at before = rw at refl
counted_at role n (row ∷ rest) (suc i) d within at before = rw (before 0 (omega arith))
    (ap (λ (rs : List CountRow). row ∷ rs) (counted_at role n rest i d (omega arith) at (λ k less. before (suc k) (omega arith))))

pub without_at : (place : Shelf) (places : List Shelf) (i : ℕ) (d : Shelf) → i < length places
    → same_shelf place (slice_index_or places i d) ≡ true
    → ((k : ℕ) → k < i → same_shelf place (slice_index_or places k d) ≡ false) → remove places i ≡ without place places
without_at place [] i d within at before = absurd (omega arith)
without_at place (p ∷ rest) zero d within at before = rw at refl
without_at place (p ∷ rest) (suc i) d within at before = rw (before 0 (omega arith))
    (ap (λ (ps : List Shelf). p ∷ ps) (without_at place rest i d (omega arith) at (λ k less. before (suc k) (omega arith))))

pub past_end : {T : Type 0} (p : T → Bool) (xs : List T) → position p xs ≡ None → length xs ≤ position_or_len p xs
past_end p xs none = go (nat_lt (position_or_len p xs) (length xs)) refl none
  where
    go : (b : Bool) → nat_lt (position_or_len p xs) (length xs) ≡ b → (cond b (Some (position_or_len p xs)) None) ≡ None
        → length xs ≤ position_or_len p xs
    go true e n = cc
    go false e n = grind (arith, nat_tests)

pub counted_nowhere : (role : RoleId) (n : ℕ) (rows : List CountRow) → position (of_role role) rows ≡ None → with_faults role n rows ≡ rows
counted_nowhere role n rows none = go rows (past_end (of_role role) rows none)
  where
    go : (rs : List CountRow) → length rs ≤ position_or_len (of_role role) rs → with_faults role n rs ≡ rs
    go [] past = refl
    go (row ∷ rest) past = elim (cases_Bool (of_role role row)) [
      | inl is ↦ absurd (omega (arith, rw is at past))
      | inr other ↦ rw other (ap (λ (rs : List CountRow). row ∷ rs) (go rest (omega (arith, rw other at past))))
    ]

pub without_nowhere : (place : Shelf) (places : List Shelf) → position (same_shelf place) places ≡ None → without place places ≡ places
without_nowhere place places none = go places (past_end (same_shelf place) places none)
  where
    go : (ps : List Shelf) → length ps ≤ position_or_len (same_shelf place) ps → without place ps ≡ ps
    go [] past = refl
    go (p ∷ rest) past = elim (cases_Bool (same_shelf place p)) [
      | inl is ↦ absurd (omega (arith, rw is at past))
      | inr other ↦ rw other (ap (λ (ps : List Shelf). p ∷ ps) (go rest (omega (arith, rw other at past))))
    ]
