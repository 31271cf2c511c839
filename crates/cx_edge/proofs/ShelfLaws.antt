-- Places of stores, and the list of those that are out as one is lent and given back.
use Rattle.cx_base.proofs.Common.{◌≡◌, ℕ, Bool, true, false, ◌==◌, ◌&&◌, List, [], ◌∷◌, ◌++◌, arith, refl, sym, ap, ◌∙◌, inl, inr, list_any}
use Rattle.cx_base.proofs.Common.{cases_Bool, nat_tests, same_role, code_of, kind_of}
use Rattle.cx_base.specs.declared.role.RoleId.{RoleId}
use Rattle.cx_base.specs.declared.role.Kind.{Kind}
use Rattle.cx_base.specs.declared.role.Kind.TheVariants.{Client}
use Rattle.cx_edge.specs.declared.shelf.Shelf.{Shelf}
use Rattle.cx_edge.specs.Depot.{IsOut, without}
use Rattle.cx_edge.specs.Shelf.{same_shelf}

same_number : (i j : ℕ) → (i == j) ≡ true → i ≡ j
same_number i j h = grind (arith, nat_tests)

and_both : (a b : Bool) → (a && b) ≡ true → (a ≡ true) × (b ≡ true)
and_both true b h = (refl, h)
and_both false b h = cc

kind_back : (k : Kind) → kind_of (code_of k) ≡ k
kind_back Client = refl
kind_back other = refl

pub same_role-true : (a b : RoleId) → same_role a b ≡ true → a ≡ b
same_role-true a b h =
    let p = and_both (code_of a.kind == code_of b.kind) (a.index == b.index) h in
    let kinds : a.kind ≡ b.kind =
    sym (kind_back a.kind) ∙ ap kind_of (same_number (code_of a.kind) (code_of b.kind) p.0) ∙ kind_back b.kind in
    let indexes = same_number a.index b.index p.1 in
    λ i. record { kind = kinds i; index = indexes i }

number_itself : (i : ℕ) → (i == i) ≡ true
number_itself i = grind (arith, nat_tests)

same_role-itself : (a : RoleId) → same_role a a ≡ true
same_role-itself a = rw (number_itself (code_of a.kind), number_itself a.index) refl

pub same_shelf-true : (a b : Shelf) → same_shelf a b ≡ true → a ≡ b
same_shelf-true a b h =
    let p = and_both (same_role a.role b.role) (a.side == b.side) h in
    let roles = same_role-true a.role b.role p.0 in
    let sides = same_number a.side b.side p.1 in
    λ i. record { role = roles i; side = sides i }

pub same_shelf-itself : (a : Shelf) → same_shelf a a ≡ true
same_shelf-itself a = rw (same_role-itself a.role, number_itself a.side) refl

pub still_out : (which place : Shelf) (out : List Shelf) → IsOut which (without place out) → IsOut which out
still_out which place [] out = out
still_out which place (p ∷ rest) out = elim (cases_Bool (same_shelf which p)) [
  | inl is ↦ rw is refl
  | inr not_which ↦ rw not_which (elim (cases_Bool (same_shelf place p)) [
    | inl is ↦ rw is at out
    | inr not_place ↦ still_out which place rest (rw (not_place, not_which) at out)
  ])
]

pub out_last : (place : Shelf) (out : List Shelf) → IsOut place (out ++ place ∷ [])
out_last place [] = rw (same_shelf-itself place) refl
out_last place (p ∷ rest) = elim (cases_Bool (same_shelf place p)) [
  | inl is ↦ rw is refl
  | inr other ↦ rw other (out_last place rest)
]

-- a store that was lent last, given back
pub without_last : (place : Shelf) (out : List Shelf) → list_any (same_shelf place) out ≡ false → without place (out ++ place ∷ []) ≡ out
without_last place [] none = rw (same_shelf-itself place) refl
without_last place (p ∷ rest) none = elim (cases_Bool (same_shelf place p)) [
  | inl is ↦ absurd (true_is_false (rw is at none))
  | inr other ↦ rw other (ap (λ (ps : List Shelf). p ∷ ps) (without_last place rest (rw other at none)))
]
  where
    true_is_false : true ≡ false → ⊥
    true_is_false e = cc
