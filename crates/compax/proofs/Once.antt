-- A role that stands once stands at one place.
use Rattle.cx_base.proofs.Common.{◌≡◌, ℕ, zero, suc, Bool, ◌==◌, ◌&&◌, not, true, false, List, [], ◌∷◌, Some, slice_get, refl, sym, ap, ◌∙◌}
use Rattle.cx_base.proofs.Common.{arith, inl, inr, list_any, cases_Bool, nat_tests, same_Some, code_of, same_role}
use Rattle.cx_base.specs.declared.role.RoleId.{RoleId}
use Rattle.compax.specs.Roles.{stand_once}

number_itself : (i : ℕ) → (i == i) ≡ true
number_itself i = grind (arith, nat_tests)

same_role-itself : (a : RoleId) → same_role a a ≡ true
same_role-itself a = rw (number_itself (code_of a.kind), number_itself a.index) refl

among : (me : RoleId) (roles : List RoleId) (i : ℕ) → slice_get roles i ≡ Some me → list_any (same_role me) roles ≡ true
among me [] i at = cc
among me (r ∷ roles) zero at = rw (same_Some _ _ at, same_role-itself me) refl
among me (r ∷ roles) (suc i) at = elim (cases_Bool (same_role me r)) [
  | inl is ↦ rw is refl
  | inr other ↦ rw other (among me roles i at)
]

-- the first stands nowhere after itself
alone : (a b : Bool) → (not a && b) ≡ true → a ≡ true → {A : Type 0} → A
alone true b once twice = cc
alone false b once twice = cc

rest : (a b : Bool) → (not a && b) ≡ true → b ≡ true
rest true b once = cc
rest false b once = once

pub at_one_place : (roles : List RoleId) → stand_once roles ≡ true → (i j : ℕ) (me : RoleId) → slice_get roles i ≡ Some me
    → slice_get roles j ≡ Some me → i ≡ j
at_one_place [] once i j me at too = cc
at_one_place (r ∷ roles) once zero zero me at too = refl
at_one_place (r ∷ roles) once zero (suc j) me at too =
    alone (list_any (same_role r) roles) (stand_once roles) once (among r roles j (too ∙ sym at))
at_one_place (r ∷ roles) once (suc i) zero me at too =
    alone (list_any (same_role r) roles) (stand_once roles) once (among r roles i (at ∙ sym too))
at_one_place (r ∷ roles) once (suc i) (suc j) me at too =
    ap suc (at_one_place roles (rest (list_any (same_role r) roles) (stand_once roles) once) i j me at too)
