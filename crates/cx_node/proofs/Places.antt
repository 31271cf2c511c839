-- The places of hosted roles, and what is asked of all of them.
use Rattle.std.specs.List.{range_with_len}
use Rattle.std.proofs.lemmas.Option.{cond_some}
use Rattle.cx_role.proofs.Common.{◌≡◌, ◌<◌, ◌+◌, ◌&&◌, ◌||◌, not, ℕ, zero, suc, Bool, true, false, cond, List, [], ◌∷◌, length, arith}
use Rattle.cx_role.proofs.Common.{nat_lt, Option, None, Some, option_map, position, if◌then◌else◌, refl, sym, ap, ◌∙◌, subst, list_all}
use Rattle.cx_role.proofs.Common.{list_any, position_or_len, nat_tests, numbers, same_role, RoleId}
use Rattle.cx_seat.specs.Prelude.{hosted_in, hosted_of, who, Hosted, has_finished, is_client, hosted_place}
use Rattle.cx_seat.specs.declared.guest.Guest.{Guest}
use Rattle.cx_course.specs.Run.{all_finished}

-- std's numbers in rising order
pub range_numbers : (first count : ℕ) → range_with_len first count ≡ numbers first count
range_numbers first zero = refl
range_numbers first (suc count) = ap (λ (l : List ℕ). first ∷ l) (range_numbers (first + 1) count)

moved_on : (t : Bool) (n : ℕ) → cond t (Some (1 + n)) None ≡ option_map (λ (i : ℕ). i + 1) (cond t (Some n) None)
moved_on true n = let e : 1 + n ≡ n + 1 = omega arith in ap (λ (k : ℕ). Some k) e
moved_on false n = refl

test_on : (n l : ℕ) → nat_lt (1 + n) (suc l) ≡ nat_lt n l
test_on n l = grind (arith, nat_tests)

test_first : (l : ℕ) → nat_lt 0 (suc l) ≡ true
test_first l = grind (arith, nat_tests)

next_place : (t : Bool) (n l : ℕ) (p : Option ℕ) → cond (nat_lt n l) (Some n) None ≡ p
    → cond (nat_lt (cond (not t) (1 + n) 0) (suc l)) (Some (cond (not t) (1 + n) 0)) None ≡
    (if t then Some 0 else option_map (λ (i : ℕ). i + 1) p)
next_place true n l p e = ap (λ (b : Bool). cond b (Some 0) None) (test_first l)
next_place false n l p e =
    ap (λ (b : Bool). cond b (Some (1 + n)) None) (test_on n l) ∙ moved_on (nat_lt n l) n
    ∙ ap (option_map (λ (i : ℕ). i + 1)) e

pub place_is : {K : Type 0} (role : RoleId) (gs : List (Guest K))
    → position (λ g. same_role role (who g)) gs ≡ hosted_place role (hosted_in gs)
place_is role [] = refl
place_is role (g ∷ gs) =
    next_place (same_role role (who g)) (position_or_len (λ g. same_role role (who g)) gs) (length gs)
    (hosted_place role (hosted_in gs)) (place_is role gs)

pub place_within : {K : Type 0} (role : RoleId) (gs : List (Guest K)) (i : ℕ) → hosted_place role (hosted_in gs) ≡ Some i
    → i < length gs
place_within role gs i e =
    let n = position_or_len (λ g. same_role role (who g)) gs in
    let p = cond_some (nat_lt n (length gs)) n i (place_is role gs ∙ e) in
    let q : n < length gs = within n (length gs) p.0 in
    subst (λ k. k < length gs) p.1 q
  where
    within : (n l : ℕ) → nat_lt n l ≡ true → n < l
    within n l t = grind (arith, nat_tests)

pub any_hosted : {K : Type 0} (p : Hosted → Bool) (gs : List (Guest K))
    → list_any (λ g. p (hosted_of g)) gs ≡ list_any p (hosted_in gs)
any_hosted p [] = refl
any_hosted p (g ∷ gs) = ap (λ t. p (hosted_of g) || t) (any_hosted p gs)

all_hosted : {K : Type 0} (p : Hosted → Bool) (gs : List (Guest K))
    → list_all (λ g. p (hosted_of g)) gs ≡ list_all p (hosted_in gs)
all_hosted p [] = refl
all_hosted p (g ∷ gs) = ap (λ t. p (hosted_of g) && t) (all_hosted p gs)

pub finished_there : {K : Type 0} (gs : List (Guest K)) (b : Bool) → true ≡ list_any (λ g. is_client (hosted_of g)) gs
    → b ≡ list_all (λ g. has_finished (hosted_of g)) gs → b ≡ all_finished (hosted_in gs)
unfolding all_finished
finished_there gs b some all =
    all ∙ all_hosted has_finished gs ∙ ap (λ t. t && list_all has_finished (hosted_in gs))
    (some ∙ any_hosted is_client gs)

pub none_there : {K : Type 0} (gs : List (Guest K)) (b : Bool) → b ≡ false
    → b ≡ list_any (λ g. is_client (hosted_of g)) gs → b ≡ all_finished (hosted_in gs)
unfolding all_finished
none_there gs b nothing is =
    nothing ∙ ap (λ t. t && list_all has_finished (hosted_in gs)) (sym nothing ∙ is ∙ any_hosted is_client gs)
