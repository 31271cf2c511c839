-- Slots in a ring and in the list of those that were noted.
use Rattle.std.proofs.Common.{Bor, option_copied}
use Rattle.std.proofs.lemmas.Map.Views.{any-filter_same}
use Rattle.cx_role.proofs.Common.{◌≡◌, ◌==◌, ℕ, ◌&&◌, ◌||◌, nat_le, is_some, filter, List, [], ◌∷◌, ◌++◌, refl, ap, arith, sym, ◌∙◌, Option}
use Rattle.cx_role.proofs.Common.{Some, None, inl, inr, cases_Bool, eqb-true, nat_tests, list_any-append, is_in}
use Rattle.cx_base.proofs.Used.{or_false}
use Rattle.cx_ring.specs.Ring.{value_at, with_value, values_from_slot}
use Rattle.cx_leader.specs.Knowing.{AreSame}

abbrev pub itself : ℕ → ℕ
itself s = s

in_push : (s v : ℕ) (xs : List ℕ) → is_in s (xs ++ v ∷ []) ≡ (is_in s xs || (v == s))
in_push s v xs = list_any-append (λ x. x == s) xs (v ∷ []) ∙ ap (λ b. is_in s xs || b) (or_false (v == s))

in_put : (s v : ℕ) (xs : List ℕ) → is_in s (with_value itself v xs) ≡ (is_in s xs || (v == s))
in_put s v [] = or_false (v == s)
in_put s v (x ∷ xs) = grind (arith, nat_tests, in_put s v xs)

in_from : (k s : ℕ) (xs : List ℕ) → is_in s (filter (λ x. nat_le k x) xs) ≡ (nat_le k s && is_in s xs)
in_from k s xs = any-filter_same (λ x. x == s) (λ x. nat_le k x) (nat_le k s) (λ x e. ap (nat_le k) (eqb-true x s e)) xs

-- a slot that is noted is in both
pub same_noted : (s : ℕ) (in_ring list : List ℕ) → AreSame in_ring list → AreSame (with_value itself s in_ring) (list ++ s ∷ [])
same_noted s in_ring list are =
    record { same = λ x. in_put x s in_ring ∙ ap (λ b. b || (s == x)) (are.same x) ∙ sym (in_push x s list) }

-- and the slots below a beginning in neither
pub same_from : (k : ℕ) (in_ring list : List ℕ) → AreSame in_ring list
    → AreSame (values_from_slot itself k in_ring) (filter (λ s. nat_le k s) list)
same_from k in_ring list are =
    record { same = λ x. in_from k x in_ring ∙ ap (λ b. nat_le k x && b) (are.same x) ∙ sym (in_from k x list) }

is_found : (s : ℕ) (xs : List ℕ) → is_some (value_at itself s xs) ≡ is_in s xs
is_found s [] = refl
is_found s (x ∷ xs) =
    elim (cases_Bool (x == s)) as (λ _. is_some (value_at itself s (x ∷ xs)) ≡ is_in s (x ∷ xs)) [
      | inl e ↦ rw e refl
      | inr e ↦ rw e (is_found s xs)
    ]

-- a slot that is in the ring is in the list
pub copied : (o : Option (Bor ℕ)) → is_some o ≡ is_some (option_copied o)
copied None = refl
copied (Some x) = refl

pub found_in : (s : ℕ) (in_ring list : List ℕ) → AreSame in_ring list → is_some (value_at itself s in_ring) ≡ is_in s list
found_in s in_ring list are = is_found s in_ring ∙ are.same s

pub ruleset found = (copied, found_in)
