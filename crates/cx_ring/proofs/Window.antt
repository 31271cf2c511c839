-- Values of a window, and the places where they are.
use Rattle.cx_base.proofs.Common.{◌≡◌, ◌≢◌, ℕ, zero, suc, ◌+◌, ◌%◌, ◌<◌, ◌≤◌, ◌⊎◌, inl, inr, true, false, ◌==◌, List, [], ◌∷◌, length}
use Rattle.cx_base.proofs.Common.{get_or, All, Option, Some, None, refl, ap, sym, ◌∙◌, arith, nat_le, slice_set, cases_Bool, nat_tests}
use Rattle.cx_base.proofs.Common.{div-add-mod', get_or-set_other, length-set, All-nil, All-cons, All-head, All-tail}
use Rattle.cx_ring.specs.Ring.{IsNear, value_at, with_value, values_from_slot}
use Rattle.cx_ring.specs.Places.{emptied}

-- two slots of one window have places of their own
apart : (a b : ℕ) → a < b → b < a + 32 → a % 32 ≡ b % 32 → ⊥
apart a b l h e = let p = div-add-mod' a 32 in let q = div-add-mod' b 32 in omega (arith, p, q)

pub places_apart : (first a b : ℕ) → IsNear first a → IsNear first b → a ≢ b → a % 32 ≢ b % 32
places_apart first a b h k n e = elim (order a b n) [
  | inl l ↦ apart a b l (omega (arith, h.low, k.high)) e
  | inr l ↦ apart b a l (omega (arith, k.low, h.high)) (sym e)
]
  where
    order : (a b : ℕ) → a ≢ b → (a < b) ⊎ (b < a)
    order a b n = grind (arith, nat_tests)

module _ {A : Type 0} (at : A → ℕ) where
  -- no value is outside of the window
  pub outside : (first s : ℕ) (xs : List A) → All (λ x. IsNear first (at x)) xs → (s < first) ⊎ (first + 32 ≤ s) → value_at at s xs ≡ None
  outside first s [] h o = refl
  outside first s (x ∷ xs) h o =
      let near : IsNear first (at x) = All-head (λ y. IsNear first (at y)) x xs h in
      let other : (at x == s) ≡ false =
      elim o [ inl l ↦ grind (arith, nat_tests, near.low) | inr l ↦ grind (arith, nat_tests, near.high) ] in
      rw other (outside first s xs (All-tail (λ y. IsNear first (at y)) x xs h) o)

  pub value_at-with_same : (one : A) (xs : List A) → value_at at (at one) (with_value at one xs) ≡ Some one
  value_at-with_same one [] = let t : (at one == at one) ≡ true = grind (arith, nat_tests) in rw t refl
  value_at-with_same one (x ∷ xs) =
      elim (cases_Bool (at x == at one)) as (λ _. value_at at (at one) (with_value at one (x ∷ xs)) ≡ Some one) [
        | inl e ↦ let t : (at one == at one) ≡ true = grind (arith, nat_tests) in rw e (rw t refl)
        | inr e ↦ rw e (rw e (value_at-with_same one xs))
      ]

  pub value_at-with_other : (one : A) (s : ℕ) (xs : List A) → s ≢ at one → value_at at s (with_value at one xs) ≡ value_at at s xs
  value_at-with_other one s [] n = let t : (at one == s) ≡ false = grind (arith, nat_tests) in rw t refl
  value_at-with_other one s (x ∷ xs) n =
      elim (cases_Bool (at x == at one)) as (λ _. value_at at s (with_value at one (x ∷ xs)) ≡ value_at at s (x ∷ xs)) [
        | inl e ↦
            let t : (at one == s) ≡ false = grind (arith, nat_tests) in
            let u : (at x == s) ≡ false = grind (arith, nat_tests) in
            rw e (rw (t, u) refl)
        | inr e ↦ rw e (elim (cases_Bool (at x == s)) as (λ _. value_at at s (x ∷ with_value at one xs) ≡ value_at at s (x ∷ xs)) [
          | inl t ↦ rw t refl
          | inr t ↦ rw t (value_at-with_other one s xs n)
        ])
      ]

  pub All-with_value : (P : A → Type 0) (one : A) (xs : List A) → P one → All P xs → All P (with_value at one xs)
  All-with_value P one [] h all = All-cons P one [] h (All-nil P)
  All-with_value P one (x ∷ xs) h all = elim (cases_Bool (at x == at one)) as (λ _. All P (with_value at one (x ∷ xs))) [
    | inl e ↦ rw e (All-cons P one xs h (All-tail P x xs all))
    | inr e ↦ rw e (All-cons P x (with_value at one xs) (All-head P x xs all) (All-with_value P one xs h (All-tail P x xs all)))
  ]

  pub value_at-from : (first s : ℕ) (xs : List A) → first ≤ s → value_at at s (values_from_slot at first xs) ≡ value_at at s xs
  value_at-from first s [] l = refl
  value_at-from first s (x ∷ xs) l =
      elim (cases_Bool (nat_le first (at x))) as (λ _. value_at at s (values_from_slot at first (x ∷ xs)) ≡ value_at at s (x ∷ xs)) [
        | inl e ↦ rw e (elim (cases_Bool (at x == s)) as (λ _. value_at at s (x ∷ values_from_slot at first xs) ≡ value_at at s (x ∷ xs)) [
          | inl t ↦ rw t refl
          | inr t ↦ rw t (value_at-from first s xs l)
        ])
        | inr e ↦ let t : (at x == s) ≡ false = grind (arith, nat_tests) in rw e (rw t (value_at-from first s xs l))
      ]

  pub near_from : (first more : ℕ) (xs : List A) → first ≤ more → All (λ x. IsNear first (at x)) xs
      → All (λ x. IsNear more (at x)) (values_from_slot at more xs)
  near_from first more [] l all = All-nil (λ x. IsNear more (at x))
  near_from first more (x ∷ xs) l all =
      elim (cases_Bool (nat_le more (at x))) as (λ _. All (λ y. IsNear more (at y)) (values_from_slot at more (x ∷ xs))) [
        | inl e ↦
            let near : IsNear first (at x) = All-head (λ y. IsNear first (at y)) x xs all in
            let is : IsNear more (at x) = record { low = grind (arith, nat_tests); high = omega (arith, near.high) } in
            rw e (All-cons (λ y. IsNear more (at y)) x (values_from_slot at more xs) is
            (near_from first more xs l (All-tail (λ y. IsNear first (at y)) x xs all)))
        | inr e ↦ rw e (near_from first more xs l (All-tail (λ y. IsNear first (at y)) x xs all))
      ]

-- what is at a place once others are emptied
module _ {A : Type 0} where
  pub length-emptied : (first n : ℕ) (places : List (Option A)) → length (emptied first n places) ≡ length places
  length-emptied first zero places = refl
  length-emptied first (suc n) places = length-set (emptied first n places) ((first + n) % 32) None ∙ length-emptied first n places

  set_none : (places : List (Option A)) (i j : ℕ) → ((j ≡ i) ⊎ (get_or places j None ≡ None))
      → get_or (slice_set places i None) j None ≡ None
  set_none [] i j h = refl
  set_none (p ∷ places) zero zero h = refl
  set_none (p ∷ places) zero (suc j) (inl e) = absurd (omega arith)
  set_none (p ∷ places) zero (suc j) (inr e) = e
  set_none (p ∷ places) (suc i) zero (inl e) = absurd (omega arith)
  set_none (p ∷ places) (suc i) zero (inr e) = e
  set_none (p ∷ places) (suc i) (suc j) (inl e) = set_none places i j (inl (omega arith))
  set_none (p ∷ places) (suc i) (suc j) (inr e) = set_none places i j (inr e)

  pub emptied_is : (first n k : ℕ) (places : List (Option A)) → k < n → get_or (emptied first n places) ((first + k) % 32) None ≡ None
  emptied_is first zero k places l = absurd (omega arith)
  emptied_is first (suc n) k places l = elim (last k n l) [
    | inl e ↦ set_none (emptied first n places) ((first + n) % 32) ((first + k) % 32) (inl (ap (λ m. (first + m) % 32) e))
    | inr m ↦ set_none (emptied first n places) ((first + n) % 32) ((first + k) % 32) (inr (emptied_is first n k places m))
  ]
    where
      last : (k n : ℕ) → k < suc n → (k ≡ n) ⊎ (k < n)
      last k n l = grind (arith, nat_tests)

  pub emptied_other : (first n j : ℕ) (places : List (Option A)) → ((k : ℕ) → k < n → j ≢ (first + k) % 32)
      → get_or (emptied first n places) j None ≡ get_or places j None
  emptied_other first zero j places h = refl
  emptied_other first (suc n) j places h =
      get_or-set_other (emptied first n places) ((first + n) % 32) j None None (h n (omega arith))
      ∙ emptied_other first n j places (λ k l. h k (omega (arith, l)))

  -- a write beyond all places
  pub set_past : (places : List (Option A)) (i : ℕ) (p : Option A) → length places ≤ i → slice_set places i p ≡ places
  set_past [] i p l = refl
  set_past (q ∷ places) zero p l = absurd (omega arith)
  set_past (q ∷ places) (suc i) p l = ap (λ (ps : List (Option A)). q ∷ ps) (set_past places i p (omega (arith, l)))

  -- within the places the default doesn't matter
  pub get_or-within : (places : List (Option A)) (i : ℕ) (p q : Option A) → i < length places → get_or places i p ≡ get_or places i q
  get_or-within [] i p q l = absurd (omega arith)
  get_or-within (r ∷ places) zero p q l = refl
  get_or-within (r ∷ places) (suc i) p q l = get_or-within places i p q (omega (arith, l))
