-- What a ring's places hold after each step.
use Rattle.std.proofs.Math.Nat.{add-mul-mod_self_right}
use Rattle.cx_base.proofs.Common.{◌≡◌, ◌≢◌, ℕ, zero, suc, ◌+◌, ◌-◌, ◌*◌, ◌/◌, ◌%◌, ◌^◌, ◌<◌, ◌≤◌, ◌⊎◌, inl, inr, Bool, true, ◌==◌, min}
use Rattle.cx_base.proofs.Common.{List, [], ◌∷◌, length, get_or, replicate, All, Option, Some, None, refl, ap, sym, ◌∙◌, arith, slice_set}
use Rattle.cx_base.proofs.Common.{nat_tests, div-add-mod', mod_below, get_or-set_other, get_or-set_same, length-set, All-nil}
use Rattle.cx_ring.specs.Ring.{IsNear, IsRing, value_at, with_value, values_from_slot}
use Rattle.cx_ring.specs.Places.{emptied}
use Rattle.cx_ring.proofs.Window.{places_apart, outside, value_at-with_same, value_at-with_other, All-with_value, value_at-from, near_from}
use Rattle.cx_ring.proofs.Window.{length-emptied, emptied_is, emptied_other}

same_or_not : (a b : ℕ) → (a ≡ b) ⊎ (a ≢ b)
same_or_not a b = grind (arith, nat_tests)

-- each slot from a first one on has the place of one of 32 slots from there on
around : (first s : ℕ) → first ≤ s → (first + (s - first) % 32) % 32 ≡ s % 32
around first s l =
    let parts = div-add-mod' (s - first) 32 in
    let is : s ≡ first + (s - first) % 32 + (s - first) / 32 * 32 = omega (arith, parts) in
    sym (add-mul-mod_self_right (first + (s - first) % 32) ((s - first) / 32) 32) ∙ ap (λ n. n % 32) (sym is)

module _ {A : Type 0} (at : A → ℕ) (first : ℕ) (places : List (Option A)) (items : List A) (is : IsRing at first places items) where
  -- one more value
  pub with_one : (one : A) (i : ℕ) (p : Option A) → length places ≡ 32 → IsNear first (at one) → i ≡ at one % 32 → p ≡ Some one
      → IsRing at first (slice_set places i p) (with_value at one items)
  with_one one i p size near e v = rw (e, v) (record {
    limit = is.limit;
    size = inr (length-set places (at one % 32) (Some one) ∙ size);
    near = All-with_value at (λ x. IsNear first (at x)) one items near is.near;
    found = λ s h. elim (same_or_not s
        (at one)) as (λ _. get_or (slice_set places (at one % 32) (Some one)) (s % 32) None ≡ value_at at s (with_value at one items)) [
          | inl same ↦
              rw same (get_or-set_same places (at one % 32) (Some one) None (within (at one) size) ∙ sym (value_at-with_same at one items))
          | inr other ↦
              get_or-set_other places (at one % 32) (s % 32) (Some one) None (places_apart first s (at one) h near other)
              ∙ is.found s h ∙ sym (value_at-with_other at one s items other)
        ];
  })
    where
      within : (n : ℕ) → length places ≡ 32 → n % 32 < length places
      within n size = let b = mod_below n 32 (omega arith) in omega (arith, b)

  empty_size : (n : ℕ) → (length (emptied first n places) ≡ 0) ⊎ (length (emptied first n places) ≡ 32)
  empty_size n = elim is.size [ inl z ↦ inl (length-emptied first n places ∙ z) | inr z ↦ inr (length-emptied first n places ∙ z) ]

  -- a later beginning
  pub from_later : (more n : ℕ) → first ≤ more → more ≤ 2 ^ 40 → n ≡ min (more - first) 32
      → IsRing at more (emptied first n places) (values_from_slot at more items)
  from_later more n l limit e = record {
    limit = limit;
    size = empty_size n;
    near = near_from at first more items l is.near;
    found = λ s h. at_slot s h ∙ sym (value_at-from at more s items h.low);
  }
    where
      at_slot : (s : ℕ) → IsNear more s → get_or (emptied first n places) (s % 32) None ≡ value_at at s items
      at_slot s h = elim (below s) as (λ _. get_or (emptied first n places) (s % 32) None ≡ value_at at s items) [
        | inl b ↦
            let near : IsNear first s = record { low = omega (arith, h.low); high = b } in
            emptied_other first n (s % 32) places
            (λ k m. places_apart first s (first + k) near (record { low = omega arith; high = omega arith }) (omega (arith, h.low)))
            ∙ is.found s near
        | inr b ↦
            let k = (s - first) % 32 in
            let small : k < n = low s h b in
            sym (ap (λ i. get_or (emptied first n places) i None) (around first s (omega arith))) ∙ emptied_is first n k places small
            ∙ sym (outside at first s items is.near (inr b))
      ]
        where
          below : (s : ℕ) → (s < first + 32) ⊎ (first + 32 ≤ s)
          below s = grind (arith, nat_tests)

          low : (s : ℕ) → IsNear more s → first + 32 ≤ s → (s - first) % 32 < n
          low s h b =
              let parts = div-add-mod' (s - first) 32 in
              let bound = mod_below (s - first) 32 (omega arith) in
              omega (arith, parts, bound, h.high, h.low)

  -- no values
  pub without : IsRing at first (emptied first 32 places) []
  without = record {
    limit = is.limit;
    size = empty_size 32;
    near = All-nil (λ x. IsNear first (at x));
    found = λ s h.
        let small : (s - first) % 32 < 32 = mod_below (s - first) 32 (omega arith) in
        sym (ap (λ i. get_or (emptied first 32 places) i None) (around first s h.low))
        ∙ emptied_is first 32 ((s - first) % 32) places small;
  }

none_replicated : {A : Type 0} (n i : ℕ) → get_or (replicate {A = Option A} n None) i None ≡ None
none_replicated zero i = refl
none_replicated (suc n) zero = refl
none_replicated (suc n) (suc i) = none_replicated n i

-- places where there were none
pub with_room : {A : Type 0} (at : A → ℕ) (first : ℕ) (places more : List (Option A)) (items : List A) → IsRing at first places items
    → length places ≡ 0 → more ≡ replicate 32 None → IsRing at first more items
with_room at first [] more items is size e = rw e (record {
  limit = is.limit;
  size = inr refl;
  near = is.near;
  found = λ s h. none_replicated 32 (s % 32) ∙ is.found s h;
})
with_room at first (p ∷ places) more items is size e = absurd (omega arith)

-- where no slot of the window has a value, there are none
pub nothing_left : {A : Type 0} (at : A → ℕ) (first : ℕ) (items : List A) → All (λ x. IsNear first (at x)) items
    → ((s : ℕ) → first ≤ s → s < first + 32 → value_at at s items ≡ None) → (length items == 0) ≡ true
nothing_left at first [] near none = refl
nothing_left at first (x ∷ items) near none =
    let h : IsNear first (at x) = Rattle.std.proofs.lemmas.List.Elements.All-head (λ y. IsNear first (at y)) x items near in
    absurd (found x (none (at x) h.low h.high))
  where
    found : (x : _) → value_at at (at x) (x ∷ items) ≡ None → ⊥
    found x e = let t : (at x == at x) ≡ true = grind (arith, nat_tests) in absurd (some_none (rw t at e))
      where
        some_none : Some x ≡ None → ⊥
        some_none e = cc

-- the places of a ring that has room
pub room_is : (n : ℕ) (room : Bool) → (n == 32) ≡ room → room ≡ true → n ≡ 32
room_is n room e t = grind (arith, nat_tests)
