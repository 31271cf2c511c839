-- Values at rising slots, found by their slots.
use Rattle.cx_role.proofs.Common.{◌≡◌, ◌≤◌, ◌<◌, ◌+◌, ◌-◌, ℕ, zero, suc, Bool, max, nat_le, map, filter, List, [], ◌∷◌, ◌++◌, drop, Some}
use Rattle.cx_role.proofs.Common.{All, refl, ap, arith, ◌∙◌, inl, inr, append_assoc, cases_Bool, nat_tests, All-head, All-tail}
use Rattle.cx_role.proofs.Common.{filter-append, Placed, numbers, append-nil, map-append}
use Rattle.cx_ring.specs.Ring.{value_at, with_value, values_from_slot}
use Rattle.cx_leader.specs.Proposing.{placed_list}

abbrev pub slot_of : Placed → ℕ
slot_of p = p.slot

-- the values have the slots of a window, up to its next free one
abbrev pub AreAt : ℕ → ℕ → List Placed → Type 0
AreAt a n ps = map slot_of ps ≡ numbers a n

-- a value at the next slot comes last
pub put_next : (a n : ℕ) (ps : List Placed) (one : Placed) → AreAt a n ps → one.slot ≡ a + n
    → with_value slot_of one ps ≡ ps ++ one ∷ []
put_next a n [] one h at = refl
put_next a zero (p ∷ ps) one h at = cc
put_next a (suc n) (p ∷ ps) one h at = grind (arith, nat_tests, put_next (a + 1) n ps one)

numbers_push : (first n : ℕ) → numbers first n ++ (first + n) ∷ [] ≡ numbers first (n + 1)
numbers_push first zero = grind arith
numbers_push first (suc n) = grind (arith, numbers_push (first + 1) n)

pub slots_next : (a n : ℕ) (ps : List Placed) (one : Placed) → AreAt a n ps → one.slot ≡ a + n
    → AreAt a (n + 1) (ps ++ one ∷ [])
slots_next a n ps one h at =
    map-append slot_of ps (one ∷ []) ∙ rw (h, at) (numbers_push a n)

-- a greater beginning drops the slots below it
pub slots_from : (k a n : ℕ) (ps : List Placed) → AreAt a n ps
    → AreAt (max a k) (a + n - max a k) (values_from_slot slot_of k ps)
slots_from k a zero [] h = let e : a + 0 - max a k ≡ 0 = omega arith in rw e refl
slots_from k a (suc n) [] h = cc
slots_from k a zero (p ∷ ps) h = cc
slots_from k a (suc n) (p ∷ ps) h =
    let first : p.slot ≡ a = cc in
    let next : AreAt (a + 1) n ps = cc in
    let rest = slots_from k (a + 1) n ps next in
    elim (cases_Bool (nat_le k p.slot)) as (λ _. AreAt (max a k) (a + suc n - max a k) (values_from_slot slot_of k (p ∷ ps))) [
      | inl low ↦
          let le : k ≤ a = grind (arith, nat_tests) in
          let one : max (a + 1) k ≡ a + 1 = omega arith in
          let all : max a k ≡ a = omega arith in
          let count : a + suc n - a ≡ suc n = omega arith in
          let left : a + 1 + n - (a + 1) ≡ n = omega arith in
          rw (low, all, count, first) (ap (λ ss. a ∷ ss) (rw (one, left) at rest))
      | inr high ↦
          let lt : a < k = grind (arith, nat_tests) in
          let one : max (a + 1) k ≡ max a k = omega arith in
          let count : a + 1 + n - max a k ≡ a + suc n - max a k = omega arith in
          rw high (rw (one, count) at rest)
    ]

-- what holds of each value holds of the one that is found,
pub found_is : (P : Placed → Type 0) (k : ℕ) (ps : List Placed) (x : Placed) → All P ps → value_at slot_of k ps ≡ Some x
    → P x
found_is P k [] x all h = cc
found_is P k (p ∷ ps) x all h = grind (arith, nat_tests, All-head P p ps all, found_is P k ps x (All-tail P p ps all))

-- which has one of the slots
pub found_at : (a n k : ℕ) (ps : List Placed) (x : Placed) → AreAt a n ps → value_at slot_of k ps ≡ Some x
    → (a ≤ x.slot) × (x.slot < a + n)
found_at a n k [] x h found = cc
found_at a zero k (p ∷ ps) x h found = cc
found_at a (suc n) k (p ∷ ps) x h found = grind (arith, nat_tests, found_at (a + 1) n k ps x)

-- of the values that are left, the first is that of the first slot
next_at : (a n i : ℕ) (ps : List Placed) → AreAt a n ps → i < n
    → drop i ps ≡ placed_list (value_at slot_of (a + i) ps) ++ drop (i + 1) ps
next_at a zero i ps h lt = absurd (omega arith)
next_at a (suc n) i [] h lt = cc
next_at a (suc n) zero (p ∷ ps) h lt = grind (arith, nat_tests)
next_at a (suc n) (suc i) (p ∷ ps) h lt = grind (arith, nat_tests, next_at (a + 1) n i ps)

none_left : (a n i : ℕ) (ps : List Placed) → AreAt a n ps → n ≤ i → drop i ps ≡ []
none_left a n zero [] h le = refl
none_left a n (suc i) [] h le = refl
none_left a zero i (p ∷ ps) h le = cc
none_left a (suc n) zero (p ∷ ps) h le = absurd (omega arith)
none_left a (suc n) (suc i) (p ∷ ps) h le = grind (arith, none_left (a + 1) n i ps)

-- Sending the values that pass a test, slot by slot: what was sent, and what is to be sent of those that are left,
-- is all;
module _ {Y : Type 0} (f : Placed → Y) (test : Placed → Bool) (a n s : ℕ) (ps : List Placed) (sent all : List Y) where
  pub sent_on : AreAt a n ps → a ≤ s → s < a + n → sent ++ map f (filter test (drop (s - a) ps)) ≡ all
      → (sent ++ map f (filter test (placed_list (value_at slot_of s ps)))) ++ map f (filter test (drop (s + 1 - a) ps)) ≡ all
  sent_on h low high so_far =
      let at : a + (s - a) ≡ s = omega arith in
      let next : s - a + 1 ≡ s + 1 - a = omega arith in
      let step = rw (at, next) at (next_at a n (s - a) ps h (omega arith)) in
      rw (append_assoc, ← map-append, ← filter-append, ← step) so_far

  -- nothing is left after the last slot
  pub sent_all : AreAt a n ps → a + n ≤ s → sent ++ map f (filter test (drop (s - a) ps)) ≡ all → sent ≡ all
  sent_all h end so_far = rw (none_left a n (s - a) ps h (omega arith), append-nil) at so_far
