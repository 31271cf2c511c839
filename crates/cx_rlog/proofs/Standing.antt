-- Values that wait, as the values of a window.
use Rattle.cx_base.proofs.Common.{◌≡◌, ℕ, ◌==◌, inl, inr, List, [], ◌∷◌, ◌++◌, Some, None, option_map, refl, ap, cases_Bool, value_for}
use Rattle.cx_base.specs.declared.command.Value.{Value}
use Rattle.cx_base.specs.declared.command.Placed.{Placed}
use Rattle.cx_ring.specs.Ring.{value_at, with_value}
use Rattle.cx_rlog.specs.Taken.{waiting_with}

abbrev slot_of : Placed → ℕ
slot_of p = p.slot

pub value_for-at : (slot : ℕ) (early : List Placed)
    → value_for slot early ≡ option_map (λ (p : Placed). p.value) (value_at (λ (p : Placed). p.slot) slot early)
value_for-at slot [] = refl
value_for-at slot (p ∷ early) = elim (cases_Bool (p.slot == slot)) as (λ _.
    value_for slot (p ∷ early) ≡ option_map (λ (q : Placed). q.value) (value_at (λ (q : Placed). q.slot) slot (p ∷ early))) [
      | inl e ↦ rw e refl
      | inr e ↦ rw e (value_for-at slot early)
    ]

pub with_value-waiting : (one : Placed) (early : List Placed) → value_for one.slot early ≡ None
    → with_value (λ (p : Placed). p.slot) one early ≡ early ++ one ∷ []
with_value-waiting one [] none = refl
with_value-waiting one (p ∷ early) none =
    elim (cases_Bool (p.slot == one.slot)) as (λ _. with_value (λ (q : Placed). q.slot) one (p ∷ early) ≡ p ∷ early ++ one ∷ []) [
      | inl e ↦ absurd (some_none p.value (rw e at none))
      | inr e ↦ rw e (ap (λ (l : List Placed). p ∷ l) (with_value-waiting one early (rw e at none)))
    ]
  where
    some_none : (v : Value) → Some v ≡ None → ⊥
    some_none v e = cc

-- one more waits where none waits for its slot
pub waits : (one : Placed) (early : List Placed) → value_for one.slot early ≡ None
    → with_value (λ (p : Placed). p.slot) one early ≡ waiting_with (value_for one.slot early) one.slot one.value early
waits one early none = rw none (with_value-waiting one early none)
