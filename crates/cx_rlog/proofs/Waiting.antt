-- Values that wait stay above the slots held.
use Rattle.cx_base.proofs.Common.{◌≡◌, ℕ, zero, suc, ◌+◌, ◌-◌, ◌^◌, ◌≤◌, ◌⊎◌, inl, inr, ◌==◌, nat_le, List, [], ◌∷◌, ◌++◌, length, refl, ap}
use Rattle.cx_base.proofs.Common.{add-zero, arith, Option, Some, None, min, cases_Bool, leb-true, eqb-false, following, ready_values}
use Rattle.cx_base.proofs.Common.{still_early, value_for}
use Rattle.cx_base.specs.declared.command.Value.{Value}
use Rattle.cx_base.specs.declared.command.Placed.{Placed}
use Rattle.cx_rlog.specs.State.{AreEarly, IsEarly, AreReadyValues, LogState, held as held_in}
use Rattle.cx_rlog.specs.Taken.{waiting_with}

AreEarly-push : (held : ℕ) (early : List Placed) (p : Placed) → AreEarly held early → IsEarly held p
    → AreEarly held (early ++ p ∷ [])
AreEarly-push held [] p h k = (k, tt)
AreEarly-push held (q ∷ early) p h k = (h.0, AreEarly-push held early p h.1 k)

-- one more value waits
pub AreEarly-waiting : (held slot : ℕ) (v : Value) (early : List Placed) (first : Option Value) → AreEarly held early
    → IsEarly held (record { slot = slot; value = v })
    → AreEarly held (waiting_with first slot v early)
AreEarly-waiting held slot v early None h k = AreEarly-push held early (record { slot = slot; value = v }) h k
AreEarly-waiting held slot v early (Some w) h k = h

-- none waits for a slot at the end of what may wait
kept_end : (held new : ℕ) (early : List Placed) → AreEarly held early → held ≤ new → (held + 32 ≤ new) ⊎ (2 ^ 40 ≤ new)
    → AreEarly new (still_early new early)
kept_end held new [] h l e = tt
kept_end held new (p ∷ early) h l e = elim (cases_Bool (nat_le new p.slot)) as (λ _. AreEarly new (still_early new (p ∷ early))) [
  | inl t ↦
      absurd (elim e [ inl a ↦ omega (arith, leb-true new p.slot t, h.0.near) | inr a ↦ omega (arith, leb-true new p.slot t, h.0.real) ])
  | inr t ↦ rw t (kept_end held new early h.1 l e)
]

some_none : (v : Value) → Some v ≡ None → ⊥
some_none v e = cc

-- none waits for a slot that has no value
kept_gap : (held new : ℕ) (early : List Placed) → AreEarly held early → held ≤ new → value_for new early ≡ None
    → AreEarly new (still_early new early)
kept_gap held new [] h l e = tt
kept_gap held new (p ∷ early) h l e = elim (cases_Bool (p.slot == new)) as (λ _. AreEarly new (still_early new (p ∷ early))) [
  | inl same ↦ absurd (some_none p.value (rw same at e))
  | inr other ↦
      let rest = kept_gap held new early h.1 l (rw other at e) in
      let apart : p.slot ≡ new → ⊥ = eqb-false p.slot new other in
      elim (cases_Bool (nat_le new p.slot)) as (λ _. AreEarly new (still_early new (p ∷ early))) [
        | inl t ↦
            rw t (record { above = omega (arith, leb-true new p.slot t); near = omega (arith, h.0.near); real = h.0.real }, rest)
        | inr t ↦ rw t rest
      ]
]

-- the values that follow end at their greatest number, or before a slot for which none waits
following_step : (early : List Placed) (slot most : ℕ) (v : Option Value) → value_for slot early ≡ v
    → ((length (following early (slot + 1) most) ≡ most)
    ⊎ (value_for (slot + 1 + length (following early (slot + 1) most)) early ≡ None))
    → (length (following early slot (suc most)) ≡ suc most)
    ⊎ (value_for (slot + length (following early slot (suc most))) early ≡ None)
following_step early slot most None e h = inr (rw e (rw add-zero e))
following_step early slot most (Some v) e (inl h) = inl (rw e (ap suc h))
following_step early slot most (Some v) e (inr h) =
    inr (rw e (let n : slot + suc (length (following early (slot + 1) most)) ≡ slot + 1 + length (following early (slot + 1) most) =
    omega arith in rw n h))

following_stops : (early : List Placed) (slot most : ℕ)
    → (length (following early slot most) ≡ most) ⊎ (value_for (slot + length (following early slot most)) early ≡ None)
following_stops early slot zero = inl refl
following_stops early slot (suc most) = following_step early slot most (value_for slot early) refl (following_stops early (slot + 1) most)

-- what still waits after the values that were ready
pub ready_waiting : (s : LogState) (values : List Value) (held new : ℕ) → held ≡ held_in s → AreReadyValues s values
    → AreEarly held s.early
    → new ≡ held + length values → new ≤ 2 ^ 40 → AreEarly new (still_early new s.early)
ready_waiting s [] held new e h waiting n short = absurd h
ready_waiting s (v ∷ later) held new e h waiting n short =
    let most = min 31 (1099511627776 - (held + 1)) in
    let ready : v ∷ later ≡ ready_values held s.early v = rw e h in
    let count : suc (length later) ≡ suc (length (following s.early (held + 1) most)) = ap length ready in
    elim (following_stops s.early (held + 1) most) as (λ _. AreEarly new (still_early new s.early)) [
      | inl full ↦ kept_end held new s.early waiting (omega arith) (end full count)
      | inr gap ↦
          let at : new ≡ held + 1 + length (following s.early (held + 1) most) = omega arith in
          kept_gap held new s.early waiting (omega arith) (rw at gap)
    ]
  where
    end : length (following s.early (held + 1) (min 31 (1099511627776 - (held + 1))))
        ≡ min 31 (1099511627776 - (held + 1))
        → suc (length later) ≡ suc (length (following s.early (held + 1) (min 31 (1099511627776 - (held + 1)))))
        → (held + 32 ≤ new) ⊎ (2 ^ 40 ≤ new)
    end full count = grind arith
