-- The slots of a window as numbers: one more at its end, the ones below a bound dropped, and those of the values that a plan places.
use Rattle.cx_inv_run.proofs.Common.{◌≡◌, ◌≤◌, ◌<◌, ◌+◌, ◌-◌, ℕ, zero, suc, Bool, true, false, cond, List, [], ◌∷◌, ◌++◌, map, filter, max}
use Rattle.cx_inv_run.proofs.Common.{ap, ◌∙◌, refl, inl, inr, arith, nat_le, cases_Bool, nat_tests, Placed, Value, numbers, Vote, Promised}
use Rattle.cx_inv_run.proofs.Common.{plan, placed_from, greatest_cw, end_told, votes_told}

abbrev pub slots_of : List Placed → List ℕ
slots_of ps = map (λ (p : Placed). p.slot) ps

-- one more

pub numbers-more : (first count : ℕ) → numbers first count ++ (first + count) ∷ [] ≡ numbers first (suc count)
numbers-more first zero = let e : first + zero ≡ first = omega arith in ap (λ (n : ℕ). n ∷ []) e
numbers-more first (suc count) =
    let e : first + suc count ≡ first + 1 + count = omega arith in
    ap (λ (l : List ℕ). first ∷ l) (ap (λ (n : ℕ). numbers (first + 1) count ++ n ∷ []) e ∙ numbers-more (first + 1) count)

slots-append : (ps : List Placed) (p : Placed) → slots_of (ps ++ p ∷ []) ≡ slots_of ps ++ p.slot ∷ []
slots-append [] p = refl
slots-append (q ∷ ps) p = ap (λ (l : List ℕ). q.slot ∷ l) (slots-append ps p)

pub slots-more : (ps : List Placed) (p : Placed) (cw : ℕ) → cw ≤ p.slot → slots_of ps ≡ numbers cw (p.slot - cw)
    → slots_of (ps ++ p ∷ []) ≡ numbers cw (p.slot + 1 - cw)
slots-more ps p cw l e =
    let last : p.slot ≡ cw + (p.slot - cw) = omega arith in
    let count : suc (p.slot - cw) ≡ p.slot + 1 - cw = omega arith in
    slots-append ps p ∙ ap (λ (ns : List ℕ). ns ++ p.slot ∷ []) e ∙ ap (λ (n : ℕ). numbers cw (p.slot - cw) ++ n ∷ []) last
    ∙ numbers-more cw (p.slot - cw) ∙ ap (λ n. numbers cw n) count

-- those below a bound dropped

taken : (b : Bool) (n : ℕ) (ns : List ℕ) → b ≡ true → cond b (n ∷ ns) ns ≡ n ∷ ns
taken true n ns t = refl
taken false n ns t = cc

dropped : (b : Bool) (n : ℕ) (ns : List ℕ) → b ≡ false → cond b (n ∷ ns) ns ≡ ns
dropped true n ns f = cc
dropped false n ns f = refl

filter-kept : (bound : ℕ) (n : ℕ) (ns : List ℕ) → bound ≤ n → filter (λ s. nat_le bound s) (n ∷ ns) ≡ n ∷ filter (λ s. nat_le bound s) ns
filter-kept bound n ns l = taken (nat_le bound n) n (filter (λ s. nat_le bound s) ns) (grind (arith, nat_tests))

filter-dropped : (bound : ℕ) (n : ℕ) (ns : List ℕ) → n < bound → filter (λ s. nat_le bound s) (n ∷ ns) ≡ filter (λ s. nat_le bound s) ns
filter-dropped bound n ns l = dropped (nat_le bound n) n (filter (λ s. nat_le bound s) ns) (grind (arith, nat_tests))

numbers-all : (bound first count : ℕ) → bound ≤ first → filter (λ s. nat_le bound s) (numbers first count) ≡ numbers first count
numbers-all bound first zero l = refl
numbers-all bound first (suc count) l = filter-kept bound first (numbers (first + 1) count) l
    ∙ ap (λ (ns : List ℕ). first ∷ ns) (numbers-all bound (first + 1) count (omega arith))

numbers-from : (bound first count : ℕ) → first ≤ bound
    → filter (λ s. nat_le bound s) (numbers first count) ≡ numbers bound (first + count - bound)
numbers-from bound first zero l = let e : 0 ≡ first + zero - bound = omega arith in ap (λ n. numbers bound n) e
numbers-from bound first (suc count) l = elim (cases_Bool (nat_le bound first)) [
  | inl t ↦ (let same : first ≡ bound = grind (arith, nat_tests) in
      let n : suc count ≡ first + suc count - bound = omega arith in
      numbers-all bound first (suc count) (omega arith) ∙ ap (λ k. numbers k (suc count)) same ∙ ap (λ k. numbers bound k) n)
  | inr f ↦ (let below : first < bound = grind (arith, nat_tests) in
      let n : first + 1 + count - bound ≡ first + suc count - bound = omega arith in
      filter-dropped bound first (numbers (first + 1) count) below ∙ numbers-from bound (first + 1) count (omega arith)
      ∙ ap (λ k. numbers bound k) n)
]

slots-step : (bound : ℕ) (p : Placed) (ps : List Placed) (b : Bool)
    → slots_of (filter (λ (q : Placed). nat_le bound q.slot) ps) ≡ filter (λ s. nat_le bound s) (slots_of ps)
    → slots_of (cond b (p ∷ filter (λ (q : Placed). nat_le bound q.slot) ps) (filter (λ (q : Placed). nat_le bound q.slot) ps))
    ≡ cond b (p.slot ∷ filter (λ s. nat_le bound s) (slots_of ps)) (filter (λ s. nat_le bound s) (slots_of ps))
slots-step bound p ps true e = ap (λ (l : List ℕ). p.slot ∷ l) e
slots-step bound p ps false e = e

slots-filter : (bound : ℕ) (ps : List Placed)
    → slots_of (filter (λ (p : Placed). nat_le bound p.slot) ps) ≡ filter (λ s. nat_le bound s) (slots_of ps)
slots-filter bound [] = refl
slots-filter bound (p ∷ ps) = slots-step bound p ps (nat_le bound p.slot) (slots-filter bound ps)

pub slots-from : (ps : List Placed) (cw next bound : ℕ) → cw ≤ bound → cw ≤ next → slots_of ps ≡ numbers cw (next - cw)
    → slots_of (filter (λ (p : Placed). nat_le bound p.slot) ps) ≡ numbers bound (max next bound - bound)
slots-from ps cw next bound l k e =
    let n : cw + (next - cw) - bound ≡ max next bound - bound = omega arith in
    slots-filter bound ps ∙ ap (λ (ns : List ℕ). filter (λ s. nat_le bound s) ns) e ∙ numbers-from bound cw (next - cw) l
    ∙ ap (λ k. numbers bound k) n

-- those of a plan

slots-placed : (f : ℕ → Value) (first count : ℕ) → slots_of (placed_from first (map f (numbers first count))) ≡ numbers first count
slots-placed f first zero = refl
slots-placed f first (suc count) = ap (λ (l : List ℕ). first ∷ l) (slots-placed f (first + 1) count)

end-low : (low : ℕ) (votes : List Vote) → low ≤ end_told low votes
end-low low [] = omega arith
end-low low (v ∷ votes) = let l = end-low low votes in omega arith

pub plan-window : (low : ℕ) (promises : List Promised) → (plan low promises).cw ≤ (plan low promises).end
plan-window low promises = end-low (greatest_cw low promises) (votes_told promises)

pub plan-slots : (low : ℕ) (promises : List Promised) → slots_of (placed_from (plan low promises).cw (plan low promises).values)
    ≡ numbers (plan low promises).cw ((plan low promises).end - (plan low promises).cw)
plan-slots low promises = slots-placed _ _ _
