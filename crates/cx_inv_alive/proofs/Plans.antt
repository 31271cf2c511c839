-- What a leader proposes when its first phase is done, where it knows the chosen watermark already.
use Rattle.cx_inv_run.proofs.Common.{◌≡◌, ◌⊎◌, ◌≤◌, ℕ, zero, suc, Bool, true, false, List, [], ◌∷◌, Option, None, Some, ap, sym, ◌∙◌, refl}
use Rattle.cx_inv_run.proofs.Common.{inl, inr, arith, and_parts, and_from, nat_tests, list_all, ◌+◌, ◌-◌, ◌==◌, max, map, nat_lt, length}
use Rattle.cx_inv_run.proofs.Common.{if◌then◌else◌, Value, Noop, numbers, is_before, Vote, Plan, Promised, bool_cases, plan, greatest_cw}
use Rattle.cx_inv_run.proofs.Common.{end_told, votes_told, best_vote, greater_vote, voted_value}
use Rattle.cx_model.specs.Plan.{plan_between}

abbrev pub values_for : ℕ → List Vote → List Value
values_for h votes = map (λ s. voted_value (best_vote s votes)) (numbers h (end_told h votes - h))

abbrev pub plan_of : ℕ → List Value → Plan
plan_of h values = record { cw = h; end = h + length values; values = values }

counted : (f : ℕ → Value) (first count : ℕ) → length (map f (numbers first count)) ≡ count
counted f first zero = refl
counted f first (suc count) = ap (λ (n : ℕ). suc n) (counted f (first + 1) count)

end_above : (h : ℕ) (votes : List Vote) → h ≤ end_told h votes
end_above h [] = omega arith
end_above h (v ∷ votes) = go (end_told h votes) (end_above h votes)
  where
    go : (n : ℕ) → h ≤ n → h ≤ max (v.slot + 1) n
    go n le = omega (arith, le)

back_up : (h e : ℕ) → h ≤ e → e ≡ h + (e - h)
back_up h e le = omega (arith, le)

pub end_is : (h : ℕ) (votes : List Vote) → end_told h votes ≡ h + length (values_for h votes)
end_is h votes =
    back_up h (end_told h votes) (end_above h votes)
    ∙ ap (λ n. h + n) (sym (counted (λ s. voted_value (best_vote s votes)) h (end_told h votes - h)))

pub plan_is : (h : ℕ) (promises : List Promised) → greatest_cw h promises ≡ h
    → plan h promises ≡ plan_of h (values_for h (votes_told promises))
plan_is h promises e =
    ap (λ w. plan_between w (end_told w (votes_told promises)) (votes_told promises)) e
    ∙ ap (λ n. record { cw = h; end = n; values = values_for h (votes_told promises) }) (end_is h (votes_told promises))

-- WHAT HOLDS OF A NOOP AND OF EACH VOTE'S VALUE HOLDS OF ALL THAT IS PROPOSED

pub votes_such : (P : Value → Bool) → P Noop ≡ true → (votes : List Vote) → list_all (λ v. P v.value) votes ≡ true → (h : ℕ)
    → list_all P (values_for h votes) ≡ true
votes_such P none votes all h = every h (end_told h votes - h)
  where
    pick : (b : Bool) (x y : Vote) → P x.value ≡ true → P y.value ≡ true → P (if b then x else y).value ≡ true
    pick true x y p q = p
    pick false x y p q = q

    greater : (v : Vote) (o : Option Vote) → P v.value ≡ true → P (voted_value o) ≡ true → P (greater_vote v o).value ≡ true
    greater v None own rest = own
    greater v (Some later) own rest = pick (is_before v.round later.round) later v rest own

    go : (s : ℕ) (v : Vote) → ((v.slot == s) ≡ true) ⊎ ((v.slot == s) ≡ false) → (o : Option Vote) → P v.value ≡ true
        → P (voted_value o) ≡ true → P (voted_value (if v.slot == s then Some (greater_vote v o) else o)) ≡ true
    go s v (inl t) o own rest = rw t (greater v o own rest)
    go s v (inr f) o own rest = rw f rest

    best : (s : ℕ) (votes : List Vote) → list_all (λ v. P v.value) votes ≡ true → P (voted_value (best_vote s votes)) ≡ true
    best s [] all = none
    best s (v ∷ votes) all =
        let parts = and_parts (P v.value) (list_all (λ x. P x.value) votes) all in
        go s v (bool_cases (v.slot == s)) (best_vote s votes) parts.0 (best s votes parts.1)

    every : (first count : ℕ) → list_all P (map (λ s. voted_value (best_vote s votes)) (numbers first count)) ≡ true
    every first zero = refl
    every first (suc count) = and_from (P (voted_value (best_vote first votes))) (list_all P
        (map (λ s. voted_value (best_vote s votes)) (numbers (first + 1) count))) (best first votes all) (every (first + 1) count)

-- the end is below a number that is above the chosen watermark and all slots voted at
pub end_below : (most h : ℕ) (votes : List Vote) → nat_lt h most ≡ true → list_all (λ v. nat_lt (v.slot + 1) most) votes ≡ true
    → nat_lt (end_told h votes) most ≡ true
end_below most h [] low all = low
end_below most h (v ∷ votes) low all =
    let parts = and_parts (nat_lt (v.slot + 1) most) (list_all (λ x. nat_lt (x.slot + 1) most) votes) all in
    go (end_told h votes) (v.slot + 1) parts.0 (end_below most h votes low parts.1)
  where
    go : (n a : ℕ) → nat_lt a most ≡ true → nat_lt n most ≡ true → nat_lt (max a n) most ≡ true
    go n a p q = grind (arith, nat_tests, p, q)
