-- The bounds of a plan.
use Rattle.std.proofs.Common.{arith}
use Rattle.std.proofs.lemmas.List.Elements.{All-nil, All-cons, All-append, All-weaker, All-head, All-tail}
use Rattle.cx_model.specs.Prelude.{◌≡◌, ◌≤◌, ◌<◌, ◌+◌, ◌-◌, ◌^◌, ◌==◌, ℕ, zero, suc, map, List, [], ◌∷◌, Option, None, Some, length, All}
use Rattle.cx_model.specs.Prelude.{IsTrue, refl, Value, numbers, is_before, Vote, greatest_cw, end_told, votes_told, greater_vote}
use Rattle.cx_model.specs.Prelude.{best_vote, voted_value, plan}
use Rattle.cx_field.specs.Fields as field
use Rattle.cx_model.specs.Outcome.{either_way}
use Rattle.cx_model.specs.declared.states.Promised.{Promised}
use Rattle.cx_phase1.specs.Planned.{IsPlan}
use Rattle.cx_phase1.specs.Sound.{IsVote, IsPromiseInRange}

greatest_high : (low : ℕ) (ps : List Promised) → low ≤ 2 ^ 40 → All IsPromiseInRange ps → greatest_cw low ps ≤ 2 ^ 40
greatest_high low [] le all = le
greatest_high low (p ∷ ps) le all =
    omega (arith, (All-head IsPromiseInRange p ps all).cw, greatest_high low ps le (All-tail IsPromiseInRange p ps all))

pub end_low : (low : ℕ) (vs : List Vote) → low ≤ end_told low vs
end_low low [] = omega arith
end_low low (v ∷ vs) = omega (arith, end_low low vs)

-- a limit of all slots is one of the end
end_high : (low n : ℕ) (vs : List Vote) → low ≤ n → All (λ (v : Vote). v.slot < n) vs → end_told low vs ≤ n
end_high low n [] le all = le
end_high low n (v ∷ vs) le all =
    let here : v.slot < n = All-head (λ (v : Vote). v.slot < n) v vs all in
    omega (arith, here, end_high low n vs le (All-tail (λ (v : Vote). v.slot < n) v vs all))

-- what holds of each vote, if it holds of those of each answer
all_told : (P : Vote → Type 0) (Q : Promised → Type 0) → ((p : Promised) → Q p → All P p.votes) → (ps : List Promised) → All Q ps
    → All P (votes_told ps)
all_told P Q told [] all = All-nil P
all_told P Q told (p ∷ ps) all =
    All-append P p.votes (votes_told ps) (told p (All-head Q p ps all)) (all_told P Q told ps (All-tail Q p ps all))

-- answers whose watermarks are at most this one
pub record IsUnder (cw : ℕ) (p : Promised) : Type 0 where
  pub under : p.cw ≤ cw
  pub told : IsPromiseInRange p

under_more : (a b : ℕ) → a ≤ b → (p : Promised) → IsUnder a p → IsUnder b p
under_more a b le p is = record { under = omega (arith, is.under); told = is.told }

all_under : (low : ℕ) (ps : List Promised) → All IsPromiseInRange ps → All (IsUnder (greatest_cw low ps)) ps
all_under low [] all = All-nil (IsUnder low)
all_under low (p ∷ ps) all =
    let cw = greatest_cw low (p ∷ ps) in
    All-cons (IsUnder cw) p ps (record { under = omega arith; told = All-head IsPromiseInRange p ps all })
    (All-weaker (IsUnder (greatest_cw low ps)) (IsUnder cw) (under_more (greatest_cw low ps) cw (omega arith)) ps
    (all_under low ps (All-tail IsPromiseInRange p ps all)))

in_window : (cw : ℕ) (p : Promised) → IsUnder cw p → All (λ (v : Vote). v.slot < cw + 32) p.votes
in_window cw p is =
    let under : p.cw ≤ cw = is.under in
    All-weaker (IsVote p.cw) (λ (v : Vote). v.slot < cw + 32) (λ v vote. omega (arith, vote.high)) p.votes is.told.votes

in_slots : (p : Promised) → IsPromiseInRange p → All (λ (v : Vote). v.slot < 2 ^ 40) p.votes
in_slots p is = All-weaker (IsVote p.cw) (λ (v : Vote). v.slot < 2 ^ 40) (λ v vote. vote.end) p.votes is.votes

abbrev HasSpelling : Vote → Type 0
HasSpelling v = IsTrue (field.value.fits v.value)

spelled : (p : Promised) → IsPromiseInRange p → All HasSpelling p.votes
spelled p is = All-weaker (IsVote p.cw) HasSpelling (λ v vote. vote.value) p.votes is.votes

abbrev IsSpelled : Option Vote → Type 0
IsSpelled o = IsTrue (field.value.fits (voted_value o))

greater_spelled : (v : Vote) (o : Option Vote) → HasSpelling v → IsSpelled o → IsSpelled (Some (greater_vote v o))
greater_spelled v None fits rest = fits
greater_spelled v (Some later) fits rest = either_way HasSpelling (is_before v.round later.round) later v rest fits

best_spelled : (s : ℕ) (vs : List Vote) → All HasSpelling vs → IsSpelled (best_vote s vs)
unfolding field.value field.value_with
best_spelled s [] all = refl
best_spelled s (v ∷ vs) all =
    let rest = best_spelled s vs (All-tail HasSpelling v vs all) in
    either_way IsSpelled (v.slot == s) (Some (greater_vote v (best_vote s vs))) (best_vote s vs)
    (greater_spelled v (best_vote s vs) (All-head HasSpelling v vs all) rest) rest

values_spelled : (vs : List Vote) → All HasSpelling vs → (first count : ℕ)
    → All (λ (v : Value). IsTrue (field.value.fits v)) (map (λ s. voted_value (best_vote s vs)) (numbers first count))
values_spelled vs all first zero = All-nil (λ (v : Value). IsTrue (field.value.fits v))
values_spelled vs all first (suc count) = All-cons (λ (v : Value). IsTrue (field.value.fits v)) (voted_value (best_vote first vs))
    (map (λ s. voted_value (best_vote s vs)) (numbers (first + 1) count))
    (best_spelled first vs all) (values_spelled vs all (first + 1) count)

length-values : (f : ℕ → Value) (first count : ℕ) → length (map f (numbers first count)) ≡ count
length-values f first zero = refl
length-values f first (suc count) = omega (arith, length-values f (first + 1) count)

pub planned : (low : ℕ) (ps : List Promised) → low ≤ 2 ^ 40 → All IsPromiseInRange ps → IsPlan (plan low ps)
planned low ps le all =
    let cw = greatest_cw low ps in
    let vs = votes_told ps in
    let under = end_high cw (cw + 32) vs (omega arith)
    (all_told (λ (v : Vote). v.slot < cw + 32) (IsUnder cw) (in_window cw) ps (all_under low ps all)) in
    record {
      low = end_low cw vs;
      high = under;
      end =
          end_high cw (2 ^ 40) vs (greatest_high low ps le all) (all_told (λ (v : Vote). v.slot < 2 ^ 40) IsPromiseInRange in_slots ps all);
      count = omega (arith, length-values (λ s. voted_value (best_vote s vs)) cw (end_told cw vs - cw), end_low cw vs);
      values = values_spelled vs (all_told HasSpelling IsPromiseInRange spelled ps all) cw (end_told cw vs - cw);
    }
