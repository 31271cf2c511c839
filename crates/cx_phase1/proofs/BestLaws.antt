-- The best vote of each slot, as it is held.
use Rattle.std.proofs.lemmas.Bool.{le-leb}
use Rattle.cx_base.proofs.Common.{◌≡◌, ◌≤◌, ◌+◌, ◌-◌, ◌==◌, ◌&&◌, ℕ, zero, suc, Bool, true, false, max, nat_le, map, if◌then◌else◌, List}
use Rattle.cx_base.proofs.Common.{[], ◌∷◌, ◌++◌, Option, None, Some, refl, ap, arith, sym, subst, ◌∙◌, append_assoc, eq-eqb, eqb-true}
use Rattle.cx_base.proofs.Common.{nat_tests, append-nil, numbers}
use Rattle.cx_model.specs.Prelude.{Value, Vote, greatest_cw, end_told, votes_told, best_vote, voted_value, plan_between, plan}
use Rattle.cx_ring.specs.Ring.{RingState, value_at, with_value, values_from_slot, raise_ring}
use Rattle.cx_model.specs.declared.states.Plan.{Plan}
use Rattle.cx_model.specs.declared.states.Promised.{Promised}
use Rattle.cx_phase1.specs.Best.{better, slot_of, replaces, best_with_vote, with_votes, values_between, plan_of}
use Rattle.cx_phase1.specs.Sound.{IsBest}
use Rattle.cx_phase1.proofs.PlanLaws.{end_append, best_append, better_on, better_none}

-- ---- the vote of a slot

put_by : (v x : Vote) (s : ℕ) (xs : List Vote) (same here there : Bool) → (x.slot == v.slot) ≡ same → (x.slot == s) ≡ here
    → (v.slot == s) ≡ there → value_at slot_of s (with_value slot_of v xs) ≡ (if v.slot == s then Some v else value_at slot_of s xs)
    → value_at slot_of s (with_value slot_of v (x ∷ xs)) ≡ (if v.slot == s then Some v else value_at slot_of s (x ∷ xs))
put_by v x s xs true true true same here there rest = rw (same, there) refl
put_by v x s xs true true false same here there rest = absurd (grind (arith, nat_tests))
put_by v x s xs true false true same here there rest = rw (same, there) refl
put_by v x s xs true false false same here there rest = rw (same, there, here) refl
put_by v x s xs false true true same here there rest = absurd (grind (arith, nat_tests))
put_by v x s xs false true false same here there rest = rw (same, here, there) refl
put_by v x s xs false false true same here there rest = rw (same, here, there) (rw there at rest)
put_by v x s xs false false false same here there rest = rw (same, here, there) (rw there at rest)

-- a vote is found at its slot, and the others where they were
value_put : (v : Vote) (s : ℕ) (xs : List Vote)
    → value_at slot_of s (with_value slot_of v xs) ≡ (if v.slot == s then Some v else value_at slot_of s xs)
value_put v s [] = refl
value_put v s (x ∷ xs) = put_by v x s xs _ _ _ refl refl refl (value_put v s xs)

from_by : (first s : ℕ) (x : Vote) (xs : List Vote) (high here : Bool) → first ≤ s → nat_le first x.slot ≡ high → (x.slot == s) ≡ here
    → value_at slot_of s (values_from_slot slot_of first xs) ≡ value_at slot_of s xs
    → value_at slot_of s (values_from_slot slot_of first (x ∷ xs)) ≡ value_at slot_of s (x ∷ xs)
from_by first s x xs true true le high here rest = rw (high, here) refl
from_by first s x xs true false le high here rest = rw (high, here) rest
from_by first s x xs false true le high here rest = absurd (grind (arith, nat_tests))
from_by first s x xs false false le high here rest = rw (high, here) rest

-- what is dropped below a slot is not found from there on
value_from : (first s : ℕ) (xs : List Vote) → first ≤ s → value_at slot_of s (values_from_slot slot_of first xs) ≡ value_at slot_of s xs
value_from first s [] le = refl
value_from first s (x ∷ xs) le = from_by first s x xs _ _ le refl refl (value_from first s xs le)

-- ---- one vote more

pub first_same : (v : Vote) (best : RingState Vote) → (best_with_vote v best).first ≡ best.first
first_same v best = first_by (nat_le best.first v.slot && replaces v (value_at slot_of v.slot best.items))
  where
    first_by : (goes : Bool) → (if goes then record best { items = with_value slot_of v best.items } else best).first ≡ best.first
    first_by true = refl
    first_by false = refl

pub room_same : (v : Vote) (best : RingState Vote) → (best_with_vote v best).room ≡ best.room
room_same v best = room_by (nat_le best.first v.slot && replaces v (value_at slot_of v.slot best.items))
  where
    room_by : (goes : Bool) → (if goes then record best { items = with_value slot_of v best.items } else best).room ≡ best.room
    room_by true = refl
    room_by false = refl

-- the vote goes into its slot's place where it is better than what is there
held_on_by : (v : Vote) (best : RingState Vote) (so_far : Option Vote) (goes : Bool) → nat_le best.first v.slot ≡ true
    → value_at slot_of v.slot best.items ≡ so_far → replaces v so_far ≡ goes
    → value_at slot_of v.slot (best_with_vote v best).items ≡ better so_far (Some v)
held_on_by v best None goes low is new =
    let same : (v.slot == v.slot) ≡ true = eq-eqb v.slot v.slot refl in
    rw (low, is) (value_put v v.slot best.items ∙ ap (λ (b : Bool). if b then Some v else value_at slot_of v.slot best.items) same)
held_on_by v best (Some first) true low is new =
    let same : (v.slot == v.slot) ≡ true = eq-eqb v.slot v.slot refl in
    rw (low, is, new) (value_put v v.slot best.items ∙ ap (λ (b : Bool). if b then Some v else value_at slot_of v.slot best.items) same)
held_on_by v best (Some first) false low is new = rw (low, is, new) is

held_on : (v : Vote) (best : RingState Vote) (s : ℕ) → best.first ≤ s → v.slot ≡ s
    → value_at slot_of s (best_with_vote v best).items ≡ better (value_at slot_of s best.items) (Some v)
held_on v best s le at =
    subst (λ (s : ℕ). value_at slot_of s (best_with_vote v best).items ≡ better (value_at slot_of s best.items) (Some v)) at
    (held_on_by v best (value_at slot_of v.slot best.items) _ (le-leb best.first v.slot (omega arith)) refl refl)

-- and leaves every other slot as it was
held_past_by : (v : Vote) (best : RingState Vote) (s : ℕ) (goes : Bool)
    → (nat_le best.first v.slot && replaces v (value_at slot_of v.slot best.items)) ≡ goes → (v.slot == s) ≡ false
    → value_at slot_of s (best_with_vote v best).items ≡ value_at slot_of s best.items
held_past_by v best s true goes other =
    rw goes (value_put v s best.items ∙ ap (λ (b : Bool). if b then Some v else value_at slot_of s best.items) other)
held_past_by v best s false goes other = rw goes refl

-- a vote reported is one of those that are still to come
held_by : (v : Vote) (votes : List Vote) (best : RingState Vote) (s : ℕ) (at : Bool) → best.first ≤ s → (v.slot == s) ≡ at
    → better (value_at slot_of s (best_with_vote v best).items) (best_vote s votes)
    ≡ better (value_at slot_of s best.items) (best_vote s (v ∷ votes))
held_by v votes best s true le at =
    let here : v.slot ≡ s = eqb-true v.slot s at in
    ap (λ (o : Option Vote). better o (best_vote s votes)) (held_on v best s le here)
    ∙ better_on (value_at slot_of s best.items) s v votes here
held_by v votes best s false le at = rw at (ap (λ (o : Option Vote). better o (best_vote s votes)) (held_past_by v best s _ refl at))

-- ---- all votes of one answer

pub first_all : (votes : List Vote) (best : RingState Vote) → (with_votes votes best).first ≡ best.first
first_all [] best = refl
first_all (v ∷ votes) best = first_all votes (best_with_vote v best) ∙ first_same v best

held_all : (votes : List Vote) (best : RingState Vote) (s : ℕ) → best.first ≤ s
    → value_at slot_of s (with_votes votes best).items ≡ better (value_at slot_of s best.items) (best_vote s votes)
held_all [] best s le = sym (better_none (value_at slot_of s best.items))
held_all (v ∷ votes) best s le =
    let low : (best_with_vote v best).first ≤ s = subst (λ (n : ℕ). n ≤ s) (sym (first_same v best)) le in
    held_all votes (best_with_vote v best) s low ∙ held_by v votes best s _ le refl

greatest_more : (low : ℕ) (promises : List Promised) (p : Promised)
    → greatest_cw low (promises ++ p ∷ []) ≡ max (greatest_cw low promises) p.cw
greatest_more low [] p = omega arith
greatest_more low (q ∷ promises) p = omega (arith, greatest_more low promises p)

votes_more : (promises : List Promised) (p : Promised) → votes_told (promises ++ p ∷ []) ≡ votes_told promises ++ p.votes
votes_more [] p = append-nil p.votes
votes_more (q ∷ promises) p =
    ap (λ (vs : List Vote). q.votes ++ vs) (votes_more promises p) ∙ sym (append_assoc q.votes (votes_told promises) p.votes)

-- one more answer
pub best_more : (promises : List Promised) (p : Promised) (best : RingState Vote) (behind : ℕ) → IsBest promises best behind
    → IsBest (promises ++ p ∷ []) (with_votes p.votes (raise_ring slot_of p.cw best)) (end_told behind p.votes)
best_more promises p best behind is =
    let r : RingState Vote = raise_ring slot_of p.cw best in
    let first : (with_votes p.votes r).first ≡ max best.first p.cw = first_all p.votes r in
    let more = votes_more promises p in
    record {
      first = first ∙ ap (λ (n : ℕ). max n p.cw) is.first ∙ sym (greatest_more 0 promises p);
      votes = λ s le.
          let low : max best.first p.cw ≤ s = subst (λ (n : ℕ). n ≤ s) first le in
          held_all p.votes r s low ∙ ap (λ (o : Option Vote). better o (best_vote s p.votes))
          (value_from (max best.first p.cw) s best.items low ∙ is.votes s (omega arith))
          ∙ sym (best_append s (votes_told promises) p.votes) ∙ ap (best_vote s) (sym more);
      end = ap (λ (n : ℕ). end_told n p.votes) is.end ∙ sym (end_append 0 (votes_told promises) p.votes) ∙ ap (end_told 0) (sym more);
    }

-- ---- the plan

greatest_low : (low : ℕ) (promises : List Promised) → max low (greatest_cw 0 promises) ≡ greatest_cw low promises
greatest_low low [] = omega arith
greatest_low low (p ∷ promises) = omega (arith, greatest_low low promises)

end_at_least : (low : ℕ) (votes : List Vote) → max low (end_told 0 votes) ≡ end_told low votes
end_at_least low [] = omega arith
end_at_least low (v ∷ votes) = omega (arith, end_at_least low votes)

values_same : (f g : ℕ → Option Vote) (low first count : ℕ) → ((s : ℕ) → low ≤ s → f s ≡ g s) → low ≤ first
    → map (λ s. voted_value (f s)) (numbers first count) ≡ map (λ s. voted_value (g s)) (numbers first count)
values_same f g low first zero same le = refl
values_same f g low first (suc count) same le = rw (same first le, values_same f g low (first + 1) count same (omega arith)) refl

between_same : (promises : List Promised) (best : RingState Vote) (cw end : ℕ)
    → ((s : ℕ) → best.first ≤ s → value_at slot_of s best.items ≡ best_vote s (votes_told promises)) → best.first ≤ cw
    → values_between cw end best ≡ plan_between cw end (votes_told promises)
between_same promises best cw end same le =
    let with_values : List Value → Plan = λ values. record { cw = cw; end = end; values = values } in
    ap with_values
    (values_same (λ s. value_at slot_of s best.items) (λ s. best_vote s (votes_told promises)) best.first cw (end - cw) same le)

-- what is held gives the plan of all that was reported
pub plan_same : (low : ℕ) (promises : List Promised) (best : RingState Vote) (behind : ℕ) → IsBest promises best behind
    → plan_of low best behind ≡ plan low promises
plan_same low promises best behind is =
    let cw : max low best.first ≡ greatest_cw low promises = ap (max low) is.first ∙ greatest_low low promises in
    let end : max (max low best.first) behind ≡ end_told (greatest_cw low promises) (votes_told promises) = ap (λ (n : ℕ). max n behind) cw
    ∙ ap (max (greatest_cw low promises)) is.end ∙ end_at_least (greatest_cw low promises) (votes_told promises) in
    between_same promises best (max low best.first) (max (max low best.first) behind) is.votes (omega arith)
    ∙ ap (λ (n : ℕ). plan_between n (max (max low best.first) behind) (votes_told promises)) cw
    ∙ ap (λ (n : ℕ). plan_between (greatest_cw low promises) n (votes_told promises)) end
