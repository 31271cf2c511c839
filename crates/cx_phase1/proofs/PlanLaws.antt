-- The plan, vote by vote.
use Rattle.cx_base.proofs.Common.{◌≡◌, ◌+◌, ◌==◌, ℕ, Bool, true, false, max, List, [], ◌∷◌, ◌++◌, Option, None, Some, refl, ap, arith, sym}
use Rattle.cx_base.proofs.Common.{◌∙◌, eq-eqb, nat_tests, is_before}
use Rattle.cx_model.specs.Prelude.{Round, Vote, end_told, best_vote, greater_vote}
use Rattle.cx_phase1.specs.Best.{better}

-- an end may be taken before or after the others
pub end_from : (low end : ℕ) (votes : List Vote) → end_told (max low end) votes ≡ max end (end_told low votes)
end_from low end [] = omega arith
end_from low end (v ∷ votes) = omega (arith, end_from low end votes)

-- first some votes, and then the others
pub end_append : (low : ℕ) (votes others : List Vote) → end_told low (votes ++ others) ≡ end_told (end_told low votes) others
end_append low [] others = refl
end_append low (v ∷ votes) others =
    ap (λ n. max (v.slot + 1) n) (end_append low votes others) ∙ sym (end_from_front (v.slot + 1) (end_told low votes) others)
  where
    end_from_front : (end low : ℕ) (votes : List Vote) → end_told (max end low) votes ≡ max end (end_told low votes)
    end_from_front end low [] = refl
    end_from_front end low (v ∷ votes) = omega (arith, end_from_front end low votes)

before-trans : (a b c : Round) → is_before a b ≡ true → is_before b c ≡ true → is_before a c ≡ true
before-trans a b c h k = grind (arith, nat_tests)

not_before-trans : (a b c : Round) → is_before a b ≡ false → is_before b c ≡ false → is_before a c ≡ false
not_before-trans a b c h k = grind (arith, nat_tests)

greater_by : (a b c : Vote) (p q : Bool) → is_before a.round b.round ≡ p → is_before b.round c.round ≡ q
    → greater_vote (greater_vote a (Some b)) (Some c) ≡ greater_vote a (Some (greater_vote b (Some c)))
greater_by a b c true true ab bc = let ac = before-trans a.round b.round c.round ab bc in rw (ab, bc, ac) refl
greater_by a b c true false ab bc = rw (ab, bc, ab) refl
greater_by a b c false true ab bc = rw (ab, bc) refl
greater_by a b c false false ab bc = let ac = not_before-trans a.round b.round c.round ab bc in rw (ab, bc, ab, ac) refl

better-assoc : (a b c : Option Vote) → better (better a b) c ≡ better a (better b c)
better-assoc None b c = refl
better-assoc (Some x) None c = refl
better-assoc (Some x) (Some y) None = refl
better-assoc (Some x) (Some y) (Some z) = ap (λ (v : Vote). Some v) (greater_by x y z _ _ refl refl)

-- a vote at the slot is taken with those before it, or with those after it
pub better_on : (best : Option Vote) (s : ℕ) (v : Vote) (votes : List Vote) → v.slot ≡ s
    → better (better best (Some v)) (best_vote s votes) ≡ better best (best_vote s (v ∷ votes))
better_on best s v votes is = let at = eq-eqb v.slot s is in rw at (better-assoc best (Some v) (best_vote s votes))

-- no vote so far
pub better_none : (best : Option Vote) → better best None ≡ best
better_none None = refl
better_none (Some v) = refl

best_append_by : (s : ℕ) (v : Vote) (votes others : List Vote) (at : Bool) → (v.slot == s) ≡ at
    → best_vote s (votes ++ others) ≡ better (best_vote s votes) (best_vote s others)
    → best_vote s (v ∷ votes ++ others) ≡ better (best_vote s (v ∷ votes)) (best_vote s others)
best_append_by s v votes others true at rest = rw (at, rest) (sym (better-assoc (Some v) (best_vote s votes) (best_vote s others)))
best_append_by s v votes others false at rest = rw at rest

-- first some votes, and then the others
pub best_append : (s : ℕ) (votes others : List Vote) → best_vote s (votes ++ others) ≡ better (best_vote s votes) (best_vote s others)
best_append s [] others = refl
best_append s (v ∷ votes) others = best_append_by s v votes others _ refl (best_append s votes others)
