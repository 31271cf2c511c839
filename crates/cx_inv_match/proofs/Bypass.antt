-- Going on with another grid: what a leading leader proposed may be proposed in its next round, before anybody is asked; and when enough
-- matchmakers took that round, it leads.
use Rattle.cx_inv_run.proofs.Common.{◌≡◌, ℕ, ◌+◌, ◌<◌, ◌≤◌, true, ◌⊎◌, List, [], inl, inr, sym, subst, arith, nat_tests, Cluster, Placed}
use Rattle.cx_inv_run.proofs.Common.{Value, Round, Shape, role, is_before, Entry, Letter, KeptRecord, Matching, Leading, not_collecting}
use Rattle.cx_inv_run.proofs.Common.{IsProposed, LeaderVolatile, Member, HasKept, IsConfig, ap, before_cases}
use Rattle.cx_inv_match.specs.Prelude.{IsMatched, IsShut, IsSettled, IsLeft, IsSpent, IsSafe, IsMatching, InStage, IsReady, IsLeading}
use Rattle.cx_base.specs.declared.role.Kind.TheVariants as kind
use Rattle.cx_letter.specs.declared.kept.Record.TheVariants as kept

-- between a round and the next one of its leader there is none
pub before_next : (i j : Round) → is_before j (record i { s = i.s + 1 }) ≡ true → (is_before j i ≡ true) ⊎ (j ≡ i)
before_next i j l = go (before_cases j i)
  where
    none : is_before i j ≡ true → is_before j (record i { s = i.s + 1 }) ≡ true → ⊥
    none k m = grind (arith, nat_tests)

    go : (is_before j i ≡ true) ⊎ ((j ≡ i) ⊎ (is_before i j ≡ true)) → (is_before j i ≡ true) ⊎ (j ≡ i)
    go (inl k) = inl k
    go (inr (inl e)) = inr e
    go (inr (inr k)) = absurd (none k l)

-- a round is the next one of one round

same_parts : (i j : Round) → i.r ≡ j.r → i.id ≡ j.id → i.s ≡ j.s → i ≡ j
same_parts i j r id s = grind (arith, nat_tests)

round_before : (i j : Round) → record i { s = i.s + 1 } ≡ record j { s = j.s + 1 } → i ≡ j
round_before i j e =
    let next : i.s + 1 ≡ j.s + 1 = ap (λ (x : Round). x.s) e in
    same_parts i j (ap (λ (x : Round). x.r) e) (ap (λ (x : Round). x.id) e) (omega arith)

module _ (c : Cluster) (history : List KeptRecord) (sent : List Letter) (own : Entry) (v : LeaderVolatile)
    (leading : IsLeading c history sent own v) (g : Shape)
    (begun : HasKept history (role kind.Leader own.round.id) (kept.Round (record own.round { s = own.round.s + 1 }) g))
    (later : is_before own.round (record own.round { s = own.round.s + 1 }) ≡ true) where
  abbrev next : Round
  next = record own.round { s = own.round.s + 1 }

  left : IsLeft history own.round
  left = (next, g, later, begun)

  -- what is safe in the round, and all that was proposed there in the slot, is safe in the next one
  next_safe : (s : ℕ) (u : Value) → IsSafe c history sent own.round s u → ((w : Value) → IsProposed sent own.round s w → w ≡ u)
      → IsSafe c history sent next s u
  next_safe s u safe only j l = go (before_next own.round j l)
    where
      go : (is_before j own.round ≡ true) ⊎ (j ≡ own.round) → IsShut c history j ⊎ (IsSettled history j s u ⊎ IsSpent history sent j s u)
      go (inl k) = safe j k
      go (inr e) = inr (inr (subst (λ i. IsSpent history sent i s u) (sym e) (record { left = left; only = only })))

  -- a slot from the watermark on has one value at most: the one that is remembered
  remembered_only : (p : Placed) → Member p v.proposed → (w : Value) → IsProposed sent own.round p.slot w → w ≡ p.value
  remembered_only p m w x = go (leading.remembered p.slot w x) (leading.window p m)
    where
      go : (p.slot < v.cw) ⊎ Member {X = Placed} (record { slot = p.slot; value = w }) v.proposed → (v.cw ≤ p.slot) × (p.slot < v.next)
          → w ≡ p.value
      go (inl l) k = let a = k.0 in absurd (omega arith)
      go (inr n) k = leading.once p.slot w p.value n m

  -- after the order to change
  pub change_ready : IsReady c history sent (record { round = next; grid = g })
      (record v { mode = Matching; told = []; promises = []; collection = not_collecting })
  change_ready = record {
    once = leading.once;
    window = leading.window;
    safe = λ p m. next_safe p.slot p.value (leading.safe p m) (remembered_only p m);
    free = λ s u l. let k = leading.end_next in next_safe s u (leading.free s u (omega arith))
        (λ w x. let b = leading.below_next s w x in absurd (omega arith));
    cw_next = leading.cw_next;
    covered = λ j e.
        let same = round_before own.round j e in
        (subst (λ i. IsLeft history i) same left, λ s u x. leading.below_next s u (subst (λ i. IsProposed sent i s u) (sym same) x));
  }

-- enough matchmakers took the round
pub bypass_leading : (c : Cluster) (history : List KeptRecord) (sent : List Letter) (own : Entry) (v : LeaderVolatile)
    → IsMatching c history sent own v → IsReady c history sent own v → IsConfig history own.round own.grid → IsMatched c history own.round
    → IsLeading c history sent own (record v { mode = Leading; end = v.next; chosen = [] })
bypass_leading c history sent own v matching ready config matched = record {
  config = config;
  matched = matched;
  below_next = λ s u x. absurd (matching.unproposed s u x);
  remembered = λ s u x. absurd (matching.unproposed s u x);
  once = ready.once;
  window = ready.window;
  safe = ready.safe;
  free = ready.free;
  end_next = omega arith;
  cw_next = ready.cw_next;
  known = λ s m. absurd m;
  stage = subst (λ st. InStage c history sent own v.next v.collection st) (sym matching.off) tt;
}
