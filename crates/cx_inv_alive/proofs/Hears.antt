-- All replicas tick, and the leader is told.
use Rattle.std.proofs.lemmas.Bool.{cond-true}
use Rattle.cx_inv_run.proofs.Common.{◌≡◌, ◌<◌, ◌⊎◌, ℕ, zero, suc, true, false, List, [], ◌∷◌, ◌++◌, map, None, ap, sym, ◌∙◌, subst, refl}
use Rattle.cx_inv_run.proofs.Common.{inl, inr, arith, nat_tests, ◌+◌, ◌==◌, Bool, filter, max, nat_le, nat_lt, length, slice_index_or}
use Rattle.cx_inv_run.proofs.Common.{slice_set, Cluster, RoleId, below, role, LeaderDurable, LeaderVolatile, count_reaching, greatest_of}
use Rattle.cx_inv_run.proofs.Common.{held_by, leader_row, leader_rules, raised_to, bool_cases, same_number, same_role-itself, enough}
use Rattle.cx_inv_run.proofs.Common.{Member, Outcome, only_word, replied, ReplicaVolatile, fetch_to, held, held_to, replica_rules, World}
use Rattle.cx_inv_run.proofs.Common.{state_other, state_own, Member-first, Member-second, Member-below, filter-Member, filter-older}
use Rattle.cx_inv_run.proofs.Common.{map-Member, LeaderIn, ReplicaIn, durable_of}
use Rattle.cx_base.specs.declared.role.Kind.TheVariants as kind
use Rattle.cx_base.specs.declared.why.Why.TheVariants as why
use Rattle.cx_letter.specs.declared.input.Input.TheVariants as input
use Rattle.cx_inv_alive.proofs.Moments.{Moment, Goes, moved, Left, left_same, left_then, left_moved, left_still, to_leader, tick_replica}
use Rattle.cx_inv_alive.proofs.Phase.{less}
use Rattle.cx_inv_alive.proofs.Stages.{is_role, IsHearing, Grown}

-- LISTS OF NUMBERS

greatest_least : (xs : List ℕ) (most : ℕ) → ((k : ℕ) → Member k xs → nat_le k most ≡ true) → nat_le (greatest_of xs) most ≡ true
greatest_least [] most all = grind (arith, nat_tests)
greatest_least (x ∷ xs) most all = both x (greatest_of xs) most (all x (inl refl)) (greatest_least xs most (λ k m. all k (inr m)))
  where
    both : (a b n : ℕ) → nat_le a n ≡ true → nat_le b n ≡ true → nat_le (max a b) n ≡ true
    both a b n h k = grind (arith, nat_tests, h, k)

greatest_above : (xs : List ℕ) (k : ℕ) → Member k xs → nat_le k (greatest_of xs) ≡ true
greatest_above [] k m = absurd m
greatest_above (x ∷ xs) k (inl e) = subst (λ n. nat_le n (max x (greatest_of xs)) ≡ true) (sym e) (first x (greatest_of xs))
  where
    first : (a b : ℕ) → nat_le a (max a b) ≡ true
    first a b = grind (arith, nat_tests)
greatest_above (x ∷ xs) k (inr m) = second k x (greatest_of xs) (greatest_above xs k m)
  where
    second : (k a b : ℕ) → nat_le k b ≡ true → nat_le k (max a b) ≡ true
    second k a b h = grind (arith, nat_tests, h)

all_pass : (p : ℕ → Bool) (xs : List ℕ) → ((k : ℕ) → Member k xs → p k ≡ true) → filter p xs ≡ xs
all_pass p [] all = refl
all_pass p (x ∷ xs) all =
    cond-true (p x) (x ∷ filter p xs) (filter p xs) (all x (inl refl)) ∙ ap (λ l. x ∷ l) (all_pass p xs (λ k m. all k (inr m)))

pub held_least : (count most : ℕ) (xs : List ℕ) → ((k : ℕ) → Member k xs → nat_le k most ≡ true) → nat_le (held_by count xs) most ≡ true
held_least count most xs all = greatest_least (filter (λ n. nat_le count (count_reaching n xs)) xs) most
    (λ k m. all k (filter-older (λ n. nat_le count (count_reaching n xs)) k xs m))

same_both : (a b : ℕ) → nat_le a b ≡ true → nat_le b a ≡ true → a ≡ b
same_both a b h k = grind (arith, nat_tests, h, k)

-- what all of them reach, and none is above, is what enough of them reach
held_most : (count most : ℕ) (xs : List ℕ) → nat_lt 0 count ≡ true → nat_le count (length xs) ≡ true
    → ((k : ℕ) → Member k xs → nat_le k most ≡ true) → ((k : ℕ) → Member k xs → nat_le most k ≡ true)
    → nat_le most (held_by count xs) ≡ true
held_most count most [] some enough low high = absurd (none count some enough)
  where
    none : (n : ℕ) → nat_lt 0 n ≡ true → nat_le n 0 ≡ true → ⊥
    none n h k = grind (arith, nat_tests, h, k)
held_most count most (x ∷ xs) some enough low high =
    let l = x ∷ xs in
    let is : x ≡ most = same_both x most (low x (inl refl)) (high x (inl refl)) in
    let all : count_reaching most l ≡ length l = ap (λ (q : List ℕ). length q) (all_pass (λ h. nat_le most h) l high) in
    greatest_above (filter (λ n. nat_le count (count_reaching n l)) l) most
    (filter-Member (λ n. nat_le count (count_reaching n l)) most l (inl (sym is)) (subst (λ n. nat_le count n ≡ true) (sym all) enough))

set_length : (xs : List ℕ) (p n : ℕ) → length (slice_set xs p n) ≡ length xs
set_length [] p n = refl
set_length (x ∷ xs) zero n = refl
set_length (x ∷ xs) (suc p) n = ap (λ k. suc k) (set_length xs p n)

set_Member : (xs : List ℕ) (p n k : ℕ) → Member k (slice_set xs p n) → (k ≡ n) ⊎ Member k xs
set_Member [] p n k m = inr m
set_Member (x ∷ xs) zero n k (inl e) = inl e
set_Member (x ∷ xs) zero n k (inr m) = inr (inr m)
set_Member (x ∷ xs) (suc p) n k (inl e) = inr (inl e)
set_Member (x ∷ xs) (suc p) n k (inr m) = elim (set_Member xs p n k m) [ inl e ↦ inl e | inr q ↦ inr (inr q) ]

set_here : (xs : List ℕ) (p n : ℕ) → p < length xs → slice_index_or (slice_set xs p n) p 0 ≡ n
set_here [] p n l = absurd (none p l)
  where
    none : (p : ℕ) → p < 0 → ⊥
    none p l = omega (arith, l)
set_here (x ∷ xs) zero n l = refl
set_here (x ∷ xs) (suc p) n l = set_here xs p n (omega (arith, l))

set_there : (xs : List ℕ) (p n k : ℕ) → (k == p) ≡ false → slice_index_or (slice_set xs p n) k 0 ≡ slice_index_or xs k 0
set_there [] p n k e = refl
set_there (x ∷ xs) zero n zero e = cc
set_there (x ∷ xs) zero n (suc k) e = refl
set_there (x ∷ xs) (suc p) n zero e = refl
set_there (x ∷ xs) (suc p) n (suc k) e = set_there xs p n k (back k p e)
  where
    back : (a b : ℕ) → (suc a == suc b) ≡ false → (a == b) ≡ false
    back a b h = grind (arith, nat_tests, h)

each_at : (most : ℕ) (xs : List ℕ) → ((p : ℕ) → p < length xs → nat_le most (slice_index_or xs p 0) ≡ true) → (k : ℕ) → Member k xs
    → nat_le most k ≡ true
each_at most [] all k m = absurd m
each_at most (x ∷ xs) all k (inl e) = subst (λ n. nat_le most n ≡ true) (sym e) (all 0 (some (length xs)))
  where
    some : (n : ℕ) → 0 < suc n
    some n = omega arith
each_at most (x ∷ xs) all k (inr m) = each_at most xs (λ p l. all (suc p) (next p (length xs) l)) k m
  where
    next : (p n : ℕ) → p < n → suc p < suc n
    next p n l = omega (arith, l)

-- THE STAGE

module _ (goal : World → Type 0) (c : Cluster) (l most : ℕ) (led : nat_lt l c.leaders ≡ true) where
  abbrev me : RoleId
  me = role kind.Leader l

  abbrev none : RoleId → Bool
  none a = false

  row_same : (p : ℕ) (d : LeaderDurable) (v : LeaderVolatile) → nat_lt p c.replicas ≡ true → nat_le most (slice_index_or v.held p 0) ≡ true
      → leader_row c me d v (input.Take (held_to (role kind.Replica p) most l)) ≡ only_word why.Same v
  row_same p d v there h = rw (led, there, same_role-itself me, h) refl

  abbrev noted : LeaderVolatile → ℕ → LeaderVolatile
  noted v p = raised_to (held_by (enough c) (slice_set v.held p most)) (record v { held = slice_set v.held p most })

  row_noted : (p : ℕ) (d : LeaderDurable) (v : LeaderVolatile) → nat_lt p c.replicas ≡ true → nat_le most (slice_index_or v.held p 0)
      ≡ false → leader_row c me d v (input.Take (held_to (role kind.Replica p) most l)) ≡ only_word why.Held (noted v p)
  row_noted p d v there h = rw (led, there, same_role-itself me, h) refl

  pub record TellsAt (p : ℕ) (x : Moment) : Type 0 where
    pub volatile : ReplicaVolatile
    pub runs : x.states (role kind.Replica p) ≡ ReplicaIn volatile
    pub count : held (durable_of replica_rules (role kind.Replica p) x.kept) ≡ most
    pub there : nat_lt p c.replicas ≡ true

  -- a replica was heard
  abbrev Knows : LeaderVolatile → ℕ → Type 0
  Knows v p = nat_le most (slice_index_or v.held p 0) ≡ true

  grown_more : (v u : LeaderVolatile) (p : ℕ) → Grown c most v u → Grown c most v (noted u p)
  grown_more v u p g =
      let xs = slice_set u.held p most in
      let each : (k : ℕ) → Member k xs → nat_le k most ≡ true = λ k m. elim (set_Member u.held p most k
      m) [ inl e ↦ subst (λ n. nat_le n most ≡ true) (sym e) (itself most) | inr q ↦ g.hearing.told k q ] in
      let n = held_by (enough c) xs in
      record {
        hearing = record {
          count = set_length u.held p most ∙ g.hearing.count;
          noted = above u.cw n;
          told = each;
          ahead = above u.next (max u.cw n);
        };
        mode = g.mode;
        seen = g.seen;
        set = g.set;
        top = upper v.cw u.cw n most g.top (held_least (enough c) most xs each);
        next = ap (λ k. max k (max u.cw n)) g.next ∙ next_is v.next u.cw n;
      }
    where
      itself : (n : ℕ) → nat_le n n ≡ true
      itself n = grind (arith, nat_tests)

      above : (a b : ℕ) → nat_le b (max a b) ≡ true
      above a b = grind (arith, nat_tests)

      upper : (a b n m : ℕ) → nat_le b (max a m) ≡ true → nat_le n m ≡ true → nat_le (max b n) (max a m) ≡ true
      upper a b n m h k = grind (arith, nat_tests, h, k)

      next_is : (a b n : ℕ) → max (max a b) (max b n) ≡ max a (max b n)
      next_is a b n = grind (arith)

  abbrev Rest : Moment → LeaderVolatile → Type 0
  Rest x v = (y : Moment) (u : LeaderVolatile) → Left none (is_role me) x y → y.states me ≡ LeaderIn u → Grown c most v u
      → ((p : ℕ) → p < c.replicas → Knows u p) → Goes goal c y

  heard : (ps : List ℕ) (x : Moment) (v u : LeaderVolatile) → x.states me ≡ LeaderIn u → Grown c most v u
      → ((p : ℕ) → Member p ps → TellsAt p x) → ((p : ℕ) → p < c.replicas → Member p ps ⊎ Knows u p) → Rest x v → Goes goal c x
  heard [] x v u runs g tells known rest =
      rest x u (left_same none (is_role me) x) runs g (λ p low. elim (known p low) [ inl m ↦ absurd m | inr k ↦ k ])
  heard (p ∷ ps) x v u runs g tells known rest =
      let now = tells p (inl refl) in
      let it = role kind.Replica p in
      let d = held_to it most l in
      let sends = map (held_to it most) (below c.leaders) ++ fetch_to c it most in
      let asked : Outcome ReplicaVolatile = replied why.Resent now.volatile sends in
      let y = moved it (ReplicaIn now.volatile) None sends x in
      let same_y : Left none (is_role me) x y = left_still none (is_role me) it (ReplicaIn now.volatile) sends x now.runs in
      let m : Member d y.sent = Member-second d x.sent sends (Member-first d (map (held_to it most) (below c.leaders))
      _ (map-Member (held_to it most) l (below c.leaders) (Member-below l c.leaders (less l c.leaders led)))) in
      let runs_y : y.states me ≡ LeaderIn u = state_other it me (ReplicaIn now.volatile) x.states refl ∙ runs in
      let later : (q : ℕ) → Member q ps → (t : LeaderVolatile) → TellsAt q (moved me (LeaderIn t) None [] y) =
      λ q in_it t.
      let b = tells q (inr in_it) in
      record {
        volatile = b.volatile;
        runs = state_other me (role kind.Replica q) (LeaderIn t) y.states refl ∙ same_y.states (role kind.Replica q) refl ∙ b.runs;
        count = b.count;
        there = b.there;
      } in
      let left : (t : LeaderVolatile) → Left none (is_role me) x (moved me (LeaderIn t) None [] y) = λ t. left_then none (is_role me) x y
      (moved me (LeaderIn t) None [] y) same_y (left_moved none (is_role me) me (LeaderIn t) [] y (same_role-itself me)) in
      tick_replica goal c x p now.volatile asked now.runs
      (ap (λ n. replied why.Resent now.volatile (map (held_to it n) (below c.leaders) ++ fetch_to c it n)) now.count)
      (elim (bool_cases (nat_le most (slice_index_or u.held p 0))) [
        | inl t ↦
            to_leader goal c y l d m u (only_word why.Same u) refl runs_y (row_same p (durable_of leader_rules me y.kept) u now.there t)
            (heard ps (moved me (LeaderIn u) None [] y) v u (state_own me (LeaderIn u) y.states) g (λ q in_it. later q in_it u)
            (λ q low. elim (known q low) [ inl (inl e) ↦ inr (subst (λ n. Knows u n) (sym e) t) | inl (inr k) ↦ inl k | inr k ↦ inr k ])
            (λ z t2 left2. rest z t2 (left_then none (is_role me) x (moved me (LeaderIn u) None [] y) z (left u) left2)))
        | inr f ↦ to_leader goal c y l d m u (only_word why.Held (noted u p)) refl runs_y
            (row_noted p (durable_of leader_rules me y.kept) u now.there f)
            (heard ps (moved me (LeaderIn (noted u p)) None [] y) v (noted u p) (state_own me (LeaderIn (noted u p)) y.states)
            (grown_more v u p g) (λ q in_it. later q in_it (noted u p)) (λ q low. elim (bool_cases (q == p)) [
              | inl t ↦
                  inr (subst (λ n. Knows (noted u p) n) (sym (same_number q p t)) (subst (λ n. nat_le most n ≡ true)
                  (sym (set_here u.held p most (subst (λ n. p < n) (sym g.hearing.count) (less p c.replicas now.there)))) (itself most)))
              | inr e ↦
                  elim (known q low) [
                    | inl (inl k) ↦ absurd (not_there q p e k)
                    | inl (inr k) ↦ inl k
                    | inr k ↦ inr (subst (λ n. nat_le most n ≡ true) (sym (set_there u.held p most q e)) k)
                  ]
            ]) (λ z t2 left2.
            rest z t2 (left_then none (is_role me) x (moved me (LeaderIn (noted u p)) None [] y) z (left (noted u p)) left2)))
      ])
    where
      itself : (n : ℕ) → nat_le n n ≡ true
      itself n = grind (arith, nat_tests)

      not_there : (q p : ℕ) → (q == p) ≡ false → q ≡ p → ⊥
      not_there q p f e = grind (arith, nat_tests, f, e)

  pub heard_all : (x : Moment) (v : LeaderVolatile) → nat_le (enough c) c.replicas ≡ true → x.states me ≡ LeaderIn v → IsHearing c most v
      → ((p : ℕ) → Member p (below c.replicas) → TellsAt p x) → ((y : Moment) (u : LeaderVolatile) → Left none (is_role me) x y
      → y.states me ≡ LeaderIn u → Grown c most v u → nat_le most u.cw ≡ true → Goes goal c y) → Goes goal c x
  heard_all x v some runs hearing tells rest =
      heard (below c.replicas) x v v runs
      (record {
        hearing = hearing;
        mode = refl;
        seen = refl;
        set = refl;
        top = first v.cw most;
        next = ahead v.next v.cw hearing.ahead;
      })
      tells (λ p low. inl (Member-below p c.replicas low))
      (λ y u left is g known.
      rest y u left is g
      (reach most (held_by (enough c) u.held) u.cw
      (held_most (enough c) most u.held (positive c.f) (subst (λ n. nat_le (enough c) n ≡ true) (sym g.hearing.count) some) g.hearing.told
      (each_at most u.held (λ p low. known p (subst (λ n. p < n) g.hearing.count low))))
      g.hearing.noted))
    where
      first : (a b : ℕ) → nat_le a (max a b) ≡ true
      first a b = grind (arith, nat_tests)

      ahead : (n k : ℕ) → nat_le k n ≡ true → n ≡ max n k
      ahead n k h = grind (arith, nat_tests, h)

      positive : (f : ℕ) → nat_lt 0 (f + 1) ≡ true
      positive f = grind (arith, nat_tests)

      reach : (a b d : ℕ) → nat_le a b ≡ true → nat_le b d ≡ true → nat_le a d ≡ true
      reach a b d h k = grind (arith, nat_tests, h, k)
