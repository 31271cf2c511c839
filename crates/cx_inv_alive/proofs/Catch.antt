-- From the fullest replica on each one fetches from the next, round the ring.
use Rattle.std.proofs.lemmas.Nat.{mod-mul-add}
use Rattle.cx_inv_run.proofs.Common.{◌≡◌, ◌≤◌, ◌<◌, ℕ, zero, suc, true, false, List, [], ◌∷◌, ◌++◌, map, Some, None, ap, sym, ◌∙◌, subst}
use Rattle.cx_inv_run.proofs.Common.{refl, inl, inr, arith, nat_tests, list_all, ◌+◌, ◌-◌, ◌*◌, ◌%◌, ◌==◌, Bool, if◌then◌else◌, max, nat_le}
use Rattle.cx_inv_run.proofs.Common.{nat_lt, length, slice_get, min, Cluster, Value, RoleId, below, role, letter, bool_cases, same_number}
use Rattle.cx_inv_run.proofs.Common.{same_role-itself, names_value, Outcome, replied, ReplicaDurable, ReplicaVolatile, fetched_by, held}
use Rattle.cx_inv_run.proofs.Common.{held_to, replica_after, replica_rules, replica_row, World, durable_other, durable_own, state_other}
use Rattle.cx_inv_run.proofs.Common.{state_own, Member-at, Member-all, Member-both, Member-one, Member-second, all-Member, ReplicaIn}
use Rattle.cx_inv_run.proofs.Common.{durable_of}
use Rattle.cx_base.specs.declared.role.Kind.TheVariants as kind
use Rattle.cx_base.specs.declared.why.Why.TheVariants as why
use Rattle.cx_letter.specs.declared.input.Input.TheVariants as input
use Rattle.cx_letter.specs.declared.kept.Record.TheVariants as kept
use Rattle.cx_letter.specs.declared.message.Msg.TheVariants as msg
use Rattle.cx_inv_alive.proofs.Moments.{Moment, Goes, moved, Left, left_same, left_then, left_moved, left_both, to_replica, tick_replica}
use Rattle.cx_inv_alive.proofs.Phase.{less, less_test}
use Rattle.cx_inv_alive.proofs.Serve.{not_less, not_far, none_follows, held_after, applies}
use Rattle.cx_inv_alive.proofs.Stages.{is_of}

-- a replica's store
abbrev pub stored_at : Moment → ℕ → ReplicaDurable
stored_at x p = durable_of replica_rules (role kind.Replica p) x.kept

-- a replica runs, and no value came before its turn
abbrev pub SteadyAt : Moment → ℕ → Type 0
SteadyAt x p = (v : ReplicaVolatile) × (x.states (role kind.Replica p) ≡ ReplicaIn (record v { early = [] }))

-- Each replica has all values from where the next one forgot (law `forgotten_is_kept`).
abbrev pub IsRing : Cluster → Moment → Type 0
IsRing c x = (p : ℕ) → nat_lt p c.replicas ≡ true → nat_le (stored_at x ((p + 1) % c.replicas)).first (held (stored_at x p)) ≡ true

-- All hold what the fullest held.
pub record HaveCaughtUp (c : Cluster) (Q : ReplicaDurable → Type 0) (x y : Moment) : Type 0 where
  pub left : Left (is_of kind.Replica) (is_of kind.Replica) x y
  pub steady : (p : ℕ) → nat_lt p c.replicas ≡ true → SteadyAt y p
  pub most : ℕ
  pub full : (p : ℕ) → nat_lt p c.replicas ≡ true → held (stored_at y p) ≡ most
  pub top : (p : ℕ) → nat_lt p c.replicas ≡ true → nat_le (held (stored_at x p)) most ≡ true
  pub fullest : ℕ
  pub there : nat_lt fullest c.replicas ≡ true
  pub is_full : held (stored_at x fullest) ≡ most
  pub such : (p : ℕ) → nat_lt p c.replicas ≡ true → Q (stored_at y p)

-- ROWS

abbrev asks : Cluster → ℕ → ℕ → ReplicaVolatile → Outcome ReplicaVolatile
asks c p h v = replied why.Resent v (map (held_to (role kind.Replica p) h) (below c.leaders)
    ++ letter (role kind.Replica p) (role kind.Replica ((p + 1) % c.replicas)) (msg.Fetch h) ∷ [])

row_tick : (c : Cluster) (p : ℕ) (d : ReplicaDurable) (v : ReplicaVolatile) → nat_lt 1 c.replicas ≡ true
    → replica_row c (role kind.Replica p) d v input.Tick ≡ asks c p (held d) v
row_tick c p d v h = rw h refl

row_fetch : (c : Cluster) (p n h : ℕ) (d : ReplicaDurable) (v : ReplicaVolatile) (value : Value) → nat_lt p c.replicas ≡ true
    → nat_lt n c.replicas ≡ true → nat_lt h d.first ≡ false → slice_get d.log (h - d.first) ≡ Some value
    → replica_row c (role kind.Replica n) d v (input.Take (letter (role kind.Replica p) (role kind.Replica n) (msg.Fetch h)))
    ≡ replied why.Fetched (fetched_by c (role kind.Replica n) v (role kind.Replica p) h)
    (letter (role kind.Replica n) (role kind.Replica p) (msg.Chosen h value) ∷ [])
row_fetch c p n h d v value one two low there = rw (one, two, same_role-itself (role kind.Replica n), low, there) refl

row_fetched : (c : Cluster) (p n : ℕ) (d : ReplicaDurable) (v : ReplicaVolatile) (value : Value) → nat_lt p c.replicas ≡ true
    → nat_lt n c.replicas ≡ true → names_value c value ≡ true
    → replica_row c (role kind.Replica p) d (record v { early = [] })
    (input.Take (letter (role kind.Replica n) (role kind.Replica p) (msg.Chosen (held d) value))) ≡ applies c p d v value
row_fetched c p n d v value one two named = rw (
  one,
  two,
  named,
  same_role-itself (role kind.Replica p),
  not_less (held d),
  not_far (held d),
  none_follows (held d + 1) (min 31 (1099511627776 - (held d + 1))),
) refl

-- NUMBERS

pub small_mod : (a n : ℕ) → a < n → a % n ≡ a
small_mod a n l = ap (λ k. k % n) (same a n) ∙ mod-mul-add 0 n a l
  where
    same : (a n : ℕ) → a ≡ 0 * n + a
    same a n = omega arith

pub mod_itself : (n : ℕ) → 0 < n → n % n ≡ 0
mod_itself n l = ap (λ k. k % n) (same n) ∙ mod-mul-add 1 n 0 l
  where
    same : (n : ℕ) → n ≡ 1 * n + 0
    same n = omega arith

find_at : {X : Type 0} (xs : List X) (i : ℕ) → i < length xs → (x : X) × (slice_get xs i ≡ Some x)
find_at [] i l = absurd (none i l)
  where
    none : (i : ℕ) → i < 0 → ⊥
    none i l = omega (arith, l)
find_at (x ∷ xs) zero l = (x, refl)
find_at (x ∷ xs) (suc i) l = find_at xs i (omega (arith, l))

-- one of them is the greatest
record Fullest (f : ℕ → ℕ) (n : ℕ) : Type 0 where
  at : ℕ
  there : at < n
  most : (q : ℕ) → q < n → f q ≤ f at

fullest : (f : ℕ → ℕ) (n : ℕ) → Fullest f (suc n)
fullest f zero = record { at = 0; there = omega arith; most = λ q l. subst (λ k. f k ≤ f 0) (sym (only q l)) (omega arith) }
  where
    only : (q : ℕ) → q < 1 → q ≡ 0
    only q l = omega (arith, l)
fullest f (suc n) =
    let b = fullest f n in
    elim (bool_cases (nat_le (f b.at) (f (suc n)))) [
      | inl t ↦
          record {
            at = suc n;
            there = omega arith;
            most = λ q l. elim (bool_cases (q == suc n)) [
              | inl e ↦ subst (λ k. f k ≤ f (suc n)) (sym (same_number q (suc n) e)) (omega arith)
              | inr e ↦ both (f q) (f b.at) (f (suc n)) (b.most q (lower q (suc n) l e)) t
            ];
          }
      | inr t ↦
          record {
            at = b.at;
            there = up b.at (suc n) b.there;
            most = λ q l. elim (bool_cases (q == suc n)) [
              | inl e ↦ subst (λ k. f k ≤ f b.at) (sym (same_number q (suc n) e)) (other (f b.at) (f (suc n)) t)
              | inr e ↦ b.most q (lower q (suc n) l e)
            ];
          }
    ]
  where
    both : (a b d : ℕ) → a ≤ b → nat_le b d ≡ true → a ≤ d
    both a b d l t = grind (arith, nat_tests, l, t)

    other : (a b : ℕ) → nat_le a b ≡ false → b ≤ a
    other a b t = grind (arith, nat_tests, t)

    lower : (q n : ℕ) → q < suc n → (q == n) ≡ false → q < n
    lower q n l e = grind (arith, nat_tests, l, e)

    up : (a n : ℕ) → a < n → a < suc n
    up a n l = omega (arith, l)

-- what holds of one number, and of each other, holds of all
by_number : (T : ℕ → Type 0) (p : ℕ) → T p → ((q : ℕ) → (q == p) ≡ false → T q) → (q : ℕ) → T q
by_number T p own others q = elim (bool_cases (q == p)) [ inl t ↦ subst T (sym (same_number q p t)) own | inr f ↦ others q f ]

early_if : (b : Bool) (v u : ReplicaVolatile) → v.early ≡ [] → u.early ≡ [] → (if b then v else u).early ≡ []
early_if true v u e f = e
early_if false v u e f = f

-- THE STAGE

module _ (goal : World → Type 0) (c : Cluster) (most : ℕ) (P : Value → Bool) (passes : (v : Value) → P v ≡ true → names_value c v ≡ true)
    (Q : ReplicaDurable → Type 0)
    (next_q : (d : ReplicaDurable) (v : Value) → P v ≡ true → Q d → Q (replica_after d (kept.Log (v ∷ [])))) where
  abbrev me : ℕ → RoleId
  me p = role kind.Replica p

  abbrev rep : RoleId → Bool
  rep = is_of kind.Replica

  abbrev nxt : ℕ → ℕ
  nxt p = (p + 1) % c.replicas

  pub record RingAt (x : Moment) : Type 0 where
    pub steady : (p : ℕ) → nat_lt p c.replicas ≡ true → SteadyAt x p
    pub ring : (p : ℕ) → nat_lt p c.replicas ≡ true → nat_le (stored_at x (nxt p)).first (held (stored_at x p)) ≡ true
    pub named : (p : ℕ) → nat_lt p c.replicas ≡ true → list_all P (stored_at x p).log ≡ true
    pub such : (p : ℕ) → nat_lt p c.replicas ≡ true → Q (stored_at x p)
    pub within : (p : ℕ) → nat_lt p c.replicas ≡ true → nat_le (held (stored_at x p)) most ≡ true

  -- those that hold all stay as they are
  abbrev Stay : Moment → Moment → Type 0
  Stay x y = (q : ℕ) → held (stored_at x q) ≡ most → stored_at y q ≡ stored_at x q

  stay_then : (x y z : Moment) → Stay x y → Stay y z → Stay x z
  stay_then x y z a b q full = b q (ap (λ d. held d) (a q full) ∙ full) ∙ a q full

  place : (f h m k : ℕ) → nat_le f h ≡ true → f + k ≡ m → nat_lt h m ≡ true → h - f < k
  place f h m k a e b = grind (arith, nat_tests, a, e, b)

  -- a replica has one value more, and the others are as they were
  record Gains (p : ℕ) (value : Value) (x y : Moment) : Type 0 where
    own : stored_at y p ≡ replica_after (stored_at x p) (kept.Log (value ∷ []))
    others : (q : ℕ) → (q == p) ≡ false → stored_at y q ≡ stored_at x q

  one_more : (p : ℕ) (value : Value) (x y : Moment) → Gains p value x y → held (stored_at y p) ≡ held (stored_at x p) + 1
  one_more p value x y gains = ap (λ d. held d) gains.own ∙ held_after (stored_at x p) value (held (stored_at x p)) refl

  ring_after : (p : ℕ) (value : Value) (x y : Moment) → Gains p value x y → RingAt x → P value ≡ true → nat_lt p c.replicas ≡ true
      → nat_lt (held (stored_at x p)) most ≡ true → ((q : ℕ) → nat_lt q c.replicas ≡ true → SteadyAt y q) → RingAt y
  ring_after p value x y gains at pass there lacks steady =
      let d = stored_at x p in
      let first : (q : ℕ) → (stored_at y q).first ≡ (stored_at x q).first = by_number (λ q. (stored_at y q).first ≡ (stored_at x q).first) p
      (ap (λ (z : ReplicaDurable). z.first) gains.own) (λ q f. ap (λ (z : ReplicaDurable). z.first) (gains.others q f)) in
      let grows : (q : ℕ) → nat_le (held (stored_at x q)) (held (stored_at y q)) ≡ true =
      by_number (λ q. nat_le (held (stored_at x q)) (held (stored_at y q)) ≡ true) p
      (up (held d) (held (stored_at y p)) (one_more p value x y gains))
      (λ q f. subst (λ (z : ReplicaDurable). nat_le (held (stored_at x q)) (held z) ≡ true) (sym (gains.others q f))
      (itself (held (stored_at x q)))) in
      record {
        steady = steady;
        ring = λ q low. grown (stored_at y (nxt q)).first (stored_at x (nxt q)).first (held (stored_at x q)) (held (stored_at y q))
            (first (nxt q)) (at.ring q low) (grows q);
        named = by_number (λ q. nat_lt q c.replicas ≡ true → list_all P (stored_at y q).log ≡ true) p
            (λ low.
            subst (λ (z : ReplicaDurable). list_all P z.log ≡ true) (sym gains.own) (Member-all P (d.log ++ value ∷ []) (Member-both (λ v.
            P v ≡ true) d.log (value ∷ []) (all-Member P d.log (at.named p there)) (Member-one (λ v. P v ≡ true) value pass))))
            (λ q f low. subst (λ (z : ReplicaDurable). list_all P z.log ≡ true) (sym (gains.others q f)) (at.named q low));
        such = by_number (λ q. nat_lt q c.replicas ≡ true → Q (stored_at y q)) p (λ low.
            subst Q (sym gains.own) (next_q d value pass (at.such p there))) (λ q f low. subst Q (sym (gains.others q f)) (at.such q low));
        within = by_number (λ q. nat_lt q c.replicas ≡ true → nat_le (held (stored_at y q)) most ≡ true) p
            (λ low. subst (λ j. nat_le j most ≡ true) (sym (one_more p value x y gains)) (one_up (held d) most lacks))
            (λ q f low. subst (λ (z : ReplicaDurable). nat_le (held z) most ≡ true) (sym (gains.others q f)) (at.within q low));
      }
    where
      one_up : (h m : ℕ) → nat_lt h m ≡ true → nat_le (h + 1) m ≡ true
      one_up h m l = grind (arith, nat_tests, l)

      grown : (f2 f h h2 : ℕ) → f2 ≡ f → nat_le f h ≡ true → nat_le h h2 ≡ true → nat_le f2 h2 ≡ true
      grown f2 f h h2 e a b = grind (arith, nat_tests, e, a, b)

      up : (a b : ℕ) → b ≡ a + 1 → nat_le a b ≡ true
      up a b e = grind (arith, nat_tests, e)

      itself : (a : ℕ) → nat_le a a ≡ true
      itself a = grind (arith, nat_tests)

  one_fetch : (p : ℕ) (x : Moment) → nat_lt 1 c.replicas ≡ true → nat_lt p c.replicas ≡ true → nat_lt (nxt p) c.replicas ≡ true
      → (nxt p == p) ≡ false → held (stored_at x (nxt p)) ≡ most → nat_lt (held (stored_at x p)) most ≡ true → RingAt x
      → ((y : Moment) → Left rep rep x y → RingAt y → held (stored_at y p) ≡ held (stored_at x p) + 1 → Stay x y → Goes goal c y)
      → Goes goal c x
  one_fetch p x many one two differs full lacks at rest =
      let k = nxt p in
      let d = stored_at x p in
      let e = stored_at x k in
      let h = held d in
      let mine = at.steady p one in
      let its = at.steady k two in
      let v = record mine.0 { early = [] } in
      let n = record its.0 { early = [] } in
      let low : nat_lt h e.first ≡ false = low_of e.first h (at.ring p one) in
      let found = find_at e.log (h - e.first) (place e.first h most (length e.log) (at.ring p one) full lacks) in
      let value = found.0 in
      let pass : P value ≡ true = all-Member P e.log (at.named k two) value (Member-at value e.log (h - e.first) found.1) in
      let named = passes value pass in
      let ask = letter (me p) (me k) (msg.Fetch h) in
      let give = letter (me k) (me p) (msg.Chosen h value) in
      let asked = asks c p h v in
      let after = fetched_by c (me k) n (me p) h in
      let gave : Outcome ReplicaVolatile = replied why.Fetched after (give ∷ []) in
      let done = applies c p d mine.0 value in
      let x1 = moved (me p) (ReplicaIn v) None asked.sends x in
      let x2 = moved (me k) (ReplicaIn after) None (give ∷ []) x1 in
      let x3 = moved (me p) (ReplicaIn done.volatile) done.kept done.sends x2 in
      let back : (p == k) ≡ false = turn k p differs in
      let early : after.early ≡ [] =
      early_if (p == (k + c.replicas - 1) % c.replicas) (record n { fetched = max n.fetched h }) n refl refl in
      let gains : Gains p value x x3 = record {
        own = durable_own replica_rules (me p) (kept.Log (value ∷ [])) x.kept;
        others = λ q f. durable_other replica_rules (me p) (me q) (kept.Log (value ∷ [])) x.kept f;
      } in
      let steady : (q : ℕ) → nat_lt q c.replicas ≡ true → SteadyAt x3 q = by_number (λ q. nat_lt q c.replicas ≡ true → SteadyAt x3 q) p
      (λ low. (done.volatile, state_own (me p) (ReplicaIn done.volatile) x2.states)) (λ q f low.
      by_number (λ q. (q == p) ≡ false → nat_lt q c.replicas ≡ true → SteadyAt x3 q) k
      (λ f low. (
        after,
        state_other (me p) (me k) (ReplicaIn done.volatile) x2.states f ∙ state_own (me k) (ReplicaIn after) x1.states
            ∙ ap (λ l. ReplicaIn (record after { early = l })) early,
      ))
      (λ q g f low.
      let b = at.steady q low in (
        b.0,
        state_other (me p) (me q) (ReplicaIn done.volatile) x2.states f ∙ state_other (me k) (me q) (ReplicaIn after) x1.states g
            ∙ state_other (me p) (me q) (ReplicaIn v) x.states f ∙ b.1,
      )) q f low) in
      tick_replica goal c x p v asked mine.1 (row_tick c p d v many) (to_replica goal c x1 k ask (Member-second ask x.sent asked.sends
      (Member-second ask (map (held_to (me p) h) (below c.leaders)) (ask ∷ []) (inl refl))) n gave refl
      (state_other (me p) (me k) (ReplicaIn v) x.states differs ∙ its.1) (row_fetch c p k h e n value one two low found.1)
      (to_replica goal c x2 p give (Member-second give x1.sent (give ∷ []) (inl refl)) v done refl
      (state_other (me k) (me p) (ReplicaIn after) x1.states back ∙ state_own (me p) (ReplicaIn v) x.states)
      (row_fetched c p k d mine.0 value one two named)
      (rest x3
      (left_then rep rep x x1 x3 (left_moved rep rep (me p) (ReplicaIn v) asked.sends x refl)
      (left_then rep rep x1 x2 x3 (left_moved rep rep (me k) (ReplicaIn after) (give ∷ []) x1 refl)
      (left_both rep rep (me p) (ReplicaIn done.volatile) (kept.Log (value ∷ [])) done.sends x2 refl refl))) (ring_after p value x x3 gains
      at pass one lacks steady) (one_more p value x x3 gains) (λ q all. gains.others q (apart_full q p x all lacks)))))
    where
      low_of : (f h : ℕ) → nat_le f h ≡ true → nat_lt h f ≡ false
      low_of f h a = grind (arith, nat_tests, a)

      turn : (a b : ℕ) → (a == b) ≡ false → (b == a) ≡ false
      turn a b f = grind (arith, nat_tests, f)

      apart_full : (q p : ℕ) (x : Moment) → held (stored_at x q) ≡ most → nat_lt (held (stored_at x p)) most ≡ true → (q == p) ≡ false
      apart_full q p x all lacks = elim (bool_cases (q == p)) [
        | inl t ↦ absurd (clash (held (stored_at x p)) most (ap (λ j. held (stored_at x j)) (sym (same_number q p t)) ∙ all) lacks)
        | inr f ↦ f
      ]
        where
          clash : (a b : ℕ) → a ≡ b → nat_lt a b ≡ true → ⊥
          clash a b e l = grind (arith, nat_tests, e, l)

  -- one replica has all that the next one holds
  bring : (count p : ℕ) (x : Moment) → nat_lt 1 c.replicas ≡ true → nat_lt p c.replicas ≡ true → nat_lt (nxt p) c.replicas ≡ true
      → (nxt p == p) ≡ false → held (stored_at x (nxt p)) ≡ most → held (stored_at x p) + count ≡ most → RingAt x
      → ((y : Moment) → Left rep rep x y → RingAt y → held (stored_at y p) ≡ most → Stay x y → Goes goal c y)
      → Goes goal c x
  bring zero p x many one two differs full sum at rest =
      rest x (left_same rep rep x) at (sym (plus (held (stored_at x p))) ∙ sum) (λ q e. refl)
    where
      plus : (n : ℕ) → n + 0 ≡ n
      plus n = omega arith
  bring (suc count) p x many one two differs full sum at rest =
      one_fetch p x many one two differs full (lacking (held (stored_at x p)) count most sum) at
      (λ y left at2 more stay. bring count p y many one two differs (ap (λ d. held d) (stay (nxt p) full) ∙ full)
      (ap (λ n. n + count) more ∙ shift (held (stored_at x p)) count ∙ sum) at2
      (λ z left2 at3 all stay2. rest z (left_then rep rep x y z left left2) at3 all (stay_then x y z stay stay2)))
    where
      lacking : (a n m : ℕ) → a + suc n ≡ m → nat_lt a m ≡ true
      lacking a n m e = grind (arith, nat_tests, e)

      shift : (a n : ℕ) → (a + 1) + n ≡ a + suc n
      shift a n = omega arith

  rest_of : (a m : ℕ) → nat_le a m ≡ true → a + (m - a) ≡ m
  rest_of a m l = grind (arith, nat_tests, l)

  abbrev Brings : ℕ → Moment → Type 0
  Brings j x = (y : Moment) → Left rep rep x y → RingAt y → ((q : ℕ) → q ≤ j → held (stored_at y q) ≡ most) → Stay x y → Goes goal c y

  -- all below one that holds all
  down : (j : ℕ) (x : Moment) → nat_lt j c.replicas ≡ true → RingAt x → held (stored_at x j) ≡ most → Brings j x → Goes goal c x
  down zero x there at full rest =
      rest x (left_same rep rep x) at (λ q l. subst (λ n. held (stored_at x n) ≡ most) (sym (only q l)) full) (λ q e. refl)
    where
      only : (q : ℕ) → q ≤ 0 → q ≡ 0
      only q l = omega (arith, l)
  down (suc j) x there at full rest =
      let is : nxt j ≡ suc j = ap (λ n. n % c.replicas) (plus j) ∙ small_mod (suc j) c.replicas (less (suc j) c.replicas there) in
      let low : nat_lt j c.replicas ≡ true = lower j c.replicas there in
      bring (most - held (stored_at x j)) j x (many j c.replicas there) low (subst (λ n. nat_lt n c.replicas ≡ true) (sym is) there)
      (subst (λ n. (n == j) ≡ false) (sym is) (apart j)) (subst (λ n. held (stored_at x n) ≡ most) (sym is) full)
      (rest_of (held (stored_at x j)) most (at.within j low)) at (λ y left at2 all stay. down j y low at2 all (λ z left2 at3 below_j stay2.
      rest z (left_then rep rep x y z left left2) at3
      (λ q l. elim (bool_cases (q == suc j)) [
        | inl t ↦ subst (λ n. held (stored_at z n) ≡ most) (sym (same_number q (suc j) t))
            (ap (λ d. held d) (stay_then x y z stay stay2 (suc j) full) ∙ full)
        | inr f ↦ below_j q (at_most q j l f)
      ])
      (stay_then x y z stay stay2)))
    where
      plus : (n : ℕ) → n + 1 ≡ suc n
      plus n = omega arith

      lower : (j n : ℕ) → nat_lt (suc j) n ≡ true → nat_lt j n ≡ true
      lower j n l = grind (arith, nat_tests, l)

      many : (j n : ℕ) → nat_lt (suc j) n ≡ true → nat_lt 1 n ≡ true
      many j n l = grind (arith, nat_tests, l)

      apart : (j : ℕ) → (suc j == j) ≡ false
      apart j = grind (arith, nat_tests)

      at_most : (q j : ℕ) → q ≤ suc j → (q == suc j) ≡ false → q ≤ j
      at_most q j l f = grind (arith, nat_tests, l, f)

  -- round the ring
  pub round : (t m : ℕ) (x : Moment) → c.replicas ≡ suc m → nat_lt t c.replicas ≡ true → RingAt x → held (stored_at x t) ≡ most
      → ((y : Moment) → Left rep rep x y → RingAt y → ((q : ℕ) → nat_lt q c.replicas ≡ true → held (stored_at y q) ≡ most) → Stay x y
      → Goes goal c y) → Goes goal c x
  round t zero x is there at full rest = down t x there at full
      (λ y left at2 all stay. rest y left at2 (λ q low. all q (only q t (subst (λ n. nat_lt q n ≡ true) is low))) stay)
    where
      only : (q t : ℕ) → nat_lt q 1 ≡ true → q ≤ t
      only q t l = grind (arith, nat_tests, l)
  round t (suc m) x is there at full rest =
      let last : nat_lt (suc m) c.replicas ≡ true = subst (λ n. nat_lt (suc m) n ≡ true) (sym is) (itself m) in
      let none : nat_lt 0 c.replicas ≡ true = subst (λ n. nat_lt 0 n ≡ true) (sym is) (some (suc m)) in
      let wraps : nxt (suc m) ≡ 0 = ap (λ n. n % c.replicas) (plus m ∙ sym is) ∙ mod_itself c.replicas (less 0 c.replicas none) in
      down t x there at full
      (λ y left at2 all stay. bring (most - held (stored_at y (suc m))) (suc m) y (subst (λ n. nat_lt 1 n ≡ true) (sym is) (two m)) last
      (subst (λ n. nat_lt n c.replicas ≡ true) (sym wraps) none)
      (subst (λ n. (n == suc m) ≡ false) (sym wraps) (apart m)) (subst (λ n. held (stored_at y n) ≡ most) (sym wraps) (all 0 (least t)))
      (rest_of (held (stored_at y (suc m))) most (at2.within (suc m) last)) at2 (λ z left2 at3 all2 stay2. down (suc m) z last at3 all2
      (λ u left3 at4 all3 stay3. rest u (left_then rep rep x y u left (left_then rep rep y z u left2 left3)) at4
      (λ q low. all3 q (at_most q (suc m) (subst (λ n. nat_lt q n ≡ true) is low))) (stay_then x y u stay (stay_then y z u stay2 stay3)))))
    where
      itself : (m : ℕ) → nat_lt (suc m) (suc (suc m)) ≡ true
      itself m = grind (arith, nat_tests)

      some : (m : ℕ) → nat_lt 0 (suc m) ≡ true
      some m = grind (arith, nat_tests)

      two : (m : ℕ) → nat_lt 1 (suc (suc m)) ≡ true
      two m = grind (arith, nat_tests)

      plus : (m : ℕ) → suc m + 1 ≡ suc (suc m)
      plus m = omega arith

      apart : (m : ℕ) → (0 == suc m) ≡ false
      apart m = grind (arith, nat_tests)

      least : (t : ℕ) → 0 ≤ t
      least t = omega arith

      at_most : (q m : ℕ) → nat_lt q (suc m) ≡ true → q ≤ m
      at_most q m l = grind (arith, nat_tests, l)

-- what passes a test in all logs, and is so of all stores and stays so
pub caught_up : (goal : World → Type 0) (c : Cluster) (P : Value → Bool) (Q : ReplicaDurable → Type 0) (x : Moment)
    → nat_lt 0 c.replicas ≡ true → ((p : ℕ) → nat_lt p c.replicas ≡ true → SteadyAt x p) → IsRing c x
    → ((v : Value) → P v ≡ true → names_value c v ≡ true) → ((p : ℕ) → nat_lt p c.replicas ≡ true → list_all P (stored_at x p).log ≡ true)
    → ((d : ReplicaDurable) (v : Value) → P v ≡ true → Q d → Q (replica_after d (kept.Log (v ∷ []))))
    → ((p : ℕ) → nat_lt p c.replicas ≡ true → Q (stored_at x p)) → ((y : Moment) → HaveCaughtUp c Q x y → Goes goal c y) → Goes goal c x
caught_up goal c P Q x some steady ring passes logs next_q such rest = go c.replicas refl
  where
    go : (n : ℕ) → c.replicas ≡ n → Goes goal c x
    go zero is = absurd (clash c.replicas is some)
      where
        clash : (n : ℕ) → n ≡ 0 → nat_lt 0 n ≡ true → ⊥
        clash n e l = grind (arith, nat_tests, e, l)
    go (suc m) is =
        let top = fullest (λ p. held (stored_at x p)) m in
        let most = held (stored_at x top.at) in
        let there : nat_lt top.at c.replicas ≡ true = subst (λ n. nat_lt top.at n ≡ true) (sym is) (less_test top.at (suc m) top.there) in
        let within : (p : ℕ) → nat_lt p c.replicas ≡ true → nat_le (held (stored_at x p)) most ≡ true =
        λ p low. test (held (stored_at x p)) most (top.most p (subst (λ n. p < n) is (less p c.replicas low))) in
        round goal c most P passes Q next_q top.at m x is there
        (record { steady = steady; ring = ring; named = logs; such = such; within = within }) refl (λ y left at all stay. rest y (record {
          left = left;
          steady = at.steady;
          most = most;
          full = all;
          top = within;
          fullest = top.at;
          there = there;
          is_full = refl;
          such = at.such;
        }))
      where
        test : (a b : ℕ) → a ≤ b → nat_le a b ≡ true
        test a b l = grind (arith, nat_tests, l)
