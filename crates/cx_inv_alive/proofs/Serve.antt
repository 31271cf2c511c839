-- One slot after the other, at any cluster: a proxy that was just opened asks the acceptor, counts its vote, and all replicas execute.
use Rattle.cx_inv_run.proofs.Common.{◌≡◌, ℕ, zero, suc, true, false, List, [], ◌∷◌, ◌++◌, map, Option, Some, None, ap, sym, ◌∙◌, subst}
use Rattle.cx_inv_run.proofs.Common.{refl, inl, inr, arith, and_parts, nat_tests, length-append, list_all, ◌+◌, ◌-◌, ◌%◌, ◌==◌}
use Rattle.cx_inv_run.proofs.Common.{Bool, ◌||◌, ◌&&◌, max, min, nat_le, nat_lt, length, Cluster, Placed, Value, RoleId, Round, is_in}
use Rattle.cx_inv_run.proofs.Common.{below, following, role, is_before, column_of, Record, Letter, letter, AcceptorDurable, acceptor_row}
use Rattle.cx_inv_run.proofs.Common.{acceptor_rules, is_of_round, vote_at, bool_cases, number_itself, same_number, same_role-itself, Member}
use Rattle.cx_inv_run.proofs.Common.{names_value, Outcome, replied, placed_from, ProxyVolatile, announcement, chosen_to, column_for}
use Rattle.cx_inv_run.proofs.Common.{pending_of, phase2a_to, proxy_row, proxy_rules, ReplicaDurable, ReplicaVolatile, execute_value, held}
use Rattle.cx_inv_run.proofs.Common.{machine_from, read_answers, replica_after, replica_row, replica_rules, results_at, results_from, World}
use Rattle.cx_inv_run.proofs.Common.{durable_other, durable_own, state_other, state_own, Member-first, Member-second, Member-cases}
use Rattle.cx_inv_run.proofs.Common.{Member-below, below-Member, filter-Member, map-Member, none-Member, Plain, ProxyIn, ReplicaIn}
use Rattle.cx_inv_run.proofs.Common.{durable_of}
use Rattle.cx_base.specs.declared.role.Kind.TheVariants as kind
use Rattle.cx_base.specs.declared.why.Why.TheVariants as why
use Rattle.cx_letter.specs.declared.input.Input.TheVariants as input
use Rattle.cx_letter.specs.declared.kept.Record.TheVariants as kept
use Rattle.cx_letter.specs.declared.message.Msg.TheVariants as msg
use Rattle.cx_model.specs.Leader.{proxy_of}
use Rattle.cx_model.specs.Proxy.{ask}
use Rattle.cx_model.proofs.Proxies.{proxy_below}
use Rattle.cx_model.specs.Replica.{still_deferred}
use Rattle.cx_inv_alive.proofs.Moments.{Moment, Goes, moved, Left, left_same, left_then, left_moved, left_kept, left_still, left_weaker}
use Rattle.cx_inv_alive.proofs.Moments.{to_acceptor, to_proxy, to_replica, fresh_proxy, left_both}
use Rattle.cx_inv_alive.proofs.Phase.{apart_numbers, less, less_test}
use Rattle.cx_inv_alive.proofs.Stages.{is_of, Apart, lead_round, MayVote, single_grid, proposed_over, with_values, keeps_served}
use Rattle.cx_inv_alive.proofs.Stages.{moves_served}

-- NUMBERS

mod_one : (n : ℕ) → n % 1 ≡ 0
mod_one n = omega arith

not_past : (slot cw : ℕ) → nat_lt slot cw ≡ false → nat_lt slot (max 0 cw) ≡ false
not_past slot cw h = grind (arith, nat_tests, h)

pub not_less : (n : ℕ) → nat_lt n n ≡ false
not_less n = grind (arith, nat_tests)

pub not_far : (n : ℕ) → nat_le (n + 32) n ≡ false
not_far n = grind (arith, nat_tests)

pub not_before_itself : (l r : ℕ) → is_before (lead_round l r) (lead_round l r) ≡ false
not_before_itself l r = grind (arith, nat_tests)

next_within : (slot d : ℕ) → nat_lt slot d ≡ false → nat_lt (slot + 1) d ≡ false
next_within slot d h = grind (arith, nat_tests, h)

vote_within : (slot d cw : ℕ) → nat_lt slot d ≡ false → nat_lt slot cw ≡ false → nat_lt (slot + 1) (max d cw) ≡ false
vote_within slot d cw h k = grind (arith, nat_tests, h, k)

pub none_follows : (slot most : ℕ) → following [] slot most ≡ []
none_follows slot zero = refl
none_follows slot (suc most) = refl

plus_none : (n : ℕ) → n ≡ n + 0
plus_none n = omega arith

one_more : (n m : ℕ) → (n + 1) + m ≡ n + suc m
one_more n m = omega arith

pub held_after : (d : ReplicaDurable) (x : Value) (slot : ℕ) → held d ≡ slot → held (replica_after d (kept.Log (x ∷ []))) ≡ slot + 1
held_after d x slot is = ap (λ n. d.first + n) (length-append d.log (x ∷ [])) ∙ again d.first (length d.log) ∙ ap (λ n. n + 1) is
  where
    again : (a b : ℕ) → a + (b + 1) ≡ (a + b) + 1
    again a b = omega arith

-- ROWS

module _ (c : Cluster) (l r a q slot cw : ℕ) (value : Value) (led : nat_lt l c.leaders ≡ true) (there : nat_lt a c.acceptors ≡ true)
    (proxied : nat_lt q c.proxies ≡ true) (named : names_value c value ≡ true) (low : nat_lt slot cw ≡ false) where
  row_propose : proxy_row c (role kind.Proxy q) tt (proxy_rules.fresh c tt)
      (input.Take (letter (role kind.Leader l) (role kind.Proxy q) (msg.Propose (lead_round l r) (single_grid a) slot cw value)))
      ≡ ask c (role kind.Proxy q) (record { known = max 0 cw; pending = [] }) (pending_of (lead_round l r) (single_grid a) slot cw value)
  row_propose = rw (led, there, proxied, named, same_role-itself (role kind.Proxy q), not_past slot cw low) refl

  row_vote : (d : AcceptorDurable) → MayVote l r slot d → is_of_round (lead_round l r) (vote_at slot d.votes) ≡ false
      → acceptor_row c (role kind.Acceptor a) d tt
      (input.Take (letter (role kind.Proxy q) (role kind.Acceptor a) (msg.Phase2A (lead_round l r) slot cw value))) ≡ record {
        why = why.Voted;
        kept = Some (kept.Vote (lead_round l r) slot cw value);
        volatile = tt {0};
        sends = letter (role kind.Acceptor a) (role kind.Proxy q) (msg.Phase2B (lead_round l r) slot) ∷ [];
      }
  row_vote d may new = rw (led, there, proxied, named, same_role-itself (role kind.Acceptor a), may.promised, may.within, new) refl

  row_voted : (d : AcceptorDurable) → MayVote l r slot d → is_of_round (lead_round l r) (vote_at slot d.votes) ≡ true
      → acceptor_row c (role kind.Acceptor a) d tt
      (input.Take (letter (role kind.Proxy q) (role kind.Acceptor a) (msg.Phase2A (lead_round l r) slot cw value)))
      ≡ replied why.Same (tt {0}) (letter (role kind.Acceptor a) (role kind.Proxy q) (msg.Phase2B (lead_round l r) slot) ∷ [])
  row_voted d may old = rw (led, there, proxied, named, same_role-itself (role kind.Acceptor a), may.promised, may.within, old) refl

  row_count : proxy_row c (role kind.Proxy q) tt
      (record { known = max 0 cw; pending = pending_of (lead_round l r) (single_grid a) slot cw value ∷ [] })
      (input.Take (letter (role kind.Acceptor a) (role kind.Proxy q) (msg.Phase2B (lead_round l r) slot))) ≡ replied why.Chosen (record {
        known = max 0 cw;
        pending = record (pending_of (lead_round l r) (single_grid a) slot cw value) { marks = a ∷ []; done = true } ∷ [];
      }) (announcement c (role kind.Proxy q) (pending_of (lead_round l r) (single_grid a) slot cw value))
  row_count = rw (
    led,
    there,
    proxied,
    same_role-itself (role kind.Proxy q),
    number_itself slot,
    number_itself r,
    number_itself l,
    number_itself a,
    number_itself slot,
  ) refl

  asks_acceptor : Member (letter (role kind.Proxy q) (role kind.Acceptor a) (msg.Phase2A (lead_round l r) slot cw value))
      (map (phase2a_to (role kind.Proxy q) (pending_of (lead_round l r) (single_grid a) slot cw value))
      (column_for c (pending_of (lead_round l r) (single_grid a) slot cw value)))
  asks_acceptor = map-Member (phase2a_to (role kind.Proxy q) (pending_of (lead_round l r) (single_grid a) slot cw value)) a
      (column_for c (pending_of (lead_round l r) (single_grid a) slot cw value))
      (filter-Member (λ b. is_in b (column_of (single_grid a) (slot % 1))) a (below c.acceptors) (Member-below a c.acceptors (less a
      c.acceptors there)) (subst (λ n. is_in a (column_of (single_grid a) n) ≡ true) (sym (mod_one slot)) (rw (number_itself a) refl)))

abbrev pub applies : Cluster → ℕ → ReplicaDurable → ReplicaVolatile → Value → Outcome ReplicaVolatile
applies c p d v value =
    record {
      why = why.Applied;
      kept = Some (kept.Log (value ∷ []));
      volatile = record v { early = []; deferred = still_deferred (held d + 1) v.deferred };
      sends = results_from c (role kind.Replica p) (held d) d.machine (value ∷ [])
          ++ read_answers (role kind.Replica p) (held d + 1) (machine_from (held d) d.machine (value ∷ [])) v.deferred;
    }

row_chosen : (c : Cluster) (q p slot : ℕ) (d : ReplicaDurable) (v : ReplicaVolatile) (value : Value) → nat_lt q c.proxies ≡ true
    → nat_lt p c.replicas ≡ true → names_value c value ≡ true
    → held d ≡ slot → replica_row c (role kind.Replica p) d (record v { early = [] })
    (input.Take (letter (role kind.Proxy q) (role kind.Replica p) (msg.Chosen slot value))) ≡ applies c p d v value
row_chosen c q p slot d v value one two named is = subst (λ n. replica_row c (role kind.Replica p) d (record v { early = [] })
    (input.Take (letter (role kind.Proxy q) (role kind.Replica p) (msg.Chosen n value))) ≡ applies c p d v value) is
    (rw (
      one,
      two,
      named,
      same_role-itself (role kind.Replica p),
      not_less (held d),
      not_far (held d),
      none_follows (held d + 1) (min 31 (1099511627776 - (held d + 1))),
    ) refl)

-- ALL REPLICAS EXECUTE

abbrev among : List ℕ → RoleId → Bool
among ps a = is_of kind.Replica a && is_in a.index ps

fewer : (k b i : Bool) → (k && (b || i)) ≡ false → (k && i) ≡ false
fewer true true i e = cc
fewer true false i e = e
fewer false b i e = refl

module _ (goal : World → Type 0) (c : Cluster) (q slot : ℕ) (value : Value) (d0 : ℕ → ReplicaDurable) (proxied : nat_lt q c.proxies ≡ true)
    (named : names_value c value ≡ true) where
  pub record Hears (p : ℕ) (x : Moment) : Type 0 where
    pub volatile : ReplicaVolatile
    pub runs : x.states (role kind.Replica p) ≡ ReplicaIn (record volatile { early = [] })
    pub store : durable_of replica_rules (role kind.Replica p) x.kept ≡ d0 p
    pub count : held (d0 p) ≡ slot
    pub told : Member (letter (role kind.Proxy q) (role kind.Replica p) (msg.Chosen slot value)) x.sent
    pub there : nat_lt p c.replicas ≡ true

  pub record Executed (p : ℕ) (x : Moment) : Type 0 where
    pub volatile : ReplicaVolatile
    pub runs : x.states (role kind.Replica p) ≡ ReplicaIn (record volatile { early = [] })
    pub store : durable_of replica_rules (role kind.Replica p) x.kept ≡ replica_after (d0 p) (kept.Log (value ∷ []))
    pub results : (d : Letter) → Member d (results_from c (role kind.Replica p) slot (d0 p).machine (value ∷ [])) → Member d x.sent

  executed : (ps : List ℕ) (x : Moment) → Apart ps → ((p : ℕ) → Member p ps → Hears p x)
      → ((y : Moment) → Left (among ps) (among ps) x y → ((p : ℕ) → Member p ps → Executed p y) → Goes goal c y)
      → Goes goal c x
  executed [] x once hears rest = rest x (left_same (among []) (among []) x) (λ p m. absurd m)
  executed (p ∷ ps) x once hears rest =
      let now = hears p (inl refl) in
      let me = role kind.Replica p in
      let d = letter (role kind.Proxy q) me (msg.Chosen slot value) in
      let o = applies c p (d0 p) now.volatile value in
      let y = moved me (ReplicaIn o.volatile) o.kept o.sends x in
      let mine : among (p ∷ ps) me ≡ true = rw (number_itself p) refl in
      let left : Left (among (p ∷ ps)) (among (p ∷ ps)) x y =
      left_both (among (p ∷ ps)) (among (p ∷ ps)) me (ReplicaIn o.volatile) (kept.Log (value ∷ [])) o.sends x mine mine in
      to_replica goal c x p d now.told (record now.volatile { early = [] }) o refl now.runs
      (ap (λ e. replica_row c me e (record now.volatile { early = [] }) (input.Take d)) now.store
      ∙ row_chosen c q p slot (d0 p) now.volatile value proxied now.there named now.count) (executed ps y once.1 (λ k there.
      let b = hears k (inr there) in
      let differs : (k == p) ≡ false = none-Member (λ n. n == p) ps once.0 k there in
      record {
        volatile = b.volatile;
        runs = state_other me (role kind.Replica k) (ReplicaIn o.volatile) x.states differs ∙ b.runs;
        store = durable_other replica_rules me (role kind.Replica k) (kept.Log (value ∷ [])) x.kept differs ∙ b.store;
        count = b.count;
        told = Member-first _ x.sent o.sends b.told;
        there = b.there;
      })
      (λ z more done.
      rest z
      (left_then (among (p ∷ ps)) (among (p ∷ ps)) x y z left
      (left_weaker (among ps) (among ps) (among (p ∷ ps)) (among (p ∷ ps)) y z (λ a e. fewer (is_of kind.Replica a) (p == a.index)
      (is_in a.index ps) e) (λ a e. fewer (is_of kind.Replica a) (p == a.index) (is_in a.index ps) e) more)) (first_or p ps z (record {
        volatile = o.volatile;
        runs = more.states me once.0 ∙ state_own me (ReplicaIn o.volatile) x.states;
        store = more.replicas p once.0 ∙ durable_own replica_rules me (kept.Log (value ∷ [])) x.kept
            ∙ ap (λ e. replica_after e (kept.Log (value ∷ []))) now.store;
        results = λ e m.
            more.sent e (Member-second e x.sent o.sends (Member-first e (results_from c me (held (d0 p)) (d0 p).machine (value ∷ [])) _
            (subst (λ n. Member e (results_from c me n (d0 p).machine (value ∷ []))) (sym now.count) m)));
      })
      done)))
    where
      first_or : (p : ℕ) (ps : List ℕ) (z : Moment) → Executed p z → ((k : ℕ) → Member k ps → Executed k z) → (k : ℕ) → Member k (p ∷ ps)
          → Executed k z
      first_or p ps z own others k (inl e) = subst (λ n. Executed n z) (sym e) own
      first_or p ps z own others k (inr m) = others k m

-- ONE SLOT

module _ (goal : World → Type 0) (c : Cluster) (l r a cw : ℕ) (led : nat_lt l c.leaders ≡ true) (there : nat_lt a c.acceptors ≡ true) where
  abbrev voter_role : RoleId
  voter_role = role kind.Acceptor a

  abbrev i : Round
  i = lead_round l r

  abbrev all_replicas : List ℕ
  all_replicas = below c.replicas

  pub record HoldsAt (slot p : ℕ) (x : Moment) : Type 0 where
    pub volatile : ReplicaVolatile
    pub runs : x.states (role kind.Replica p) ≡ ReplicaIn (record volatile { early = [] })
    pub count : held (durable_of replica_rules (role kind.Replica p) x.kept) ≡ slot

  abbrev pub RunsAt : Moment → ℕ → Type 0
  RunsAt x q = (v : ProxyVolatile) × (x.states (role kind.Proxy q) ≡ ProxyIn v)

  pub record ReadyAt (slot : ℕ) (x : Moment) : Type 0 where
    pub plain : x.states voter_role ≡ Plain
    pub voter : MayVote l r slot (durable_of acceptor_rules voter_role x.kept)
    pub holds : (p : ℕ) → Member p all_replicas → HoldsAt slot p x
    pub proxies : (q : ℕ) → nat_lt q c.proxies ≡ true → RunsAt x q

  pub record ServedAt (slot : ℕ) (vs : List Value) (x y : Moment) : Type 0 where
    pub left : Left keeps_served moves_served x y
    pub voter : MayVote l r (slot + length vs) (durable_of acceptor_rules voter_role y.kept)
    pub holds : (p : ℕ) → Member p all_replicas → HoldsAt (slot + length vs) p y
    pub stores : (p : ℕ) → Member p all_replicas
        → durable_of replica_rules (role kind.Replica p) y.kept ≡ with_values (durable_of replica_rules (role kind.Replica p) x.kept) vs
    pub results : (p : ℕ) → Member p all_replicas → (d : Letter) → Member d
        (results_from c (role kind.Replica p) slot (durable_of replica_rules (role kind.Replica p) x.kept).machine vs) → Member d y.sent
    pub proxies : (q : ℕ) → nat_lt q c.proxies ≡ true → RunsAt y q

  module _ (slot : ℕ) (value : Value) (named : names_value c value ≡ true) (low : nat_lt slot cw ≡ false) where
    abbrev q : ℕ
    q = proxy_of c l slot

    abbrev proxy : RoleId
    proxy = role kind.Proxy q

    proxied : nat_lt q c.proxies ≡ true
    proxied = less_test q c.proxies (proxy_below c l slot (less l c.leaders led))

    abbrev waiting : ProxyVolatile
    waiting = record { known = max 0 cw; pending = pending_of i (single_grid a) slot cw value ∷ [] }

    abbrev settled : ProxyVolatile
    settled =
        record { known = max 0 cw; pending = record (pending_of i (single_grid a) slot cw value) { marks = a ∷ []; done = true } ∷ [] }

    abbrev news : List Letter
    news = announcement c proxy (pending_of i (single_grid a) slot cw value)

    abbrev vote : Letter
    vote = letter voter_role proxy (msg.Phase2B i slot)

    abbrev wanted : Letter
    wanted = letter proxy voter_role (msg.Phase2A i slot cw value)

    abbrev announced : Moment → Moment
    announced x = moved proxy (ProxyIn settled) None news x

    -- the vote is counted, and all replicas execute
    counted : (d0 : ℕ → ReplicaDurable) (x : Moment) → x.states proxy ≡ ProxyIn waiting → Member vote x.sent
        → ((p : ℕ) → Member p all_replicas → HoldsAt slot p x × (durable_of replica_rules (role kind.Replica p) x.kept ≡ d0 p))
        → ((y : Moment) → Left (among all_replicas) (among all_replicas) (announced x) y
        → ((p : ℕ) → Member p all_replicas → Executed goal c q slot value d0 proxied named p y) → Goes goal c y) → Goes goal c x
    counted d0 x runs m holds rest = to_proxy goal c x q vote m waiting (replied why.Chosen settled news) refl runs
        (row_count c l r a q slot cw value led there proxied named low)
        (executed goal c q slot value d0 proxied named all_replicas (announced x) (apart_numbers 0 c.replicas)
        (λ p in_it.
        let h = holds p in_it in
        record {
          volatile = h.0.volatile;
          runs = state_other proxy (role kind.Replica p) (ProxyIn settled) x.states refl ∙ h.0.runs;
          store = h.1;
          count = ap (λ e. held e) (sym h.1) ∙ h.0.count;
          told =
              Member-second _ x.sent news
              (Member-first _ (map (chosen_to proxy (pending_of i (single_grid a) slot cw value)) all_replicas) _
              (map-Member (chosen_to proxy (pending_of i (single_grid a) slot cw value)) p all_replicas in_it));
          there = less_test p c.replicas (below-Member p c.replicas in_it);
        })
        rest)

    abbrev started : Moment → Moment
    started x = moved proxy (ProxyIn (proxy_rules.fresh c tt)) None [] x

    abbrev asked : Outcome ProxyVolatile
    asked = ask c proxy (record { known = max 0 cw; pending = [] }) (pending_of i (single_grid a) slot cw value)

    abbrev asking_at : Moment → Moment
    asking_at x = moved proxy (ProxyIn waiting) None asked.sends (started x)

    abbrev voted_at : Option Record → Moment → Moment
    voted_at k x = moved voter_role Plain k (vote ∷ []) (asking_at x)

    -- what follows once the acceptor has the vote
    once_voted : (k : Option Record) (x : Moment) → ReadyAt slot x → Left keeps_served moves_served (asking_at x) (voted_at k x)
        → MayVote l r (slot + 1) (durable_of acceptor_rules voter_role (voted_at k x).kept) → ((p : ℕ)
        → durable_of replica_rules (role kind.Replica p) (voted_at k x).kept ≡ durable_of replica_rules (role kind.Replica p) x.kept)
        → ((y : Moment) → ServedAt slot (value ∷ []) x y → Goes goal c y) → Goes goal c (voted_at k x)
    once_voted k x ready step may same rest =
        let d0 : ℕ → ReplicaDurable = λ p. durable_of replica_rules (role kind.Replica p) x.kept in
        let u = voted_at k x in
        counted d0 u
        (state_other voter_role proxy Plain (asking_at x).states refl ∙ state_own proxy (ProxyIn waiting) (started x).states)
        (Member-second vote (asking_at x).sent (vote ∷ []) (inl refl))
        (λ p in_it.
        let h = ready.holds p in_it in (
          record {
            volatile = h.volatile;
            runs =
                state_other voter_role (role kind.Replica p) Plain (asking_at x).states refl
                ∙ state_other proxy (role kind.Replica p) (ProxyIn waiting) (started x).states refl
                ∙ state_other proxy (role kind.Replica p) (ProxyIn (proxy_rules.fresh c tt)) x.states refl ∙ h.runs;
            count = ap (λ e. held e) (same p) ∙ h.count;
          },
          same p,
        ))
        (λ y left done.
        rest y
        (record {
          left = left_then keeps_served moves_served x (started x) y
              (left_moved keeps_served moves_served proxy (ProxyIn (proxy_rules.fresh c tt)) [] x refl)
              (left_then keeps_served moves_served (started x) (asking_at x) y (left_moved keeps_served moves_served proxy (ProxyIn waiting)
              asked.sends (started x) refl) (left_then keeps_served moves_served (asking_at x) u y step
              (left_then keeps_served moves_served u (announced u) y (left_moved keeps_served moves_served proxy (ProxyIn settled) news u
              refl) (left_weaker (among all_replicas) (among all_replicas) keeps_served moves_served (announced u) y
              (λ b e. of_replica (is_of kind.Acceptor b) (is_of kind.Replica b) (is_in b.index all_replicas) e)
              (λ b e. of_replica (is_of kind.Proxy b) (is_of kind.Replica b) (is_in b.index all_replicas) e) left))));
          voter = subst (λ d. MayVote l r (slot + 1) d) (sym (left.acceptors a refl)) may;
          holds = λ p in_it.
              let e = done p in_it in
              record {
                volatile = e.volatile;
                runs = e.runs;
                count = ap (λ d. held d) e.store ∙ held_after (d0 p) value slot (ready.holds p in_it).count;
              };
          stores = λ p in_it. (done p in_it).store;
          results = λ p in_it. (done p in_it).results;
          proxies = λ n e. elim (bool_cases (n == q)) [
            | inl t ↦ (
              settled,
              left.states (role kind.Proxy n) refl ∙ ap (λ m. (announced u).states (role kind.Proxy m)) (same_number n q t)
                  ∙ state_own proxy (ProxyIn settled) u.states,
            )
            | inr f ↦
                let b = ready.proxies n e in (
                  b.0,
                  left.states (role kind.Proxy n) refl
                      ∙ state_other proxy (role kind.Proxy n) (ProxyIn settled) u.states f
                      ∙ state_other voter_role (role kind.Proxy n) Plain (asking_at x).states refl
                      ∙ state_other proxy (role kind.Proxy n) (ProxyIn waiting) (started x).states f
                      ∙ state_other proxy (role kind.Proxy n) (ProxyIn (proxy_rules.fresh c tt)) x.states f ∙ b.1,
                )
          ];
        }))
      where
        of_replica : (o k i : Bool) → (o || k) ≡ false → (k && i) ≡ false
        of_replica true k i e = cc
        of_replica false true i e = cc
        of_replica false false i e = refl

    pub slot_served : (x : Moment) → ReadyAt slot x → Member (proposed_over c l r a cw (record { slot = slot; value = value })) x.sent
        → ((y : Moment) → ServedAt slot (value ∷ []) x y → Goes goal c y) → Goes goal c x
    slot_served x ready m rest =
        let d = proposed_over c l r a cw (record { slot = slot; value = value }) in
        let votes = durable_of acceptor_rules voter_role x.kept in
        let plain : (asking_at x).states voter_role ≡ Plain = state_other proxy voter_role (ProxyIn waiting) (started x).states refl
        ∙ state_other proxy voter_role (ProxyIn (proxy_rules.fresh c tt)) x.states refl ∙ ready.plain in
        let there2 : Member wanted (asking_at x).sent =
        Member-second wanted (started x).sent asked.sends (asks_acceptor c l r a q slot cw value led there proxied named low) in
        fresh_proxy goal c x q proxied (to_proxy goal c (started x) q d (Member-first d x.sent [] m) (proxy_rules.fresh c tt) asked refl
        (state_own proxy (ProxyIn (proxy_rules.fresh c tt)) x.states) (row_propose c l r a q slot cw value led there proxied named low)
        (elim (bool_cases (is_of_round i (vote_at slot votes.votes))) [
          | inl old ↦
              to_acceptor goal c (asking_at x) a wanted there2 (replied why.Same (tt {0}) (vote ∷ [])) refl plain
              (row_voted c l r a q slot cw value led there proxied named low votes ready.voter old)
              (once_voted None x ready (left_still keeps_served moves_served voter_role Plain (vote ∷ []) (asking_at x) plain)
              (record { promised = ready.voter.promised; within = next_within slot votes.cw ready.voter.within })
              (λ p. refl) rest)
          | inr new ↦
              to_acceptor goal c (asking_at x) a wanted there2
              (record { why = why.Voted; kept = Some (kept.Vote i slot cw value); volatile = tt {0}; sends = vote ∷ [] }) refl plain
              (row_vote c l r a q slot cw value led there proxied named low votes ready.voter new)
              (once_voted (Some (kept.Vote i slot cw value)) x ready
              (left_kept keeps_served moves_served voter_role Plain (kept.Vote i slot cw value) (vote ∷ []) (asking_at x) refl plain)
              (subst (λ e. MayVote l r (slot + 1) e) (sym (durable_own acceptor_rules voter_role (kept.Vote i slot cw value) x.kept))
              (record { promised = not_before_itself l r; within = vote_within slot votes.cw cw ready.voter.within low }))
              (λ p. durable_other replica_rules voter_role (role kind.Replica p) (kept.Vote i slot cw value) x.kept refl) rest)
        ]))

  -- ALL SLOTS

  ready_after : (slot : ℕ) (v : Value) (x y : Moment) → ReadyAt slot x → ServedAt slot (v ∷ []) x y → ReadyAt (slot + 1) y
  ready_after slot v x y ready s =
      record { plain = s.left.states voter_role refl ∙ ready.plain; voter = s.voter; holds = s.holds; proxies = s.proxies }

  served_then : (slot : ℕ) (v : Value) (vs : List Value) (x y z : Moment) → ReadyAt slot x → ServedAt slot (v ∷ []) x y
      → ServedAt (slot + 1) vs y z → ServedAt slot (v ∷ vs) x z
  served_then slot v vs x y z ready s t =
      record {
        left = left_then keeps_served moves_served x y z s.left t.left;
        voter = subst (λ n. MayVote l r n (durable_of acceptor_rules voter_role z.kept)) (one_more slot (length vs)) t.voter;
        holds = λ p m. subst (λ n. HoldsAt n p z) (one_more slot (length vs)) (t.holds p m);
        stores = λ p m. t.stores p m ∙ ap (λ d. with_values d vs) (s.stores p m);
        results = λ p m d in_it.
            let before = durable_of replica_rules (role kind.Replica p) x.kept in
            let machine : (durable_of replica_rules (role kind.Replica p) y.kept).machine ≡ (execute_value slot before.machine v).machine =
            ap (λ (e : ReplicaDurable). e.machine) (s.stores p m)
            ∙ ap (λ n. (execute_value n before.machine v).machine) ((ready.holds p m).count) in
            elim (Member-cases d (results_at c (role kind.Replica p) slot (execute_value slot before.machine v).answers)
            (results_from c (role kind.Replica p) (slot + 1) (execute_value slot before.machine v).machine vs) in_it) [
              | inl k ↦ t.left.sent d (s.results p m d
                  (Member-first d (results_at c (role kind.Replica p) slot (execute_value slot before.machine v).answers) [] k))
              | inr k ↦ t.results p m d (subst (λ e. Member d (results_from c (role kind.Replica p) (slot + 1) e vs)) (sym machine) k)
            ];
        proxies = t.proxies;
      }

  pub all_served : (vs : List Value) (slot : ℕ) (x : Moment) → nat_lt slot cw ≡ false → list_all (λ v. names_value c v) vs ≡ true
      → ReadyAt slot x → ((p : Placed) → Member p (placed_from slot vs) → Member (proposed_over c l r a cw p) x.sent)
      → ((y : Moment) → ServedAt slot vs x y → Goes goal c y) → Goes goal c x
  all_served [] slot x low named ready proposed rest =
      rest x
      (record {
        left = left_same keeps_served moves_served x;
        voter = subst (λ n. MayVote l r n (durable_of acceptor_rules voter_role x.kept)) (plus_none slot) ready.voter;
        holds = λ p m. subst (λ n. HoldsAt n p x) (plus_none slot) (ready.holds p m);
        stores = λ p m. refl;
        results = λ p m d in_it. absurd in_it;
        proxies = ready.proxies;
      })
  all_served (v ∷ vs) slot x low named ready proposed rest =
      let parts = and_parts (names_value c v) (list_all (λ v. names_value c v) vs) named in
      slot_served slot v parts.0 low x ready (proposed (record { slot = slot; value = v }) (inl refl))
      (λ y s.
      all_served vs (slot + 1) y (next_within slot cw low) parts.1 (ready_after slot v x y ready s)
      (λ p m. s.left.sent (proposed_over c l r a cw p) (proposed p (inr m)))
      (λ z t. rest z (served_then slot v vs x y z ready s t)))
