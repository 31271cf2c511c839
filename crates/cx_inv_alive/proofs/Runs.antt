-- In every run an acceptor knows of no more slots than some replica holds, and each replica has all from where the next one forgot. So the
-- theorem.
use Rattle.std.proofs.lemmas.Nat.{mod-mul-add}
use Rattle.cx_inv_run.proofs.Common.{OfEveryRun, ◌≡◌, ◌⊎◌, ◌≤◌, ◌<◌, ℕ, zero, suc, true, false, List, [], ◌∷◌, reverse, ap, sym, ◌∙◌, subst}
use Rattle.cx_inv_run.proofs.Common.{refl, inl, inr, arith, nat_tests, length-drop, mod_below, list_all, ◌+◌, ◌-◌, ◌*◌, ◌%◌, ◌==◌, drop}
use Rattle.cx_inv_run.proofs.Common.{filter, nat_lt, nat_le, length, not, Cluster, Command, Value, Event, below, floor_of, is_done, role}
use Rattle.cx_inv_run.proofs.Common.{Entry, Vote, AcceptorDurable, acceptor_rules, bool_cases, same_number, MatchmakerDurable}
use Rattle.cx_inv_run.proofs.Common.{matchmaker_rules, Member, names_entry, names_round, names_value, names_vote, ReplicaDurable, IsTied}
use Rattle.cx_inv_run.proofs.Common.{before, held, replica_rules, Machine, machine_from, new_machine, World, log_of, run, log_by_time}
use Rattle.cx_inv_run.proofs.Common.{durable_by_time, below-Member, all-Member, Member-all, Member-below, some_passes, run_cluster}
use Rattle.cx_inv_run.proofs.Common.{ties_hold, durable_of, log_in}
use Rattle.cx_base.specs.declared.role.Kind.TheVariants as kind
use Rattle.cx_inv_held.proofs.Acceptors.{acceptor_stored}
use Rattle.cx_inv_held.proofs.Steps.{safe_snapshots, low_facts}
use Rattle.cx_inv_held.specs.Held.{slots_held}
use Rattle.cx_inv_open.proofs.Steps.{fitting}
use Rattle.cx_inv_alive.proofs.Catch.{small_mod, mod_itself, stored_at}
use Rattle.cx_inv_alive.proofs.Everywhere.{AreSound, answered_anywhere}
use Rattle.cx_inv_alive.proofs.Phase.{less, less_test}
use Rattle.cx_inv_alive.proofs.Sound.{all_votes, all_rounds, all_values}
use Rattle.cx_inv_alive.proofs.Stages.{HasCounts}
use Rattle.cx_inv_alive.proofs.Waits.{back_from}
use Rattle.cx_inv_alive.specs.Alive.{CanBeAnswered, replica_store, tell_less, StillWaits, IsRoomy, NoDeadEnds}
use Rattle.cx_inv_alive.proofs.Level.{not_true}
use Rattle.cx_inv_alive.proofs.Moments.{moment_of}

pub drop_Member : {X : Type 0} (n : ℕ) (xs : List X) (x : X) → Member x (drop n xs) → Member x xs
drop_Member zero xs x m = m
drop_Member (suc n) [] x m = m
drop_Member (suc n) (y ∷ xs) x m = inr (drop_Member n xs x m)

holds_all : (d : ReplicaDurable) (values : List Value) → IsTied d values → length values ≡ held d
holds_all d values tie =
    count d.first (length values) tie.within ∙ ap (λ n. d.first + n) (sym (ap length tie.log ∙ length-drop d.first values))
  where
    count : (n m : ℕ) → n ≤ m → m ≡ n + (m - n)
    count n m le = omega (arith, le)

-- a cluster's type says that it has these
all_counts : (c : Cluster) → HasCounts c
all_counts c =
    record {
      leaders = some c.leaders c.some_leader;
      acceptors = some c.acceptors c.some_acceptor;
      unbatchers = some c.unbatchers c.some_unbatcher;
      replicas = test (c.f + 1) c.replicas c.some_replicas;
      pool = test (2 * c.f + 1) c.pool c.some_pool;
    }
  where
    some : (n : ℕ) → 1 ≤ n → nat_lt 0 n ≡ true
    some n l = grind (arith, nat_tests, l)

    test : (a b : ℕ) → a ≤ b → nat_le a b ≡ true
    test a b l = grind (arith, nat_tests, l)

-- THE RING

before_next : (p n : ℕ) → p < n → ((p + 1) % n + n - 1) % n ≡ p
before_next p n l = go (bool_cases (p + 1 == n))
  where
    last : (p n : ℕ) → p + 1 ≡ n → (0 + n - 1) ≡ p
    last p n e = omega (arith, e)

    inner : (p n : ℕ) → p < n → (p + 1) + n - 1 ≡ 1 * n + p
    inner p n l = omega (arith, l)

    lower : (p n : ℕ) → p < n → (p + 1 == n) ≡ false → p + 1 < n
    lower p n l f = grind (arith, nat_tests, l, f)

    some : (p n : ℕ) → p < n → 0 < n
    some p n l = omega (arith, l)

    go : ((p + 1 == n) ≡ true) ⊎ ((p + 1 == n) ≡ false) → ((p + 1) % n + n - 1) % n ≡ p
    go (inl t) = ap (λ k. (k + n - 1) % n) (ap (λ j. j % n) (same_number (p + 1) n t) ∙ mod_itself n (some p n l))
        ∙ ap (λ k. k % n) (last p n (same_number (p + 1) n t)) ∙ small_mod p n l
    go (inr f) =
        ap (λ k. (k + n - 1) % n) (small_mod (p + 1) n (lower p n l f)) ∙ ap (λ k. k % n) (inner p n l) ∙ mod-mul-add 1 n p l

-- ALL RUNS

-- no value in a log tells that the client is done, since its replica knows no such floor
logs_wait : (c : Cluster) (es : List Event) (command : Command) → StillWaits c (run c es) command
    → (p : ℕ) → nat_lt p c.replicas ≡ true → list_all (tell_less command.client command.seq) (stored_at (moment_of (run c es)) p).log ≡ true
logs_wait c es command waits p low =
    let w = run c es in
    let d = stored_at (moment_of w) p in
    let tie = (ties_hold c es).tied p in
    let values = log_in (reverse w.kept) p in
    let free : is_done command.seq (floor_of command.client (replica_store w p).machine.table.floors) ≡ false =
    not_true (is_done command.seq (floor_of command.client (replica_store w p).machine.table.floors))
    (all-Member (λ p. not (is_done command.seq (floor_of command.client (replica_store w p).machine.table.floors))) (below c.replicas)
    waits.replicas p (Member-below p c.replicas (less p c.replicas low))) in
    let free_of : is_done command.seq (floor_of command.client (machine_from 0 new_machine values).table.floors) ≡ false =
    subst (λ (m : Machine). is_done command.seq (floor_of command.client m.table.floors) ≡ false)
    (ap (λ (x : ReplicaDurable). x.machine) (durable_by_time replica_rules (role kind.Replica p) w.kept) ∙ tie.machine) free in
    let all = (back_from command.client command.seq 0 new_machine values refl free_of).1 in
    subst (λ l. list_all (tell_less command.client command.seq) l ≡ true) (sym tie.log) (Member-all (tell_less command.client command.seq)
    (drop d.first values) (λ v m. all-Member (tell_less command.client command.seq) values all v (drop_Member d.first values v m)))

-- what stores are in every run
sound : (c : Cluster) (es : List Event) (command : Command) → HasCounts c → StillWaits c (run c es) command
    → AreSound (record (run c es) { cluster = c }) command
sound c es command counts waits =
    let w = run c es in
    let past = reverse w.kept in
    let fit = (fitting c es).fit in
    let all_held : (p : ℕ) → slots_held past p ≡ held (stored_at (moment_of w) p) =
    λ p. holds_all (stored_at (moment_of w) p) (log_in past p) ((ties_hold c es).tied p) in
    record {
      named = record {
        votes = λ a low. subst (λ (d : AcceptorDurable). list_all (λ (v : Vote). names_vote c v) d.votes ≡ true)
            (sym (durable_by_time acceptor_rules (role kind.Acceptor a) w.kept)) (all_votes c a counts.leaders past fit);
        watermarks = λ m i. subst (λ (d : MatchmakerDurable). names_round c d.watermark ≡ true)
            (sym (durable_by_time matchmaker_rules (role kind.Matchmaker m) w.kept)) ((all_rounds c m counts.leaders past fit).watermark);
        entries = λ m i. subst (λ (d : MatchmakerDurable). list_all (λ (e : Entry). names_entry c e) d.entries ≡ true)
            (sym (durable_by_time matchmaker_rules (role kind.Matchmaker m) w.kept)) ((all_rounds c m counts.leaders past fit).entries);
      };
      within = λ a low.
          let d = durable_of acceptor_rules (role kind.Acceptor a) past in
          let some = some_passes c (below c.replicas) (λ p. nat_le d.cw (slots_held past p))
          (more_than c.f (length (filter (λ p. nat_le d.cw (slots_held past p)) (below c.replicas)))
          (acceptor_stored c past (role kind.Acceptor a) past (low_facts c es).records)) in (
            some.0,
            less_test some.0 c.replicas (below-Member some.0 c.replicas some.1),
            subst (λ (x : AcceptorDurable). nat_le x.cw (held (stored_at (moment_of w) some.0)) ≡ true)
                (sym (durable_by_time acceptor_rules (role kind.Acceptor a) w.kept))
                (subst (λ n. nat_le d.cw n ≡ true) (all_held some.0) some.2),
          );
      ring = λ p low.
          let l = less p c.replicas low in
          let q = (p + 1) % c.replicas in
          let kept_so = safe_snapshots.forgotten_is_kept c es q (mod_below (p + 1) c.replicas (some_of p c.replicas l)) in
          subst (λ (d : ReplicaDurable). nat_le d.first (held (stored_at (moment_of w) p)) ≡ true)
          (durable_by_time replica_rules (role kind.Replica q) w.kept)
          (at_most (replica_store w q).first (length (log_of (before c (role kind.Replica q)) w.kept))
          (held (stored_at (moment_of w) p)) kept_so
          (ap (λ n. length (log_of n w.kept)) (before_next p c.replicas l) ∙ ap (λ (v : List Value). length v) (log_by_time p w.kept)
          ∙ all_held p));
      logs = λ p low.
          let d = stored_at (moment_of w) p in
          subst (λ l. list_all (λ v. names_value c v) l ≡ true) (sym ((ties_hold c es).tied p).log)
          (Member-all (λ v. names_value c v) (drop d.first (log_in past p))
          (λ v m. all-Member (λ v. names_value c v) (log_in past p) (all_values c p past fit) v (drop_Member d.first (log_in past p) v m)));
      waits = logs_wait c es command waits;
    }
  where
    some_of : (p n : ℕ) → p < n → 0 < n
    some_of p n l = omega (arith, l)

    more_than : (f n : ℕ) → f + 1 ≤ n → f < n
    more_than f n l = omega (arith, l)

    at_most : (a b h : ℕ) → a ≤ b → b ≡ h → nat_le a h ≡ true
    at_most a b h l e = grind (arith, nat_tests, l, e)

-- a world with its cluster written out
same_cluster : (u : World) (c : Cluster) → u.cluster ≡ c → u ≡ record u { cluster = c }
same_cluster u c a = (let f : Cluster → World = λ x. record u { cluster = x } in ap f a)

pub no_dead_ends : OfEveryRun NoDeadEnds
no_dead_ends c es command batcher known batched submit room =
    let w = run c es in
    let counts = all_counts c in
    let same = same_cluster w c (run_cluster c es) in
    subst (λ u. CanBeAnswered u command) (sym same) (answered_anywhere (record w { cluster = c }) batcher command counts
    (sound c es command counts room.waits) known batched submit (subst (λ u. IsRoomy c u command) same room))
