-- All roles are opened anew, replicas catch up, and so on to the answer.
use Rattle.cx_inv_run.proofs.Common.{fresh_state, State, count_of, ◌≡◌, ℕ, true, false, [], ◌∷◌, ap, sym, ◌∙◌, subst, refl, inl, inr}
use Rattle.cx_inv_run.proofs.Common.{reverse, and_from, and_parts, list_all, ◌&&◌, Bool, nat_le, nat_lt, not, Cluster, Command, Value, Kind}
use Rattle.cx_inv_run.proofs.Common.{below, floor_of, is_done, role, acceptor_rules, leader_rules, matchmaker_rules, Member, names_value}
use Rattle.cx_inv_run.proofs.Common.{proxy_rules, ReplicaDurable, held, replica_rules, replica_after, World, Member-all, Member-below}
use Rattle.cx_inv_run.proofs.Common.{all-Member, below-Member, durable_by_time, RoleId}
use Rattle.cx_base.specs.declared.role.Kind.TheVariants as kind
use Rattle.cx_letter.specs.declared.kept.Record.TheVariants as kept
use Rattle.cx_inv_alive.proofs.Catch.{IsRing, caught_up, stored_at}
use Rattle.cx_inv_alive.proofs.Floors.{free_from}
use Rattle.cx_inv_alive.proofs.Level.{answered_from_level, not_true, le_then, positive, AreNamed}
use Rattle.cx_inv_alive.proofs.Opened.{planned, all_opened}
use Rattle.cx_inv_alive.proofs.Phase.{less, less_test}
use Rattle.cx_inv_alive.proofs.Stages.{HasCounts}
use Rattle.cx_inv_alive.proofs.Views.{view_at}
use Rattle.cx_inv_alive.specs.Alive.{submitted, IsAnswered, CanBeAnswered, acceptor_store, replica_store, tell_less, IsRoomy}
use Rattle.cx_inv_alive.proofs.Moments.{Goes, moment_of}

-- What stores are in every run: names lie in the cluster; an acceptor knows of no more slots than some replica holds; each replica has all
-- values from where the next one forgot; and no value that one has tells that the client is done with the number.
pub record AreSound (w : World) (command : Command) : Type 0 where
  pub named : AreNamed w
  pub within : (a : ℕ) → nat_lt a w.cluster.acceptors ≡ true
      → (p : ℕ) × (nat_lt p w.cluster.replicas ≡ true) × (nat_le (acceptor_store w a).cw (held (stored_at (moment_of w) p)) ≡ true)
  pub ring : IsRing w.cluster (moment_of w)
  pub logs : (p : ℕ) → nat_lt p w.cluster.replicas ≡ true → list_all (λ v. names_value w.cluster v) (stored_at (moment_of w) p).log ≡ true
  pub waits : (p : ℕ) → nat_lt p w.cluster.replicas ≡ true
      → list_all (tell_less command.client command.seq) (stored_at (moment_of w) p).log ≡ true

module _ (w : World) (batcher : ℕ) (command : Command) (counts : HasCounts w.cluster) (sound : AreSound w command)
    (known : nat_lt command.client w.cluster.clients ≡ true) (batched : nat_lt batcher w.cluster.batchers ≡ true)
    (submit : Member (submitted command batcher) w.sent) (room : IsRoomy w.cluster w command) where
  abbrev c : Cluster
  c = w.cluster

  abbrev Passes : Value → Bool
  Passes v = names_value c v && tell_less command.client command.seq v

  abbrev Free : ReplicaDurable → Type 0
  Free d = is_done command.seq (floor_of command.client d.machine.table.floors) ≡ false

  -- what the conditions say of replicas

  in_replicas : (P : ℕ → Bool) → list_all P (below c.replicas) ≡ true → (p : ℕ) → nat_lt p c.replicas ≡ true → P p ≡ true
  in_replicas P every p l = all-Member P (below c.replicas) every p (Member-below p c.replicas (less p c.replicas l))

  stored_is : (p : ℕ) → replica_store w p ≡ stored_at (moment_of w) p
  stored_is p = durable_by_time replica_rules (role kind.Replica p) w.kept

  all_pass : (p : ℕ) → nat_lt p c.replicas ≡ true → list_all Passes (stored_at (moment_of w) p).log ≡ true
  all_pass p low =
      let log = (stored_at (moment_of w) p).log in
      Member-all Passes log (λ v m. and_from (names_value c v) (tell_less command.client command.seq v) (all-Member (λ v. names_value c v)
      log (sound.logs p low) v m) (all-Member (tell_less command.client command.seq) log (sound.waits p low) v m))

  all_free : (p : ℕ) → nat_lt p c.replicas ≡ true → Free (stored_at (moment_of w) p)
  all_free p low =
      subst Free (stored_is p)
      (not_true (is_done command.seq (floor_of command.client (replica_store w p).machine.table.floors)) (in_replicas (λ p.
      not (is_done command.seq (floor_of command.client (replica_store w p).machine.table.floors))) room.waits.replicas p low))

  still_free : (d : ReplicaDurable) (v : Value) → Passes v ≡ true → Free d → Free (replica_after d (kept.Log (v ∷ [])))
  still_free d v t free =
      free_from command.client command.seq (held d) d.machine (v ∷ []) free (and_from (tell_less command.client command.seq v) true
      ((and_parts (names_value c v) (tell_less command.client command.seq v) t).1) refl)

  few : (p : ℕ) (most : ℕ) → nat_lt p c.replicas ≡ true → held (stored_at (moment_of w) p) ≡ most → nat_lt most 1099511627776 ≡ true
  few p most low is = subst (λ n. nat_lt n 1099511627776 ≡ true) (ap (λ d. held d) (stored_is p) ∙ is)
      (in_replicas (λ p. nat_lt (held (replica_store w p)) 1099511627776) room.slots.replicas p low)

  -- once all roles were opened
  from_opened : (states : RoleId → State)
      → ((k : Kind) → Member k planned → (j : ℕ) → nat_lt j (count_of c k) ≡ true → states (role k j) ≡ fresh_state c k)
      → Goes (IsAnswered command) c (record { kept = reverse w.kept; sent = w.sent; states = states })
  from_opened states fresh = caught_up (IsAnswered command) c Passes Free (record { kept = reverse w.kept; sent = w.sent; states = states })
      (positive c.f c.replicas counts.replicas)
      (λ p low. (replica_rules.fresh c replica_rules.empty, fresh kind.Replica (inr (inr (inr (inr (inr (inl refl)))))) p low)) sound.ring
      (λ v t. (and_parts (names_value c v) (tell_less command.client command.seq v) t).0) all_pass still_free all_free
      (λ y up.
      let left = up.left in
      let low : (p : ℕ) → Member p (below c.replicas) → nat_lt p c.replicas ≡ true =
      λ p m. less_test p c.replicas (below-Member p c.replicas m) in
      answered_from_level w up.most batcher command counts sound.named (λ a there.
      let s = sound.within a there in le_then (acceptor_store w a).cw (held (stored_at (moment_of w) s.0)) up.most s.2 (up.top s.0 s.1))
      known batched room (λ p. stored_at y p) (λ p m. up.full p (low p m)) (few up.fullest up.most up.there up.is_full)
      (λ p m. up.such p (low p m)) y (record {
        base = record {
          steady = λ p m. up.steady p (low p m);
          store = λ p m. refl;
          proxies = λ q l. (proxy_rules.fresh c tt, left.states (role kind.Proxy q) refl ∙ fresh kind.Proxy (inr (inr (inl refl))) q l);
          acceptors = λ q l. left.states (role kind.Acceptor q) refl ∙ fresh kind.Acceptor (inr (inr (inr (inl refl)))) q l;
          matchmakers = λ q l. left.states (role kind.Matchmaker q) refl ∙ fresh kind.Matchmaker (inr (inr (inr (inr (inl refl))))) q l;
          unbatchers =
              λ q l. left.states (role kind.Unbatcher q) refl ∙ fresh kind.Unbatcher (inr (inr (inr (inr (inr (inr (inl refl))))))) q l;
          batcher = left.states (role kind.Batcher batcher) refl ∙ fresh kind.Batcher (inr (inl refl)) batcher batched;
          handed = left.sent (submitted command batcher) submit;
        };
        votes = λ a. left.acceptors a refl ∙ sym (durable_by_time acceptor_rules (role kind.Acceptor a) w.kept);
        rounds = λ m. left.matchmakers m refl ∙ sym (durable_by_time matchmaker_rules (role kind.Matchmaker m) w.kept);
        own = left.leaders 0 refl ∙ sym (durable_by_time leader_rules (role kind.Leader 0) w.kept);
        idle = left.states (role kind.Leader 0) refl ∙ fresh kind.Leader (inl refl) 0 counts.leaders;
      }))

  -- from any world whose stores are so
  pub answered_anywhere : CanBeAnswered w command
  answered_anywhere = all_opened (IsAnswered command) c (moment_of w) from_opened w (view_at w)
