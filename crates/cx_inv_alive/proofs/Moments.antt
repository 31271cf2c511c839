-- A moment of any cluster that a plan has come to, what a step makes of it, and what it leaves.
use Rattle.cx_inv_run.proofs.Common.{◌≡◌, ℕ, Bool, true, false, List, [], ◌++◌, reverse, Option, None, Some, sym, ◌∙◌, subst, refl}
use Rattle.cx_inv_run.proofs.Common.{append-nil, nat_lt, Cluster, Whole, RoleId, role, same_role, KeptRecord, Record, Letter}
use Rattle.cx_inv_run.proofs.Common.{acceptor_rules, BatcherVolatile, batcher_rules, LeaderVolatile, leader_rules, differ_role, not_both}
use Rattle.cx_inv_run.proofs.Common.{matchmaker_rules, Member, Outcome, ProxyVolatile, proxy_rules, ReplicaVolatile, replica_rules}
use Rattle.cx_inv_run.proofs.Common.{unbatcher_rules, World, durable_other, state_other, Member-first, State, BatcherIn, LeaderIn, ProxyIn}
use Rattle.cx_inv_run.proofs.Common.{ReplicaIn, plain, durable_of, set_state, with_record}
use Rattle.cx_base.specs.declared.event.Event.TheVariants as event
use Rattle.cx_base.specs.declared.event.Order.{Order}
use Rattle.cx_base.specs.declared.role.Kind.TheVariants as kind
use Rattle.cx_letter.specs.declared.input.Input.TheVariants as input
use Rattle.cx_inv_run.proofs.Histories.{set_same}
use Rattle.cx_inv_alive.proofs.Views.{CanReach, acceptors, batchers, delivered, given, leaders, matchmakers, proxies, reopened, replicas}
use Rattle.cx_inv_alive.proofs.Views.{unbatchers}
use Rattle.cx_inv_alive.specs.Alive.{may_help}

pub record Moment : Type 0 where
  pub kept : List KeptRecord
  pub sent : List Letter
  pub states : RoleId → State

abbrev pub Goes : (World → Type 0) → Cluster → Moment → Type 0
Goes goal c x = CanReach goal c x.kept x.sent x.states

abbrev pub moved : RoleId → State → Option Record → List Letter → Moment → Moment
moved me s k sends x = record { kept = with_record me k x.kept; sent = x.sent ++ sends; states = set_state me s x.states }

abbrev pub moment_of : World → Moment
moment_of w = record { kept = reverse w.kept; sent = w.sent; states = w.roles }

-- WHAT IS LEFT

pub record Left (keeps moves : RoleId → Bool) (x y : Moment) : Type 0 where
  pub leaders : (l : ℕ) → keeps (role kind.Leader l) ≡ false
      → durable_of leader_rules (role kind.Leader l) y.kept ≡ durable_of leader_rules (role kind.Leader l) x.kept
  pub acceptors : (a : ℕ) → keeps (role kind.Acceptor a) ≡ false
      → durable_of acceptor_rules (role kind.Acceptor a) y.kept ≡ durable_of acceptor_rules (role kind.Acceptor a) x.kept
  pub matchmakers : (m : ℕ) → keeps (role kind.Matchmaker m) ≡ false
      → durable_of matchmaker_rules (role kind.Matchmaker m) y.kept ≡ durable_of matchmaker_rules (role kind.Matchmaker m) x.kept
  pub replicas : (p : ℕ) → keeps (role kind.Replica p) ≡ false
      → durable_of replica_rules (role kind.Replica p) y.kept ≡ durable_of replica_rules (role kind.Replica p) x.kept
  pub states : (a : RoleId) → moves a ≡ false → y.states a ≡ x.states a
  pub sent : (d : Letter) → Member d x.sent → Member d y.sent

pub left_same : (keeps moves : RoleId → Bool) (x : Moment) → Left keeps moves x x
left_same keeps moves x = record {
  leaders = λ l e. refl;
  acceptors = λ l e. refl;
  matchmakers = λ l e. refl;
  replicas = λ l e. refl;
  states = λ a e. refl;
  sent = λ d m. m;
}

pub left_then : (keeps moves : RoleId → Bool) (x y z : Moment) → Left keeps moves x y → Left keeps moves y z → Left keeps moves x z
left_then keeps moves x y z a b =
    record {
      leaders = λ l e. b.leaders l e ∙ a.leaders l e;
      acceptors = λ l e. b.acceptors l e ∙ a.acceptors l e;
      matchmakers = λ l e. b.matchmakers l e ∙ a.matchmakers l e;
      replicas = λ l e. b.replicas l e ∙ a.replicas l e;
      states = λ l e. b.states l e ∙ a.states l e;
      sent = λ d m. b.sent d (a.sent d m);
    }

pub apart : (touched : RoleId → Bool) (me a : RoleId) → touched me ≡ true → touched a ≡ false → same_role a me ≡ false
apart touched me a t f = differ_role a me (λ e. not_both (touched me) t (subst (λ x. touched x ≡ false) e f))

-- a step that keeps nothing
pub left_moved : (keeps moves : RoleId → Bool) (me : RoleId) (s : State) (sends : List Letter) (x : Moment) → moves me ≡ true
    → Left keeps moves x (moved me s None sends x)
left_moved keeps moves me s sends x moves_me =
    record {
      leaders = λ l e. refl;
      acceptors = λ l e. refl;
      matchmakers = λ l e. refl;
      replicas = λ l e. refl;
      states = λ a e. state_other me a s x.states (apart moves me a moves_me e);
      sent = λ d m. Member-first d x.sent sends m;
    }

-- a step of a role that keeps a record, and whose state stays
pub left_kept : (keeps moves : RoleId → Bool) (me : RoleId) (s : State) (r : Record) (sends : List Letter) (x : Moment) → keeps me ≡ true
    → x.states me ≡ s → Left keeps moves x (moved me s (Some r) sends x)
left_kept keeps moves me s r sends x keeps_me is =
    record {
      leaders = λ l e. durable_other leader_rules me (role kind.Leader l) r x.kept (apart keeps me (role kind.Leader l) keeps_me e);
      acceptors = λ l e. durable_other acceptor_rules me (role kind.Acceptor l) r x.kept (apart keeps me (role kind.Acceptor l) keeps_me e);
      matchmakers =
          λ l e. durable_other matchmaker_rules me (role kind.Matchmaker l) r x.kept (apart keeps me (role kind.Matchmaker l) keeps_me e);
      replicas = λ l e. durable_other replica_rules me (role kind.Replica l) r x.kept (apart keeps me (role kind.Replica l) keeps_me e);
      states = λ a e. sym (set_same me s x.states is a);
      sent = λ d m. Member-first d x.sent sends m;
    }

-- a step of a role that keeps nothing, and whose state stays
pub left_still : (keeps moves : RoleId → Bool) (me : RoleId) (s : State) (sends : List Letter) (x : Moment) → x.states me ≡ s
    → Left keeps moves x (moved me s None sends x)
left_still keeps moves me s sends x is =
    record {
      leaders = λ l e. refl;
      acceptors = λ l e. refl;
      matchmakers = λ l e. refl;
      replicas = λ l e. refl;
      states = λ a e. sym (set_same me s x.states is a);
      sent = λ d m. Member-first d x.sent sends m;
    }

-- a step of a role that keeps a record
pub left_both : (keeps moves : RoleId → Bool) (me : RoleId) (s : State) (r : Record) (sends : List Letter) (x : Moment) → keeps me ≡ true
    → moves me ≡ true → Left keeps moves x (moved me s (Some r) sends x)
left_both keeps moves me s r sends x keeps_me moves_me =
    record {
      leaders = λ l e. durable_other leader_rules me (role kind.Leader l) r x.kept (apart keeps me (role kind.Leader l) keeps_me e);
      acceptors = λ l e. durable_other acceptor_rules me (role kind.Acceptor l) r x.kept (apart keeps me (role kind.Acceptor l) keeps_me e);
      matchmakers =
          λ l e. durable_other matchmaker_rules me (role kind.Matchmaker l) r x.kept (apart keeps me (role kind.Matchmaker l) keeps_me e);
      replicas = λ l e. durable_other replica_rules me (role kind.Replica l) r x.kept (apart keeps me (role kind.Replica l) keeps_me e);
      states = λ a e. state_other me a s x.states (apart moves me a moves_me e);
      sent = λ d m. Member-first d x.sent sends m;
    }

-- less may be said of what was left
pub left_weaker : (keeps moves keeps2 moves2 : RoleId → Bool) (x y : Moment) → ((a : RoleId) → keeps2 a ≡ false → keeps a ≡ false)
    → ((a : RoleId) → moves2 a ≡ false → moves a ≡ false) → Left keeps moves x y → Left keeps2 moves2 x y
left_weaker keeps moves keeps2 moves2 x y k m left =
    record {
      leaders = λ l e. left.leaders l (k (role kind.Leader l) e);
      acceptors = λ l e. left.acceptors l (k (role kind.Acceptor l) e);
      matchmakers = λ l e. left.matchmakers l (k (role kind.Matchmaker l) e);
      replicas = λ l e. left.replicas l (k (role kind.Replica l) e);
      states = λ a e. left.states a (m a e);
      sent = left.sent;
    }

-- EVENTS

module _ (goal : World → Type 0) (c : Cluster) (x : Moment) (j : ℕ) (d : Letter) (m : Member d x.sent) where
  pub to_batcher : (v : BatcherVolatile) (o : Outcome BatcherVolatile) → d.to ≡ role kind.Batcher j
      → x.states (role kind.Batcher j) ≡ BatcherIn v → batcher_rules.row c (role kind.Batcher j) tt v (input.Take d) ≡ o
      → Goes goal c (moved (role kind.Batcher j) (BatcherIn o.volatile) o.kept o.sends x) → Goes goal c x
  to_batcher v o to is row next = delivered c x.kept x.sent kind.Batcher batchers goal j x.states v o is next d m to row

  pub to_leader : (v : LeaderVolatile) (o : Outcome LeaderVolatile) → d.to ≡ role kind.Leader j → x.states (role kind.Leader j) ≡ LeaderIn v
      → leader_rules.row c (role kind.Leader j) (durable_of leader_rules (role kind.Leader j) x.kept) v (input.Take d) ≡ o
      → Goes goal c (moved (role kind.Leader j) (LeaderIn o.volatile) o.kept o.sends x) → Goes goal c x
  to_leader v o to is row next = delivered c x.kept x.sent kind.Leader leaders goal j x.states v o is next d m to row

  pub to_matchmaker : (o : Outcome (Unit {0})) → d.to ≡ role kind.Matchmaker j → x.states (role kind.Matchmaker j) ≡ plain tt
      → matchmaker_rules.row c (role kind.Matchmaker j) (durable_of matchmaker_rules (role kind.Matchmaker j) x.kept) tt (input.Take d) ≡ o
      → Goes goal c (moved (role kind.Matchmaker j) (plain tt) o.kept o.sends x) → Goes goal c x
  to_matchmaker o to is row next = delivered c x.kept x.sent kind.Matchmaker matchmakers goal j x.states tt o is next d m to row

  pub to_acceptor : (o : Outcome (Unit {0})) → d.to ≡ role kind.Acceptor j → x.states (role kind.Acceptor j) ≡ plain tt
      → acceptor_rules.row c (role kind.Acceptor j) (durable_of acceptor_rules (role kind.Acceptor j) x.kept) tt (input.Take d) ≡ o
      → Goes goal c (moved (role kind.Acceptor j) (plain tt) o.kept o.sends x) → Goes goal c x
  to_acceptor o to is row next = delivered c x.kept x.sent kind.Acceptor acceptors goal j x.states tt o is next d m to row

  pub to_proxy : (v : ProxyVolatile) (o : Outcome ProxyVolatile) → d.to ≡ role kind.Proxy j → x.states (role kind.Proxy j) ≡ ProxyIn v
      → proxy_rules.row c (role kind.Proxy j) tt v (input.Take d) ≡ o
      → Goes goal c (moved (role kind.Proxy j) (ProxyIn o.volatile) o.kept o.sends x) → Goes goal c x
  to_proxy v o to is row next = delivered c x.kept x.sent kind.Proxy proxies goal j x.states v o is next d m to row

  pub to_replica : (v : ReplicaVolatile) (o : Outcome ReplicaVolatile) → d.to ≡ role kind.Replica j → x.states (role kind.Replica j)
      ≡ ReplicaIn v → replica_rules.row c (role kind.Replica j) (durable_of replica_rules (role kind.Replica j) x.kept) v (input.Take d) ≡ o
      → Goes goal c (moved (role kind.Replica j) (ReplicaIn o.volatile) o.kept o.sends x) → Goes goal c x
  to_replica v o to is row next = delivered c x.kept x.sent kind.Replica replicas goal j x.states v o is next d m to row

  pub to_unbatcher : (o : Outcome (Unit {0})) → d.to ≡ role kind.Unbatcher j → x.states (role kind.Unbatcher j) ≡ plain tt
      → unbatcher_rules.row c (role kind.Unbatcher j) tt tt (input.Take d) ≡ o
      → Goes goal c (moved (role kind.Unbatcher j) (plain tt) o.kept o.sends x) → Goes goal c x
  to_unbatcher o to is row next = delivered c x.kept x.sent kind.Unbatcher unbatchers goal j x.states tt o is next d m to row

module _ (goal : World → Type 0) (c : Cluster) (x : Moment) (j : ℕ) where
  pub tick_replica : (v : ReplicaVolatile) (o : Outcome ReplicaVolatile) → x.states (role kind.Replica j) ≡ ReplicaIn v
      → replica_rules.row c (role kind.Replica j) (durable_of replica_rules (role kind.Replica j) x.kept) v input.Tick ≡ o
      → Goes goal c (moved (role kind.Replica j) (ReplicaIn o.volatile) o.kept o.sends x) → Goes goal c x
  tick_replica v o is row next =
      given c x.kept x.sent kind.Replica replicas goal j x.states v o is next (event.Tick (role kind.Replica j)) input.Tick refl (λ w. refl)
      row

  pub tick_batcher : (v : BatcherVolatile) (o : Outcome BatcherVolatile) → x.states (role kind.Batcher j) ≡ BatcherIn v
      → batcher_rules.row c (role kind.Batcher j) tt v input.Tick ≡ o
      → Goes goal c (moved (role kind.Batcher j) (BatcherIn o.volatile) o.kept o.sends x) → Goes goal c x
  tick_batcher v o is row next =
      given c x.kept x.sent kind.Batcher batchers goal j x.states v o is next (event.Tick (role kind.Batcher j)) input.Tick refl (λ w. refl)
      row

  -- a leader is given an order
  pub to_order : (order : Order) → may_help (event.Order j order Whole) ≡ true → (v : LeaderVolatile) (o : Outcome LeaderVolatile)
      → x.states (role kind.Leader j) ≡ LeaderIn v
      → leader_rules.row c (role kind.Leader j) (durable_of leader_rules (role kind.Leader j) x.kept) v (input.Order order) ≡ o
      → Goes goal c (moved (role kind.Leader j) (LeaderIn o.volatile) o.kept o.sends x) → Goes goal c x
  to_order order helps v o is row next =
      given c x.kept x.sent kind.Leader leaders goal j x.states v o is next (event.Order j order Whole) (input.Order order) helps
      (λ w. refl) row

  -- a proxy is stopped and opened again
  pub fresh_proxy : nat_lt j c.proxies ≡ true → Goes goal c (moved (role kind.Proxy j) (ProxyIn (proxy_rules.fresh c tt)) None [] x)
      → Goes goal c x
  fresh_proxy there next =
      reopened c x.kept x.sent kind.Proxy proxies goal j x.states there
      (subst (λ l. CanReach goal c x.kept l (set_state (role kind.Proxy j) (ProxyIn (proxy_rules.fresh c tt)) x.states))
      (append-nil x.sent) next)
