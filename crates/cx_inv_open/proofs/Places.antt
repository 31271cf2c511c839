-- A role that runs is one of the cluster's.
use Rattle.cx_inv_run.proofs.Common.{◌≡◌, ◌⊎◌, ℕ, ◌<◌, Bool, true, false, List, [], ◌∷◌, slice_get, Option, None, Some, refl, if◌then◌else◌}
use Rattle.cx_inv_run.proofs.Common.{ap, sym, ◌∙◌, subst, inl, inr, nat_lt, arith, nat_tests, Cluster, Cut, Whole, Event, Kind, RoleId}
use Rattle.cx_inv_run.proofs.Common.{role, Token, Letter, Act, Give, Snap, Stop, Wake, KeptRecord, acceptor_rules, batcher_rules}
use Rattle.cx_inv_run.proofs.Common.{LeaderVolatile, leader_rules, matchmaker_rules, names_role, either_way, proxy_rules, reader_rules}
use Rattle.cx_inv_run.proofs.Common.{ReplacerVolatile, replacer_rules, replica_rules, is_stale, Rules, Turn, turn, still, unbatcher_rules}
use Rattle.cx_inv_run.proofs.Common.{World, change, come, ask, act_of, durable_part, turned, start, run, run_from, State, Down, BatcherIn}
use Rattle.cx_inv_run.proofs.Common.{LeaderIn, ProxyIn, ReplicaIn, ReaderIn, ReplacerIn, plain, state_of, plain_volatile, batcher_volatile}
use Rattle.cx_inv_run.proofs.Common.{leader_volatile, proxy_volatile, replica_volatile, reader_volatile, replacer_volatile, fresh_state}
use Rattle.cx_inv_run.proofs.Common.{set_running, run_cluster}
use Rattle.cx_base.specs.declared.event.Event.TheVariants as event
use Rattle.cx_base.specs.declared.event.Order.TheVariants as order
use Rattle.cx_base.specs.declared.role.Kind.TheVariants as kind
use Rattle.cx_letter.specs.declared.input.Input.TheVariants as input
use Rattle.cx_base.specs.declared.why.Why.TheVariants as why
use Rattle.cx_model.specs.World.{Change, step}

abbrev IsThere : Cluster → (RoleId → State) → Type 0
IsThere c roles = (a : RoleId) → (roles a ≡ Down) ⊎ (names_role c a ≡ true)

-- after a turn a role runs only where it ran, or was woken and is named
module _ {D V : Type 0} (rules : Rules D V) (make : V → State) (c : Cluster) (me : RoleId) (d : D) where
  abbrev Left : Turn V → Type 0
  Left t = (state_of make t.role ≡ Down) ⊎ (names_role c me ≡ true)

  woken : (b : Bool) → names_role c me ≡ b → Left (if b then still (Some (rules.fresh c d)) why.Opened else still None why.Down)
  woken true e = inr e
  woken false e = inl refl

  left : (act : Act) (running : Option V) → ((v : V) → running ≡ Some v → names_role c me ≡ true) → Left (turn rules c me d act running)
  left (Give i cut) None there = inl refl
  left (Give i cut) (Some v) there = inr (there v refl)
  left (Snap cut) None there = inl refl
  left (Snap cut) (Some v) there = inr (there v refl)
  left Stop None there = inl refl
  left Stop (Some v) there = inr (there v refl)
  left Wake None there = woken (names_role c me) refl
  left Wake (Some v) there = inr (there v refl)

module _ (c : Cluster) (roles : RoleId → State) (there : IsThere c roles) (kept : List KeptRecord) (act : Act) (me : RoleId) where
  at_kind : {D V : Type 0} (rules : Rules D V) (make : V → State) (get : State → Option V) → get Down ≡ None
      → IsThere c ((turned rules make c roles kept act me (get (roles me))).roles)
  at_kind {D} {V} rules make get none_down =
      set_running (λ a x. (x ≡ Down) ⊎ (names_role c a ≡ true)) me _ roles
      (left rules make c me (durable_part rules me kept) act (get (roles me)) (runs (there me))) (λ a e. there a)
    where
      runs : (roles me ≡ Down) ⊎ (names_role c me ≡ true) → (v : V) → get (roles me) ≡ Some v → names_role c me ≡ true
      runs (inl down) v e = (let f : ◌≡◌ {A = Option V} None (Some v) = sym none_down ∙ ap get (sym down) ∙ e in cc)
      runs (inr named) v e = named

  acted : (k : Kind) → IsThere c ((act_of c roles kept act me k).roles)
  acted kind.Client = there
  acted kind.Batcher = at_kind batcher_rules BatcherIn batcher_volatile refl
  acted kind.Leader = at_kind leader_rules LeaderIn leader_volatile refl
  acted kind.Proxy = at_kind proxy_rules ProxyIn proxy_volatile refl
  acted kind.Acceptor = at_kind acceptor_rules plain plain_volatile refl
  acted kind.Matchmaker = at_kind matchmaker_rules plain plain_volatile refl
  acted kind.Replica = at_kind replica_rules ReplicaIn replica_volatile refl
  acted kind.Unbatcher = at_kind unbatcher_rules plain plain_volatile refl
  acted kind.Reader = at_kind reader_rules ReaderIn reader_volatile refl
  acted kind.Replacer = at_kind replacer_rules ReplacerIn replacer_volatile refl

module _ (w : World) (there : IsThere w.cluster w.roles) where
  abbrev Stays : Change → Type 0
  Stays ch = IsThere w.cluster ch.roles

  acts : (act : Act) (me : RoleId) (k : Kind) → Stays (act_of w.cluster w.roles w.kept act me k)
  acts act me k = acted w.cluster w.roles there w.kept act me k

  came : (cut : Cut) (o : Option Letter) → Stays (come w cut o)
  came cut None = there
  came cut (Some d) = acts (Give (input.Take d) cut) d.to d.to.kind

  asked : (e : Event) (t : Token) → Stays (ask w e (Some t))
  asked e t = either_way Stays (is_stale t e w.events) _ _ there there

  changed : (e : Event) → Stays (change w e)
  changed (event.Write command batcher) = asked (event.Write command batcher) (record { client = command.client; seq = command.seq })
  changed (event.Read client seq floor reader replica key) =
      asked (event.Read client seq floor reader replica key) (record { client = client; seq = seq })
  changed (event.Session client seq floor replica key) =
      asked (event.Session client seq floor replica key) (record { client = client; seq = seq })
  changed (event.Deliver n cut) = came cut (slice_get w.sent n)
  changed (event.Tick r) = acts (Give input.Tick Whole) r r.kind
  changed (event.Order l order cut) = acts (Give (input.Order order) cut) (role kind.Leader l) kind.Leader
  changed (event.Replace x s cut) = acts (Give (input.Order (order.Replace s)) cut) (role kind.Replacer x) kind.Replacer
  changed (event.Offer p to s) = acts (Give (input.Order (order.Offer to s)) Whole) (role kind.Replica p) kind.Replica
  changed (event.Snap r cut) = acts (Snap cut) r r.kind
  changed (event.Crash r) = acts Stop r r.kind
  changed (event.Restart r) = acts Wake r r.kind

  stepped : (e : Event) → IsThere ((step w e).cluster) ((step w e).roles)
  unfolding step
  stepped e = changed e

stay_there : (w : World) (es : List Event) → IsThere w.cluster w.roles → IsThere ((run_from w es).cluster) ((run_from w es).roles)
stay_there w [] there = there
stay_there w (e ∷ es) there = stay_there (step w e) es (stepped w there e)

first_there : (b : Bool) (s : State) → ((if b then s else Down) ≡ Down) ⊎ (b ≡ true)
first_there true s = inr refl
first_there false s = inl refl

are_there : (c : Cluster) (es : List Event) → IsThere ((run c es).cluster) ((run c es).roles)
are_there c es = stay_there (start c) es (λ a. first_there (names_role c a) (fresh_state c a.kind))

less_so : (i n : ℕ) → nat_lt i n ≡ true → i < n
less_so i n t = grind (arith, nat_tests)

pub leader_place : (c : Cluster) (es : List Event) (l : ℕ) (v : LeaderVolatile) → (run c es).roles (role kind.Leader l) ≡ LeaderIn v
    → l < c.leaders
leader_place c es l v is = go (are_there c es (role kind.Leader l))
  where
    go : ((run c es).roles (role kind.Leader l) ≡ Down) ⊎ (names_role ((run c es).cluster) (role kind.Leader l) ≡ true) → l < c.leaders
    go (inl down) = (let f : Down ≡ LeaderIn v = sym down ∙ is in cc)
    go (inr named) = less_so l c.leaders (subst (λ (d : Cluster). names_role d (role kind.Leader l) ≡ true) (run_cluster c es) named)

pub replacer_place : (c : Cluster) (es : List Event) (x : ℕ) (v : ReplacerVolatile) → (run c es).roles (role kind.Replacer x) ≡ ReplacerIn v
    → x < c.replacers
replacer_place c es x v is = go (are_there c es (role kind.Replacer x))
  where
    go : ((run c es).roles (role kind.Replacer x) ≡ Down) ⊎ (names_role ((run c es).cluster) (role kind.Replacer x) ≡ true)
        → x < c.replacers
    go (inl down) = (let f : Down ≡ ReplacerIn v = sym down ∙ is in cc)
    go (inr named) = less_so x c.replacers (subst (λ (d : Cluster). names_role d (role kind.Replacer x) ≡ true) (run_cluster c es) named)
