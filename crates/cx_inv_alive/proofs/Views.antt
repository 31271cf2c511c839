-- A world as a plan sees it: changes of stores with the newest first, the datagrams, and the state of each role. What an event makes of it.
use Rattle.cx_inv_run.proofs.Common.{◌≡◌, ℕ, List, ◌∷◌, ◌++◌, reverse, Option, None, Some, ap, sym, ◌∙◌, subst, refl, append-nil, []}
use Rattle.cx_inv_run.proofs.Common.{and_from, reverse-append, list_all, option_map, slice_get, true, if◌then◌else◌, Cluster, Whole, Event}
use Rattle.cx_inv_run.proofs.Common.{Kind, RoleId, role, same_role, Act, Give, Stop, Wake, Input, KeptRecord, Record, Letter}
use Rattle.cx_inv_run.proofs.Common.{AcceptorDurable, acceptor_rules, BatcherVolatile, batcher_rules, LeaderDurable, LeaderVolatile}
use Rattle.cx_inv_run.proofs.Common.{leader_rules, MatchmakerDurable, matchmaker_rules, Member, names_role, Outcome, ProxyVolatile}
use Rattle.cx_inv_run.proofs.Common.{proxy_rules, ReplicaDurable, ReplicaVolatile, replica_rules, Rules, still, turn, turn_with, whole_turn}
use Rattle.cx_inv_run.proofs.Common.{unbatcher_rules, World, act_at, change, changed, come, durable_part, kept_by, run_from, turned}
use Rattle.cx_inv_run.proofs.Common.{world_after, durable_by_time, state_own, State, Down, BatcherIn, LeaderIn, ProxyIn, ReplicaIn, plain}
use Rattle.cx_inv_run.proofs.Common.{batcher_volatile, durable_of, leader_volatile, plain_volatile, proxy_volatile, replica_volatile}
use Rattle.cx_inv_run.proofs.Common.{with_record}
use Rattle.cx_base.specs.declared.event.Event.TheVariants as event
use Rattle.cx_base.specs.declared.role.Kind.TheVariants as kind
use Rattle.cx_base.specs.declared.why.Why.TheVariants as why
use Rattle.cx_letter.specs.declared.input.Input.TheVariants as input
use Rattle.cx_letter.specs.declared.input.Written.TheVariants as written
use Rattle.cx_model.specs.World.{Change, step}
use Rattle.cx_inv_alive.specs.Alive.{may_help}
use Rattle.cx_inv_run.proofs.Histories.{set_twice}
use Rattle.cx_inv_run.proofs.Members.{at-Member}
use Rattle.cx_inv_run.specs.States.{set_state}

pub record View (c : Cluster) (kept : List KeptRecord) (sent : List Letter) (states : RoleId → State) (w : World) : Type 0 where
  pub cluster : w.cluster ≡ c
  pub history : reverse w.kept ≡ kept
  pub mail : w.sent ≡ sent
  pub running : (a : RoleId) → w.roles a ≡ states a

pub view_at : (w : World) → View w.cluster (reverse w.kept) w.sent w.roles w
view_at w = record { cluster = refl; history = refl; mail = refl; running = λ a. refl }

-- from each world that is seen so, events that may help lead to one with this property
abbrev pub CanReach : (World → Type 0) → Cluster → List KeptRecord → List Letter → (RoleId → State) → Type 0
CanReach goal c kept sent states =
    (w : World) → View c kept sent states w → (es : List Event) × (list_all may_help es ≡ true) × goal (run_from w es)

-- KINDS OF ROLES

-- how the roles of a kind act
pub record Actor (k : Kind) (D V : Type 0) : Type 0 where
  pub make : V → State
  pub get : State → Option V
  pub rules : Rules D V
  pub acts : (w : World) (act : Act) (j : ℕ)
      → act_at w act (role k j) ≡ turned rules make w.cluster w.roles w.kept act (role k j) (get (w.roles (role k j)))
  pub got : (v : V) → get (make v) ≡ Some v
  pub down : get Down ≡ None

abbrev pub batchers : Actor kind.Batcher (Unit {0}) BatcherVolatile
batchers = record { make = BatcherIn; get = batcher_volatile; rules = batcher_rules; acts = λ w act j. refl; got = λ v. refl; down = refl }

abbrev pub leaders : Actor kind.Leader LeaderDurable LeaderVolatile
leaders = record { make = LeaderIn; get = leader_volatile; rules = leader_rules; acts = λ w act j. refl; got = λ v. refl; down = refl }

abbrev pub proxies : Actor kind.Proxy (Unit {0}) ProxyVolatile
proxies = record { make = ProxyIn; get = proxy_volatile; rules = proxy_rules; acts = λ w act j. refl; got = λ v. refl; down = refl }

abbrev pub acceptors : Actor kind.Acceptor AcceptorDurable (Unit {0})
acceptors = record { make = plain; get = plain_volatile; rules = acceptor_rules; acts = λ w act j. refl; got = λ v. refl; down = refl }

abbrev pub matchmakers : Actor kind.Matchmaker MatchmakerDurable (Unit {0})
matchmakers = record { make = plain; get = plain_volatile; rules = matchmaker_rules; acts = λ w act j. refl; got = λ v. refl; down = refl }

abbrev pub replicas : Actor kind.Replica ReplicaDurable ReplicaVolatile
replicas = record { make = ReplicaIn; get = replica_volatile; rules = replica_rules; acts = λ w act j. refl; got = λ v. refl; down = refl }

abbrev pub unbatchers : Actor kind.Unbatcher (Unit {0}) (Unit {0})
unbatchers = record { make = plain; get = plain_volatile; rules = unbatcher_rules; acts = λ w act j. refl; got = λ v. refl; down = refl }

-- EVENTS

whole_any : {V : Type 0} (k : Option Record) (o : Outcome V) → turn_with Whole k o ≡ whole_turn o
whole_any None o = refl
whole_any (Some r) o = refl

kept_first : (me : RoleId) (k : Option Record) (kept : List KeptRecord)
    → reverse (kept_by me (option_map written.Record k)) ++ kept ≡ with_record me k kept
kept_first me None kept = refl
kept_first me (Some r) kept = refl

set_same_states : (me a : RoleId) (s : State) (one other : RoleId → State) → one a ≡ other a → set_state me s one a ≡ set_state me s other a
unfolding set_state
set_same_states me a s one other e = ap (λ x. if same_role a me then s else x) e

module _ (c : Cluster) (kept : List KeptRecord) (sent : List Letter) where
  -- a role's state is another, and nothing else has changed
  set_view : (states : RoleId → State) (w : World) → View c kept sent states w → (e : Event) (ch : Change) (me : RoleId) (s : State)
      → ch.roles ≡ set_state me s w.roles → ch.kept ≡ [] → ch.sends ≡ [] → View c kept sent (set_state me s states) (world_after w e ch)
  set_view states w view e ch me s roles keeps sends =
      record {
        cluster = view.cluster;
        history = ap (λ l. reverse (w.kept ++ l)) keeps ∙ ap (λ l. reverse l) (append-nil w.kept) ∙ view.history;
        mail = ap (λ l. w.sent ++ l) sends ∙ append-nil w.sent ∙ view.mail;
        running = λ a. ap (λ f. f a) roles ∙ set_same_states me a s w.roles states (view.running a);
      }

  module _ {D V : Type 0} (k : Kind) (the : Actor k D V) (goal : World → Type 0) (j : ℕ) where
    abbrev me : RoleId
    me = role k j

    -- its volatile part when it is opened
    abbrev fresh : V
    fresh = the.rules.fresh c (durable_of the.rules me kept)

    -- its durable part, by the records
    left_in : (states : RoleId → State) (w : World) → View c kept sent states w
        → durable_part the.rules me w.kept ≡ durable_of the.rules me kept
    left_in states w view = durable_by_time the.rules me w.kept ∙ ap (λ h. durable_of the.rules me h) view.history

    taken : (states : RoleId → State) (w : World) → View c kept sent states w → (v : V) → states me ≡ the.make v
        → (i : Input) (o : Outcome V) → the.rules.row c me (durable_of the.rules me kept) v i ≡ o
        → (e : Event) → change w e ≡ act_at w (Give i Whole) me
        → View c (with_record me o.kept kept) (sent ++ o.sends) (set_state me (the.make o.volatile) states) (step w e)
    unfolding step
    taken states w view v is i o row e means =
        let act = Give i Whole in
        let there : the.get (w.roles me) ≡ Some v = ap the.get (view.running me ∙ is) ∙ the.got v in
        let durable = left_in states w view in
        let t : turn the.rules w.cluster me (durable_part the.rules me w.kept) act (Some v) ≡ whole_turn o =
        ap (λ x. turn the.rules x me (durable_part the.rules me w.kept) act (Some v)) view.cluster
        ∙ ap (λ d. turn the.rules c me d act (Some v)) durable
        ∙ whole_any ((the.rules.row c me (durable_of the.rules me kept) v i).kept) (the.rules.row c me (durable_of the.rules me kept) v i)
        ∙ ap (λ x. whole_turn x) row in
        let is_change : change w e ≡ changed the.make me w.roles (whole_turn o) =
        means ∙ the.acts w act j
        ∙ ap (λ x. turned the.rules the.make w.cluster w.roles w.kept act me x) there
        ∙ ap (λ x. changed the.make me w.roles x) t in
        subst (λ ch. View c (with_record me o.kept kept) (sent ++ o.sends) (set_state me (the.make o.volatile) states) (world_after w e ch))
        (sym is_change) (record {
          cluster = view.cluster;
          history =
              reverse-append w.kept (kept_by me (option_map written.Record o.kept))
              ∙ ap (λ h. reverse (kept_by me (option_map written.Record o.kept)) ++ h) view.history ∙ kept_first me o.kept kept;
          mail = ap (λ s. s ++ o.sends) view.mail;
          running = λ a. set_same_states me a (the.make o.volatile) w.roles states (view.running a);
        })

    module _ (states : RoleId → State) (v : V) (o : Outcome V) (is : states me ≡ the.make v)
        (next : CanReach goal c (with_record me o.kept kept) (sent ++ o.sends) (set_state me (the.make o.volatile) states)) where
      -- a datagram is delivered
      pub delivered : (d : Letter) → Member d sent → d.to ≡ me → the.rules.row c me (durable_of the.rules me kept) v (input.Take d) ≡ o
          → CanReach goal c kept sent states
      delivered d m to row w view =
          let place = at-Member d sent m in
          let e = event.Deliver place.0 Whole in
          let r = next (step w e)
          (taken states w view v is (input.Take d) o row e (ap (λ x. come w Whole x) (ap (λ l. slice_get l place.0) view.mail ∙ place.1)
          ∙ ap (λ x. act_at w (Give (input.Take d) Whole) x) to)) in
          (e ∷ r.0, r.1, r.2)

      -- an event that is the same in each world gives an input
      pub given : (e : Event) (i : Input) → may_help e ≡ true → ((w : World) → change w e ≡ act_at w (Give i Whole) me)
          → the.rules.row c me (durable_of the.rules me kept) v i ≡ o → CanReach goal c kept sent states
      given e i helps means row w view =
          let r = next (step w e) (taken states w view v is i o row e (means w)) in
          (e ∷ r.0, and_from (may_help e) (list_all may_help r.0) helps r.1, r.2)

    after_stop : (states : RoleId → State) (w : World) → View c kept sent states w → (running : Option V) → View c kept sent
        (set_state me Down states) (world_after w (event.Crash me) (turned the.rules the.make w.cluster w.roles w.kept Stop me running))
    after_stop states w view None =
        set_view states w view (event.Crash me) (turned the.rules the.make w.cluster w.roles w.kept Stop me None) me Down refl refl refl
    after_stop states w view (Some v) =
        set_view states w view (event.Crash me) (turned the.rules the.make w.cluster w.roles w.kept Stop me (Some v)) me Down refl refl refl

    stopped : (states : RoleId → State) (w : World) → View c kept sent states w
        → View c kept sent (set_state me Down states) (step w (event.Crash me))
    unfolding step
    stopped states w view = subst (λ ch. View c kept sent (set_state me Down states) (world_after w (event.Crash me) ch))
        (sym (the.acts w Stop j)) (after_stop states w view (the.get (w.roles me)))

    woken : (states : RoleId → State) (w : World) → View c kept sent states w → states me ≡ Down → names_role c me ≡ true
        → View c kept sent (set_state me (the.make fresh) states) (step w (event.Restart me))
    unfolding step
    woken states w view is named =
        let after = changed the.make me w.roles (still (Some fresh) why.Opened) in
        let there : the.get (w.roles me) ≡ None = ap the.get (view.running me ∙ is) ∙ the.down in
        let is_change : act_at w Wake me ≡ after =
        the.acts w Wake j
        ∙ ap (λ x. turned the.rules the.make w.cluster w.roles w.kept Wake me x) there ∙ ap (λ x. changed the.make me w.roles
        (if names_role x me then still (Some (the.rules.fresh x (durable_part the.rules me w.kept))) why.Opened
        else still None why.Down)) view.cluster
        ∙ ap (λ d. changed the.make me w.roles
        (if names_role c me then still (Some (the.rules.fresh c d)) why.Opened else still None why.Down)) (left_in states w view)
        ∙ ap (λ b. changed the.make me w.roles (if b then still (Some fresh) why.Opened else still None why.Down)) named in
        subst (λ ch. View c kept sent (set_state me (the.make fresh) states) (world_after w (event.Restart me) ch))
        (sym is_change) (set_view states w view (event.Restart me) after me (the.make fresh) refl refl refl)

    -- a role is stopped and opened again
    pub reopened : (states : RoleId → State) → names_role c me ≡ true
        → CanReach goal c kept sent (set_state me (the.make fresh) states) → CanReach goal c kept sent states
    reopened states named next w view =
        let s = the.make fresh in
        let u = step w (event.Crash me) in
        let a = woken (set_state me Down states) u (stopped states w view) (state_own me Down states) named in
        let r = next (step u (event.Restart me)) (record {
          cluster = a.cluster;
          history = a.history;
          mail = a.mail;
          running = λ b. a.running b ∙ sym (set_twice me s Down states b);
        }) in
        (event.Crash me ∷ event.Restart me ∷ r.0, r.1, r.2)
