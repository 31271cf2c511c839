-- Each event keeps a property that has its laws, so it holds of every run.
use Rattle.std.proofs.Common.{ap, sym, ◌∙◌, subst, inl, inr, append-nil}
use Rattle.std.proofs.lemmas.List.{reverse-append}
use Rattle.cx_model.specs.Prelude.{◌≡◌, ℕ, Bool, true, false, ◌⊎◌, List, [], ◌∷◌, ◌++◌, reverse, Option, None, Some, refl, slice_get}
use Rattle.cx_model.specs.Prelude.{if◌then◌else◌, Cluster, Cut, Whole, Torn, Kept, Event, Offer, Replace, Kind, RoleId, role, Letter, Act}
use Rattle.cx_model.specs.Prelude.{Give}
use Rattle.cx_model.specs.Prelude.{Snap, Stop, Wake, Input, KeptRecord, Written, Record, Token, acceptor_rules, acceptor_row, batcher_rules}
use Rattle.cx_model.specs.Prelude.{batcher_row, heard_by, leader_rules, leader_row, role_from_parts, matchmaker_rules, matchmaker_row}
use Rattle.cx_model.specs.Prelude.{names_role, Outcome, proxy_rules, proxy_row, reader_rules, reader_row, replacer_rules, replacer_row}
use Rattle.cx_model.specs.Prelude.{replica_rules, replica_row, is_stale, request, token_of, Rules, Turn, turn, turn_with, whole_turn}
use Rattle.cx_model.specs.Prelude.{snap_turn, still, unbatcher_rules, unbatcher_row, World, change, turned, nothing, come, act_at, act_of}
use Rattle.cx_model.specs.Prelude.{durable_part, kept_by, start, run, run_from, State, Down, Plain, BatcherIn, LeaderIn, ProxyIn, ReplicaIn}
use Rattle.cx_model.specs.Prelude.{ReaderIn, ReplacerIn, plain, state_of, plain_volatile, batcher_volatile, leader_volatile, proxy_volatile}
use Rattle.cx_model.specs.Prelude.{replica_volatile, reader_volatile, replacer_volatile, fresh_state, set_state}
use Rattle.cx_base.specs.declared.event.Event.TheVariants as event
use Rattle.cx_base.specs.declared.role.Kind.TheVariants as kind
use Rattle.cx_base.specs.declared.why.Why.TheVariants as why
use Rattle.cx_letter.specs.declared.input.Input.TheVariants as input
use Rattle.cx_model.specs.Outcome.{either_way}
use Rattle.cx_model.specs.World.{Change, step}
use Rattle.cx_inv_run.specs.States.{entry_by, snap_by, with_written, durable_of, opened_state, Given, Property, HoldsIn}
use Rattle.cx_inv_run.specs.Laws.{Lands, Laws, anything, heard_of, AllAllowed, HoldsAlong, StepLaw, RunFromLaw, RunLaw}
use Rattle.cx_inv_run.proofs.Members.{Member-at}
use Rattle.cx_inv_run.proofs.Histories.{durable_by_time, record_written, set_same, set_twice, state_own}

-- a state that has a kind's part is that kind's
abbrev pub Only : {V : Type 0} → (V → State) → (State → Option V) → Type 0
Only {V} make get = (s : State) (v : V) → get s ≡ Some v → s ≡ make v

pub only_plain : Only plain plain_volatile
only_plain Down v e = cc
only_plain Plain v e = refl
only_plain (BatcherIn u) v e = cc
only_plain (LeaderIn u) v e = cc
only_plain (ProxyIn u) v e = cc
only_plain (ReplicaIn u) v e = cc
only_plain (ReaderIn u) v e = cc
only_plain (ReplacerIn u) v e = cc

pub only_batcher : Only BatcherIn batcher_volatile
only_batcher Down v e = cc
only_batcher Plain v e = cc
only_batcher (BatcherIn u) v e = cc
only_batcher (LeaderIn u) v e = cc
only_batcher (ProxyIn u) v e = cc
only_batcher (ReplicaIn u) v e = cc
only_batcher (ReaderIn u) v e = cc
only_batcher (ReplacerIn u) v e = cc

pub only_leader : Only LeaderIn leader_volatile
only_leader Down v e = cc
only_leader Plain v e = cc
only_leader (BatcherIn u) v e = cc
only_leader (LeaderIn u) v e = cc
only_leader (ProxyIn u) v e = cc
only_leader (ReplicaIn u) v e = cc
only_leader (ReaderIn u) v e = cc
only_leader (ReplacerIn u) v e = cc

pub only_proxy : Only ProxyIn proxy_volatile
only_proxy Down v e = cc
only_proxy Plain v e = cc
only_proxy (BatcherIn u) v e = cc
only_proxy (LeaderIn u) v e = cc
only_proxy (ProxyIn u) v e = cc
only_proxy (ReplicaIn u) v e = cc
only_proxy (ReaderIn u) v e = cc
only_proxy (ReplacerIn u) v e = cc

pub only_replica : Only ReplicaIn replica_volatile
only_replica Down v e = cc
only_replica Plain v e = cc
only_replica (BatcherIn u) v e = cc
only_replica (LeaderIn u) v e = cc
only_replica (ProxyIn u) v e = cc
only_replica (ReplicaIn u) v e = cc
only_replica (ReaderIn u) v e = cc
only_replica (ReplacerIn u) v e = cc

pub only_reader : Only ReaderIn reader_volatile
only_reader Down v e = cc
only_reader Plain v e = cc
only_reader (BatcherIn u) v e = cc
only_reader (LeaderIn u) v e = cc
only_reader (ProxyIn u) v e = cc
only_reader (ReplicaIn u) v e = cc
only_reader (ReaderIn u) v e = cc
only_reader (ReplacerIn u) v e = cc

pub only_replacer : Only ReplacerIn replacer_volatile
only_replacer Down v e = cc
only_replacer Plain v e = cc
only_replacer (BatcherIn u) v e = cc
only_replacer (LeaderIn u) v e = cc
only_replacer (ProxyIn u) v e = cc
only_replacer (ReplicaIn u) v e = cc
only_replacer (ReaderIn u) v e = cc
only_replacer (ReplacerIn u) v e = cc

kept_turned : (me : RoleId) (o : Option Written) (kept : List KeptRecord) → with_written me o kept ≡ reverse (kept_by me o) ++ kept
kept_turned me None kept = refl
kept_turned me (Some w) kept = refl

-- what an act gives is given
abbrev ActGiven : List Letter → RoleId → Act → Type 0
ActGiven sent me (Give i cut) = Given sent me i
ActGiven sent me (Snap cut) = Unit {0}
ActGiven sent me Stop = Unit {0}
ActGiven sent me Wake = Unit {0}

-- a fact of the role of this kind and index
as_role : (P : RoleId → Type 0) (k : Kind) (me : RoleId) → me.kind ≡ k → P (role k me.index) → P me
as_role P k me is h = subst P (role_from_parts k me.kind me.index me.index (sym is) refl) h

module _ (c : Cluster) (Allowed : ℕ → Event → Type 0) (known holds : Property) (laws : Laws c Allowed known holds) where
  -- a turn of a role
  module _ {V : Type 0} (kept : List KeptRecord) (sent : List Letter) (states : RoleId → State) (h : holds kept sent states) (me : RoleId)
      (make : V → State) where
    abbrev AfterTurn : Turn V → Type 0
    AfterTurn t = holds (with_written me t.kept kept) (sent ++ t.sends) (set_state me (state_of make t.role) states)

    quiet : (s : State) → holds kept sent (set_state me s states) → holds kept (sent ++ []) (set_state me s states)
    quiet s h = subst (λ l. holds kept l (set_state me s states)) (sym (append-nil sent)) h

    stopped : holds kept (sent ++ []) (set_state me Down states)
    stopped = quiet Down (laws.stop kept sent states me h)

    whole : (o : Outcome V) → Lands holds kept sent states me make o → AfterTurn (whole_turn o)
    whole o lands =
        subst (λ l. holds l (sent ++ o.sends) (set_state me (make o.volatile) states)) (sym (record_written me o.kept kept)) lands.whole

    landed : (cut : Cut) (o : Outcome V) (r : Option Record) → o.kept ≡ r → Lands holds kept sent states me make o
        → AfterTurn (turn_with cut r o)
    landed cut o None e lands = whole o lands
    landed Whole o (Some r) e lands = whole o lands
    landed Torn o (Some r) e lands = stopped
    landed Kept o (Some r) e lands =
        subst (λ l. holds (entry_by me r ∷ kept) l (set_state me Down states)) (sym (append-nil sent)) (lands.cut r e)

    -- nothing is done to a role that runs
    stays : (v : V) → states me ≡ make v → holds kept (sent ++ []) (set_state me (make v) states)
    stays v is = quiet (make v) (laws.same kept sent states (set_state me (make v) states) (set_same me (make v) states is) h)

    -- a snap, once what it forgets is known
    forgot : (cut : Cut) (v : V) (o : Option ℕ) → states me ≡ make v
        → ((first : ℕ) → o ≡ Some first → holds (snap_by me first ∷ kept) sent states) → AfterTurn (snap_turn cut v o)
    forgot cut v None is snaps = stays v is
    forgot Whole v (Some first) is snaps =
        let after = snap_by me first ∷ kept in
        let running = set_state me (make v) states in
        subst (λ l. holds after l running) (sym (append-nil sent))
        (laws.same after sent states running (set_same me (make v) states is) (snaps first refl))
    forgot Torn v (Some first) is snaps = stopped
    forgot Kept v (Some first) is snaps =
        let after = snap_by me first ∷ kept in
        subst (λ l. holds after l (set_state me Down states)) (sym (append-nil sent)) (laws.stop after sent states me (snaps first refl))

    -- a role that runs is in this state; where it doesn't run, its state may be any
    opens : holds kept sent (set_state me (opened_state c me kept me.kind) states)
    opens =
        let s = opened_state c me kept me.kind in
        laws.same kept sent (set_state me s (set_state me Down states)) (set_state me s states)
        (λ a. sym (set_twice me s Down states a))
        (laws.wake kept sent (set_state me Down states) me (laws.stop kept sent states me h) (state_own me Down states))

    acted : {D : Type 0} (rules : Rules D V) (d : D) → opened_state c me kept me.kind ≡ make (rules.fresh c d)
        → (running : Option V) → ((v : V) → running ≡ Some v → states me ≡ make v) → (act : Act) → ((v : V) (i : Input) (cut : Cut)
        → act ≡ Give i cut → states me ≡ make v → Lands holds kept sent states me make (rules.row c me d v i))
        → ((v : V) (first : ℕ) → states me ≡ make v → rules.snap c me d v ≡ Some first → holds (snap_by me first ∷ kept) sent states)
        → AfterTurn (turn rules c me d act running)
    acted rules d fresh None is (Give i cut) row snaps = stopped
    acted rules d fresh (Some v) is (Give i cut) row snaps =
        landed cut (rules.row c me d v i) ((rules.row c me d v i).kept) refl (row v i cut refl (is v refl))
    acted rules d fresh None is (Snap cut) row snaps = stopped
    acted rules d fresh (Some v) is (Snap cut) row snaps =
        forgot cut v (rules.snap c me d v) (is v refl) (λ first e. snaps v first (is v refl) e)
    acted rules d fresh None is Stop row snaps = stopped
    acted rules d fresh (Some v) is Stop row snaps = stopped
    acted rules d fresh None is Wake row snaps =
        either_way AfterTurn (names_role c me) (still (Some (rules.fresh c d)) why.Opened) (still None why.Down)
        (quiet (make (rules.fresh c d)) (subst (λ s. holds kept sent (set_state me s states)) fresh opens)) stopped
    acted rules d fresh (Some v) is Wake row snaps = stays v (is v refl)

  -- a change of a world
  module _ (w : World) (is_c : w.cluster ≡ c) (knows : HoldsIn known w) (h : HoldsIn holds w) where
    abbrev AfterChange : Change → Type 0
    AfterChange ch = holds (reverse ch.kept ++ reverse w.kept) (w.sent ++ ch.sends) (ch.roles)

    no_change : holds (reverse w.kept) (w.sent ++ []) w.roles
    no_change = subst (λ l. holds (reverse w.kept) l w.roles) (sym (append-nil w.sent)) h

    placed : {D V : Type 0} (k : Kind) (make : V → State) (get : State → Option V) → Only make get
        → (rules : Rules D V) (me : RoleId) (act : Act) → me.kind ≡ k
        → opened_state c me (reverse w.kept) k ≡ make (rules.fresh c (durable_of rules me (reverse w.kept)))
        → ((v : V) (i : Input) (cut : Cut) → act ≡ Give i cut → w.roles me ≡ make v
        → Lands holds (reverse w.kept) w.sent w.roles me make (rules.row c me (durable_of rules me (reverse w.kept)) v i))
        → ((v : V) (first : ℕ) → w.roles me ≡ make v → rules.snap c me (durable_of rules me (reverse w.kept)) v ≡ Some first
        → holds (snap_by me first ∷ reverse w.kept) w.sent w.roles)
        → AfterChange (turned rules make c w.roles w.kept act me (get (w.roles me)))
    placed k make get only rules me act is fresh row snaps =
        let kept = reverse w.kept in
        let t = turn rules c me (durable_part rules me w.kept) act (get (w.roles me)) in
        subst (λ l. holds l (w.sent ++ t.sends) (set_state me (state_of make t.role) w.roles)) (kept_turned me t.kept kept)
        (acted kept w.sent w.roles h me make rules (durable_part rules me w.kept)
        (subst (λ x. opened_state c me kept me.kind ≡ make (rules.fresh c x)) (sym (durable_by_time rules me w.kept))
        (ap (λ j. opened_state c me kept j) is ∙ fresh))
        (get (w.roles me)) (λ v e. only (w.roles me) v e) act
        (λ v i cut p s. subst (λ x. Lands holds kept w.sent w.roles me make (rules.row c me x v i)) (sym (durable_by_time rules me w.kept))
        (row v i cut p s))
        (λ v first s e. snaps v first s (subst (λ x. rules.snap c me x v ≡ Some first) (durable_by_time rules me w.kept) e)))

    module _ (me : RoleId) (act : Act) (given : ActGiven w.sent me act) where
      given_to : (i : Input) (cut : Cut) → act ≡ Give i cut → Given w.sent me i
      given_to i cut e = subst (λ a. ActGiven w.sent me a) e given

      at_role : (k : Kind) → me.kind ≡ k → AfterChange (act_of c w.roles w.kept act me k)
      at_role kind.Client is = no_change
      at_role kind.Batcher is =
          placed kind.Batcher BatcherIn batcher_volatile only_batcher batcher_rules me act is refl
          (λ v i cut p s. as_role (λ a. w.roles a ≡ BatcherIn v → Given w.sent a i
          → Lands holds (reverse w.kept) w.sent w.roles a BatcherIn (batcher_row c a tt v i)) kind.Batcher me is
          (laws.batcher (reverse w.kept) w.sent w.roles me.index v i knows h) s (given_to i cut p))
          (λ v first s e. absurd cc)
      at_role kind.Leader is =
          placed kind.Leader LeaderIn leader_volatile only_leader leader_rules me act is refl
          (λ v i cut p s. as_role (λ a. w.roles a ≡ LeaderIn v → Given w.sent a i → Lands holds (reverse w.kept) w.sent w.roles a LeaderIn
          (leader_row c a (durable_of leader_rules a (reverse w.kept)) v i)) kind.Leader me is
          (laws.leader (reverse w.kept) w.sent w.roles me.index v i knows h) s (given_to i cut p))
          (λ v first s e. absurd cc)
      at_role kind.Proxy is =
          placed kind.Proxy ProxyIn proxy_volatile only_proxy proxy_rules me act is refl (λ v i cut p s. as_role (λ a. w.roles a ≡ ProxyIn v
          → Given w.sent a i → Lands holds (reverse w.kept) w.sent w.roles a ProxyIn (proxy_row c a tt v i)) kind.Proxy me is
          (laws.proxy (reverse w.kept) w.sent w.roles me.index v i knows h) s (given_to i cut p))
          (λ v first s e. absurd cc)
      at_role kind.Acceptor is =
          placed kind.Acceptor plain plain_volatile only_plain acceptor_rules me act is refl
          (λ v i cut p s. as_role (λ a. w.roles a ≡ Plain → Given w.sent a i → Lands holds (reverse w.kept) w.sent w.roles a plain
          (acceptor_row c a (durable_of acceptor_rules a (reverse w.kept)) tt i)) kind.Acceptor me is
          (laws.acceptor (reverse w.kept) w.sent w.roles me.index i knows h) s (given_to i cut p))
          (λ v first. as_role (λ a. w.roles a ≡ Plain
          → acceptor_rules.snap c a (durable_of acceptor_rules a (reverse w.kept)) tt ≡ Some first
          → holds (snap_by a first ∷ reverse w.kept) w.sent w.roles) kind.Acceptor me is
          (laws.acceptor_anew (reverse w.kept) w.sent w.roles me.index first knows h))
      at_role kind.Matchmaker is =
          placed kind.Matchmaker plain plain_volatile only_plain matchmaker_rules me act is refl
          (λ v i cut p s. as_role (λ a. w.roles a ≡ Plain → Given w.sent a i → Lands holds (reverse w.kept) w.sent w.roles a plain
          (matchmaker_row c a (durable_of matchmaker_rules a (reverse w.kept)) tt i)) kind.Matchmaker me is
          (laws.matchmaker (reverse w.kept) w.sent w.roles me.index i knows h) s (given_to i cut p))
          (λ v first s e. absurd cc)
      at_role kind.Replica is =
          placed kind.Replica ReplicaIn replica_volatile only_replica replica_rules me act is refl
          (λ v i cut p s. as_role (λ a. w.roles a ≡ ReplicaIn v → Given w.sent a i → Lands holds (reverse w.kept) w.sent w.roles a ReplicaIn
          (replica_row c a (durable_of replica_rules a (reverse w.kept)) v i)) kind.Replica me is
          (laws.replica (reverse w.kept) w.sent w.roles me.index v i knows h) s (given_to i cut p))
          (λ v first. as_role (λ a. w.roles a ≡ ReplicaIn v → replica_rules.snap c a (durable_of replica_rules a (reverse w.kept)) v
          ≡ Some first → holds (snap_by a first ∷ reverse w.kept) w.sent w.roles) kind.Replica me is
          (laws.snap (reverse w.kept) w.sent w.roles me.index v first knows h))
      at_role kind.Unbatcher is =
          placed kind.Unbatcher plain plain_volatile only_plain unbatcher_rules me act is refl (λ v i cut p s. as_role (λ a. w.roles a
          ≡ Plain → Given w.sent a i → Lands holds (reverse w.kept) w.sent w.roles a plain (unbatcher_row c a tt tt i)) kind.Unbatcher me is
          (laws.unbatcher (reverse w.kept) w.sent w.roles me.index i knows h) s (given_to i cut p))
          (λ v first s e. absurd cc)
      at_role kind.Reader is =
          placed kind.Reader ReaderIn reader_volatile only_reader reader_rules me act is refl
          (λ v i cut p s. as_role (λ a. w.roles a ≡ ReaderIn v → Given w.sent a i → Lands holds (reverse w.kept) w.sent w.roles a ReaderIn
          (reader_row c a (durable_of reader_rules a (reverse w.kept)) v i)) kind.Reader me is
          (laws.reader (reverse w.kept) w.sent w.roles me.index v i knows h) s (given_to i cut p))
          (λ v first. as_role (λ a. w.roles a ≡ ReaderIn v
          → reader_rules.snap c a (durable_of reader_rules a (reverse w.kept)) v ≡ Some first
          → holds (snap_by a first ∷ reverse w.kept) w.sent w.roles) kind.Reader me is
          (laws.reader_anew (reverse w.kept) w.sent w.roles me.index first v knows h))
      at_role kind.Replacer is =
          placed kind.Replacer ReplacerIn replacer_volatile only_replacer replacer_rules me act is refl
          (λ v i cut p s. as_role (λ a. w.roles a ≡ ReplacerIn v → Given w.sent a i → Lands holds (reverse w.kept) w.sent w.roles a
          ReplacerIn (replacer_row c a (durable_of replacer_rules a (reverse w.kept)) v i)) kind.Replacer me is
          (laws.replacer (reverse w.kept) w.sent w.roles me.index v i knows h) s (given_to i cut p))
          (λ v first s e. absurd cc)

    acts : (act : Act) (me : RoleId) → ActGiven w.sent me act → AfterChange (act_at w act me)
    acts act me given = subst (λ x. AfterChange (act_of x w.roles w.kept act me me.kind)) (sym is_c) (at_role me act given me.kind refl)

    comes : (cut : Cut) (o : Option Letter) → ((d : Letter) → o ≡ Some d → Given w.sent d.to (input.Take d)) → AfterChange (come w cut o)
    comes cut None given = no_change
    comes cut (Some d) given = acts (Give (input.Take d) cut) d.to (given d refl)

    abbrev asked : Event → Token → Bool → Change
    asked e t stale =
        if stale
        then nothing (Some (role kind.Client t.client)) w.roles why.Stale else record {
          who = Some (role kind.Client t.client);
          why = why.Sent;
          roles = w.roles;
          kept = [];
          sends = request (heard_by t.client w.sent w.events) e;
        }

    asks : (e : Event) (t : Token) (stale : Bool) → ((asked e t stale).why ≡ why.Sent → Allowed (heard_by t.client w.sent w.events) e)
        → AfterChange (asked e t stale)
    asks e t true allowed = no_change
    asks e t false allowed = laws.ask (reverse w.kept) w.sent w.roles (heard_by t.client w.sent w.events) e (allowed refl) knows h

    changes : (e : Event) → ((change w e).why ≡ why.Sent → Allowed (heard_of w (token_of e)) e) → AfterChange (change w e)
    changes (event.Write command batcher) allowed = (let t : Token = record { client = command.client; seq = command.seq } in
        asks (event.Write command batcher) t (is_stale t (event.Write command batcher) w.events) allowed)
    changes (event.Read client seq floor reader replica key) allowed =
        (let t : Token = record { client = client; seq = seq } in asks (event.Read client seq floor reader replica key) t
        (is_stale t (event.Read client seq floor reader replica key) w.events) allowed)
    changes (event.Session client seq floor replica key) allowed = (let t : Token = record { client = client; seq = seq } in
        asks (event.Session client seq floor replica key) t (is_stale t (event.Session client seq floor replica key) w.events) allowed)
    changes (event.Deliver n cut) allowed = comes cut (slice_get w.sent n) (λ d e. (refl, Member-at d w.sent n e))
    changes (event.Tick r) allowed = acts (Give input.Tick Whole) r tt
    changes (event.Order l order cut) allowed = acts (Give (input.Order order) cut) (role kind.Leader l) tt
    changes (event.Replace x s cut) allowed = acts (Give (input.Order (Replace s)) cut) (role kind.Replacer x) tt
    changes (event.Offer p to s) allowed = acts (Give (input.Order (Offer to s)) Whole) (role kind.Replica p) tt
    changes (event.Snap r cut) allowed = acts (Snap cut) r tt
    changes (event.Crash r) allowed = acts Stop r tt
    changes (event.Restart r) allowed = acts Wake r tt

    stepped : (e : Event) → ((change w e).why ≡ why.Sent → Allowed (heard_of w (token_of e)) e) → HoldsIn holds (step w e)
    unfolding step
    stepped e allowed =
        let ch = change w e in
        subst (λ k. holds k (w.sent ++ ch.sends) (ch.roles)) (sym (reverse-append w.kept ch.kept)) (changes e allowed)

-- an event changes nothing of the cluster
pub step_cluster : (w : World) (e : Event) → (step w e).cluster ≡ w.cluster
unfolding step
step_cluster w e = refl

pub step_keeps : StepLaw
step_keeps c Allowed known holds laws w is knows h e allowed = stepped c Allowed known holds laws w is knows h e allowed

pub run_from_keeps : RunFromLaw
run_from_keeps c Allowed known holds laws w is h [] along allowed = h
run_from_keeps c Allowed known holds laws w is h (e ∷ es) along allowed = run_from_keeps c Allowed known holds laws (step w e)
    (step_cluster w e ∙ is) (step_keeps c Allowed known holds laws w is along.0 h e allowed.0) es along.1 allowed.1

-- at the start each role is fresh or isn't there

fresh_if : (b : Bool) (s : State) → ((if b then s else Down) ≡ Down) ⊎ ((if b then s else Down) ≡ s)
fresh_if true s = inr refl
fresh_if false s = inl refl

pub start_holds : (c : Cluster) (Allowed : ℕ → Event → Type 0) (known holds : Property) → Laws c Allowed known holds
    → HoldsIn holds (run c [])
start_holds c Allowed known holds laws = laws.start ((start c).roles) (λ a. fresh_if (names_role c a) (fresh_state c a.kind))

pub run_keeps : RunLaw
run_keeps c Allowed known holds laws es along allowed =
    run_from_keeps c Allowed known holds laws (run c []) refl (start_holds c Allowed known holds laws) es along allowed

-- the run of more events goes on from the run of the first

pub run_from_append : (w : World) (es more : List Event) → run_from w (es ++ more) ≡ run_from (run_from w es) more
run_from_append w [] more = refl
run_from_append w (e ∷ es) more = run_from_append (step w e) es more

pub run_append : (c : Cluster) (es more : List Event) → run c (es ++ more) ≡ run_from (run c es) more
run_append c es more = run_from_append (start c) es more

pub run_cluster : (c : Cluster) (es : List Event) → (run c es).cluster ≡ c
run_cluster c es = go (start c) refl es
  where
    go : (w : World) → w.cluster ≡ c → (es : List Event) → (run_from w es).cluster ≡ c
    go w is [] = is
    go w is (e ∷ es) = go (step w e) (step_cluster w e ∙ is) es

-- what holds of every run holds along each
pub along : (c : Cluster) (holds : Property) → ((es : List Event) → HoldsIn holds (run c es)) → (es more : List Event)
    → HoldsAlong holds (run c es) more
along c holds always es [] = always es
along c holds always es (e ∷ more) =
    (always es, subst (λ w. HoldsAlong holds w more) (run_append c es (e ∷ [])) (along c holds always (es ++ e ∷ []) more))

pub along_anything : (w : World) (es : List Event) → HoldsAlong anything w es
along_anything w [] = tt
along_anything w (e ∷ es) = (tt, along_anything (step w e) es)

-- where every request is allowed
pub all_allowed : (w : World) (es : List Event) → AllAllowed (λ n e. Unit {0}) w es
all_allowed w [] = tt
all_allowed w (e ∷ es) = (λ sent. tt, all_allowed (step w e) es)

-- a property whose laws rest on one that holds of every run, and let every request out, holds of every run
pub always : (c : Cluster) (known holds : Property) → Laws c (λ n e. Unit {0}) known holds → ((es : List Event) → HoldsIn known (run c es))
    → (es : List Event) → HoldsIn holds (run c es)
always c known holds laws knows es =
    run_keeps c (λ n e. Unit {0}) known holds laws es (along c known knows [] es) (all_allowed (run c []) es)
