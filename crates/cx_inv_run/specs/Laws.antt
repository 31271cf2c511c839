-- What a property of moments needs, so that every step keeps it: one law for each kind of step, one for each kind of role's rows, and one
-- for each kind of role that puts its list anew.
use Rattle.std.specs.Prelude.{◌≡◌, ◌⊎◌, ℕ, List, [], ◌∷◌, ◌++◌, Option, None, Some}
use Rattle.cx_model.specs.Prelude.{Cluster, Event, RoleId, role, Token, Letter, Input, KeptRecord, Record, acceptor_rules, acceptor_row}
use Rattle.cx_model.specs.Prelude.{BatcherVolatile, batcher_row, heard_by, LeaderVolatile, leader_rules, leader_row, matchmaker_rules}
use Rattle.cx_model.specs.Prelude.{matchmaker_row, Outcome, ProxyVolatile, proxy_row, ReaderVolatile, reader_rules, reader_row}
use Rattle.cx_model.specs.Prelude.{ReplacerVolatile, replacer_rules, replacer_row, ReplicaVolatile, replica_rules, replica_row, request}
use Rattle.cx_model.specs.Prelude.{token_of, unbatcher_row, World, change, step, run, run_from, State, Down, Plain, BatcherIn, LeaderIn}
use Rattle.cx_model.specs.Prelude.{ProxyIn, ReplicaIn, ReaderIn, ReplacerIn, plain, fresh_state, set_state}
use Rattle.cx_base.specs.declared.role.Kind.TheVariants as kind
use Rattle.cx_base.specs.declared.why.Why.TheVariants as why
use Rattle.cx_inv_run.specs.States.{entry_by, snap_by, with_record, durable_of, opened_state, Given, Property, HoldsIn}

-- The outcome of a row keeps a property: the whole step, and the step that is cut after its record was kept. (A step that is cut before is
-- a stop.)
pub record Lands {V : Type 0} (holds : Property) (kept : List KeptRecord) (sent : List Letter) (states : RoleId → State) (me : RoleId)
    (make : V → State) (o : Outcome V) : Type 0 where
  pub whole : holds (with_record me o.kept kept) (sent ++ o.sends) (set_state me (make o.volatile) states)
  pub cut : (r : Record) → o.kept ≡ Some r → holds (entry_by me r ∷ kept) sent (set_state me Down states)

-- The laws of a property over a cluster. `known` is another property that every moment is known to have, `Allowed` says which requests go
-- out, where their clients have heard of so many values.
pub record Laws (c : Cluster) (Allowed : ℕ → Event → Type 0) (known holds : Property) : Type 0 where
  -- only the state of each role counts
  pub same : (kept : List KeptRecord) (sent : List Letter) (states others : RoleId → State)
      → ((a : RoleId) → states a ≡ others a) → holds kept sent states → holds kept sent others
  -- nothing has happened, and each role is fresh or isn't there
  pub start : (states : RoleId → State) → ((a : RoleId) → (states a ≡ Down) ⊎ (states a ≡ fresh_state c a.kind)) → holds [] [] states
  -- a crash, and a step that is torn
  pub stop : (kept : List KeptRecord) (sent : List Letter) (states : RoleId → State) (me : RoleId)
      → holds kept sent states → holds kept sent (set_state me Down states)
  -- a restart
  pub wake : (kept : List KeptRecord) (sent : List Letter) (states : RoleId → State) (me : RoleId)
      → holds kept sent states → states me ≡ Down → holds kept sent (set_state me (opened_state c me kept me.kind) states)
  -- a request of a client that has heard of `n` values
  pub ask : (kept : List KeptRecord) (sent : List Letter) (states : RoleId → State) (n : ℕ) (e : Event)
      → Allowed n e → known kept sent states → holds kept sent states → holds kept (sent ++ request n e) states
  -- the rows of each kind of role
  pub batcher : (kept : List KeptRecord) (sent : List Letter) (states : RoleId → State) (b : ℕ) (v : BatcherVolatile) (i : Input)
      → known kept sent states → holds kept sent states → states (role kind.Batcher b) ≡ BatcherIn v → Given sent (role kind.Batcher b) i
      → Lands holds kept sent states (role kind.Batcher b) BatcherIn (batcher_row c (role kind.Batcher b) tt v i)
  pub leader : (kept : List KeptRecord) (sent : List Letter) (states : RoleId → State) (l : ℕ) (v : LeaderVolatile) (i : Input)
      → known kept sent states → holds kept sent states → states (role kind.Leader l) ≡ LeaderIn v → Given sent (role kind.Leader l) i
      → Lands holds kept sent states (role kind.Leader l) LeaderIn
      (leader_row c (role kind.Leader l) (durable_of leader_rules (role kind.Leader l) kept) v i)
  pub proxy : (kept : List KeptRecord) (sent : List Letter) (states : RoleId → State) (p : ℕ) (v : ProxyVolatile) (i : Input)
      → known kept sent states → holds kept sent states → states (role kind.Proxy p) ≡ ProxyIn v → Given sent (role kind.Proxy p) i
      → Lands holds kept sent states (role kind.Proxy p) ProxyIn (proxy_row c (role kind.Proxy p) tt v i)
  pub acceptor : (kept : List KeptRecord) (sent : List Letter) (states : RoleId → State) (a : ℕ) (i : Input)
      → known kept sent states → holds kept sent states → states (role kind.Acceptor a) ≡ Plain → Given sent (role kind.Acceptor a) i
      → Lands holds kept sent states (role kind.Acceptor a) plain
      (acceptor_row c (role kind.Acceptor a) (durable_of acceptor_rules (role kind.Acceptor a) kept) tt i)
  pub matchmaker : (kept : List KeptRecord) (sent : List Letter) (states : RoleId → State) (m : ℕ) (i : Input)
      → known kept sent states → holds kept sent states → states (role kind.Matchmaker m) ≡ Plain → Given sent (role kind.Matchmaker m) i
      → Lands holds kept sent states (role kind.Matchmaker m) plain
      (matchmaker_row c (role kind.Matchmaker m) (durable_of matchmaker_rules (role kind.Matchmaker m) kept) tt i)
  pub replica : (kept : List KeptRecord) (sent : List Letter) (states : RoleId → State) (p : ℕ) (v : ReplicaVolatile) (i : Input)
      → known kept sent states → holds kept sent states → states (role kind.Replica p) ≡ ReplicaIn v → Given sent (role kind.Replica p) i
      → Lands holds kept sent states (role kind.Replica p) ReplicaIn
      (replica_row c (role kind.Replica p) (durable_of replica_rules (role kind.Replica p) kept) v i)
  -- A replica forgets values. (A snap that is cut after the renewal is this, and then a stop.)
  pub snap : (kept : List KeptRecord) (sent : List Letter) (states : RoleId → State) (p : ℕ) (v : ReplicaVolatile) (first : ℕ)
      → known kept sent states → holds kept sent states → states (role kind.Replica p) ≡ ReplicaIn v
      → replica_rules.snap c (role kind.Replica p) (durable_of replica_rules (role kind.Replica p) kept) v ≡ Some first
      → holds (snap_by (role kind.Replica p) first ∷ kept) sent states
  -- an acceptor or a reader puts its list anew
  pub acceptor_anew : (kept : List KeptRecord) (sent : List Letter) (states : RoleId → State) (a first : ℕ)
      → known kept sent states → holds kept sent states → states (role kind.Acceptor a) ≡ Plain
      → acceptor_rules.snap c (role kind.Acceptor a) (durable_of acceptor_rules (role kind.Acceptor a) kept) tt ≡ Some first
      → holds (snap_by (role kind.Acceptor a) first ∷ kept) sent states
  pub reader_anew : (kept : List KeptRecord) (sent : List Letter) (states : RoleId → State) (r first : ℕ) (v : ReaderVolatile)
      → known kept sent states → holds kept sent states → states (role kind.Reader r) ≡ ReaderIn v
      → reader_rules.snap c (role kind.Reader r) (durable_of reader_rules (role kind.Reader r) kept) v ≡ Some first
      → holds (snap_by (role kind.Reader r) first ∷ kept) sent states
  pub unbatcher : (kept : List KeptRecord) (sent : List Letter) (states : RoleId → State) (u : ℕ) (i : Input)
      → known kept sent states → holds kept sent states → states (role kind.Unbatcher u) ≡ Plain → Given sent (role kind.Unbatcher u) i
      → Lands holds kept sent states (role kind.Unbatcher u) plain (unbatcher_row c (role kind.Unbatcher u) tt tt i)
  pub reader : (kept : List KeptRecord) (sent : List Letter) (states : RoleId → State) (r : ℕ) (v : ReaderVolatile) (i : Input)
      → known kept sent states → holds kept sent states → states (role kind.Reader r) ≡ ReaderIn v → Given sent (role kind.Reader r) i
      → Lands holds kept sent states (role kind.Reader r) ReaderIn
      (reader_row c (role kind.Reader r) (durable_of reader_rules (role kind.Reader r) kept) v i)
  pub replacer : (kept : List KeptRecord) (sent : List Letter) (states : RoleId → State) (x : ℕ) (v : ReplacerVolatile) (i : Input)
      → known kept sent states → holds kept sent states → states (role kind.Replacer x) ≡ ReplacerIn v → Given sent (role kind.Replacer x) i
      → Lands holds kept sent states (role kind.Replacer x) ReplacerIn
      (replacer_row c (role kind.Replacer x) (durable_of replacer_rules (role kind.Replacer x) kept) v i)

-- nothing is known
abbrev pub anything : Property
anything kept sent states = Unit {0}

-- of how many values the client of a request has heard
abbrev pub heard_of : World → Option Token → ℕ
heard_of w None = 0
heard_of w (Some t) = heard_by t.client w.sent w.events

-- each request of these events that goes out is allowed
abbrev pub AllAllowed : (ℕ → Event → Type 0) → World → List Event → Type 0
AllAllowed Allowed w [] = Unit {0}
AllAllowed Allowed w (e ∷ es) = ((change w e).why ≡ why.Sent → Allowed (heard_of w (token_of e)) e) × AllAllowed Allowed (step w e) es

-- the property holds in a world and after each of these events
abbrev pub HoldsAlong : Property → World → List Event → Type 0
HoldsAlong holds w [] = HoldsIn holds w
HoldsAlong holds w (e ∷ es) = HoldsIn holds w × HoldsAlong holds (step w e) es

-- What the laws give: an event keeps the property, the property holds of a run that begins with it, and of every run.
abbrev pub StepLaw : Type 1
StepLaw =
    (c : Cluster) (Allowed : ℕ → Event → Type 0) (known holds : Property) → Laws c Allowed known holds
    → (w : World) → w.cluster ≡ c → HoldsIn known w → HoldsIn holds w
    → (e : Event) → ((change w e).why ≡ why.Sent → Allowed (heard_of w (token_of e)) e) → HoldsIn holds (step w e)

abbrev pub RunFromLaw : Type 1
RunFromLaw =
    (c : Cluster) (Allowed : ℕ → Event → Type 0) (known holds : Property) → Laws c Allowed known holds
    → (w : World) → w.cluster ≡ c → HoldsIn holds w
    → (es : List Event) → HoldsAlong known w es → AllAllowed Allowed w es → HoldsIn holds (run_from w es)

abbrev pub RunLaw : Type 1
RunLaw =
    (c : Cluster) (Allowed : ℕ → Event → Type 0) (known holds : Property) → Laws c Allowed known holds
    → (es : List Event) → HoldsAlong known (run c []) es → AllAllowed Allowed (run c []) es → HoldsIn holds (run c es)
