-- The world as contracts see it: its seats in lists, since a value can have no function, its histories, and whether a step was cut off.
-- `world_of` is the model's world.
use Rattle.std.specs.Prelude.{◌≡◌, ℕ, Bool, true, List, [], ◌++◌, Option, None, Some, length, slice_get, option_to_list}
use Rattle.cx_role.specs.Prelude.{list_all, is_valid_event, count_of, role, Cluster, Event, Happened, Kind, RoleId, Why, AcceptorDurable}
use Rattle.cx_role.specs.Prelude.{acceptor_rules, BatcherVolatile, batcher_rules, heard_by, LeaderDurable, LeaderVolatile, leader_rules}
use Rattle.cx_role.specs.Prelude.{MatchmakerDurable, matchmaker_rules, ProxyVolatile, proxy_rules, ReaderDurable, ReaderVolatile}
use Rattle.cx_role.specs.Prelude.{reader_rules, ReplacerDurable, ReplacerVolatile, replacer_rules, ReplicaDurable, ReplicaVolatile}
use Rattle.cx_role.specs.Prelude.{replica_rules, Rules, Running, State, Down, BatcherIn, LeaderIn, ProxyIn, ReplicaIn, ReaderIn, ReplacerIn}
use Rattle.cx_role.specs.Prelude.{plain, state_of, unbatcher_rules, World, Change, change, step, run, event_list, Letter, KeptRecord}
use Rattle.cx_base.specs.declared.role.Kind.TheVariants as kind
use Rattle.cx_history.specs.Begins.{IsPrefix}
use Rattle.cx_trace.specs.declared.effect.Effect.{Effect}
use Rattle.cx_world.specs.Heard.{Hears, heard_below}
use Rattle.cx_world.specs.Seat.{Seat, AreSeats, volatile_of}
use Rattle.cx_world.specs.declared.turned.Changed.{Changed}
use Rattle.cx_world.specs.declared.change.Seats.{Seats}

-- each history begins with that from before
pub record BeginWith (old new : World) : Type 0 where
  pub events : IsPrefix old.events new.events
  pub kept : IsPrefix old.kept new.kept
  pub sent : IsPrefix old.sent new.sent

-- What a step tells of itself: the event's number from 1, the role, the word, and which datagrams were sent.
abbrev pub effect_of : World → Event → Effect
effect_of w e =
    record {
      event = length (step w e).events;
      who = (change w e).who;
      why = (change w e).why;
      first = length w.sent;
      end = length (step w e).sent;
    }

-- the seats, by kind
pub record SeatLists : Type 0 where
  pub batchers : List (Seat (Running (Unit {0}) BatcherVolatile))
  pub leaders : List (Seat (Running LeaderDurable LeaderVolatile))
  pub proxies : List (Seat (Running (Unit {0}) ProxyVolatile))
  pub acceptors : List (Seat (Running AcceptorDurable (Unit {0})))
  pub matchmakers : List (Seat (Running MatchmakerDurable (Unit {0})))
  pub replicas : List (Seat (Running ReplicaDurable ReplicaVolatile))
  pub unbatchers : List (Seat (Running (Unit {0}) (Unit {0})))
  pub readers : List (Seat (Running ReaderDurable ReaderVolatile))
  pub replacers : List (Seat (Running ReplacerDurable ReplacerVolatile))

abbrev pub lists_of : Seats → SeatLists
lists_of seats =
    record {
      batchers = seats.batchers.items;
      leaders = seats.leaders.items;
      proxies = seats.proxies.items;
      acceptors = seats.acceptors.items;
      matchmakers = seats.matchmakers.items;
      replicas = seats.replicas.items;
      unbatchers = seats.unbatchers.items;
      readers = seats.readers.items;
      replacers = seats.replacers.items;
    }

-- the volatile part of the role at a seat, if there is one and it runs
abbrev pub volatile_in : {D V : Type 0} → Option (Seat (Running D V)) → Option V
volatile_in None = None
volatile_in (Some seat) = volatile_of (λ s. s) seat.role

abbrev pub state_at : {D V : Type 0} → (V → State) → List (Seat (Running D V)) → ℕ → State
state_at make seats i = state_of make (volatile_in (slice_get seats i))

abbrev pub kind_state : SeatLists → ℕ → Kind → State
kind_state seats i kind.Client = Down
kind_state seats i kind.Batcher = state_at BatcherIn seats.batchers i
kind_state seats i kind.Leader = state_at LeaderIn seats.leaders i
kind_state seats i kind.Proxy = state_at ProxyIn seats.proxies i
kind_state seats i kind.Acceptor = state_at plain seats.acceptors i
kind_state seats i kind.Matchmaker = state_at plain seats.matchmakers i
kind_state seats i kind.Replica = state_at ReplicaIn seats.replicas i
kind_state seats i kind.Unbatcher = state_at plain seats.unbatchers i
kind_state seats i kind.Reader = state_at ReaderIn seats.readers i
kind_state seats i kind.Replacer = state_at ReplacerIn seats.replacers i

-- the states of all roles, by name
abbrev pub seat_roles : SeatLists → RoleId → State
seat_roles seats a = kind_state seats a.index a.kind

pub record WorldState : Type 0 where
  pub cluster : Cluster
  pub seats : SeatLists
  pub events : List Happened
  pub kept : List KeptRecord
  pub sent : List Letter
  pub spent : Bool

-- the world of the model
abbrev pub world_of : WorldState → World
world_of s = record { cluster = s.cluster; roles = seat_roles s.seats; events = s.events; kept = s.kept; sent = s.sent }

-- a seat for each name of a kind, with the state of its role, and its list by the history of changes; a client has none
pub record AreOfKind {D V : Type 0} (rules : Rules D V) (make : V → State) (c : Cluster) (k : Kind) (roles : RoleId → State)
    (kept : List KeptRecord) (seats : List (Seat (Running D V))) : Type 0 where
  pub count : length seats ≡ count_of c k
  pub states : (i : ℕ) → roles (role k i) ≡ state_at make seats i
  pub lists : AreSeats rules c k kept seats

abbrev pub HasKind : Cluster → (RoleId → State) → List KeptRecord → SeatLists → Kind → Type 0
HasKind c roles kept seats kind.Client = (i : ℕ) → roles (role kind.Client i) ≡ Down
HasKind c roles kept seats kind.Batcher = AreOfKind batcher_rules BatcherIn c kind.Batcher roles kept seats.batchers
HasKind c roles kept seats kind.Leader = AreOfKind leader_rules LeaderIn c kind.Leader roles kept seats.leaders
HasKind c roles kept seats kind.Proxy = AreOfKind proxy_rules ProxyIn c kind.Proxy roles kept seats.proxies
HasKind c roles kept seats kind.Acceptor = AreOfKind acceptor_rules plain c kind.Acceptor roles kept seats.acceptors
HasKind c roles kept seats kind.Matchmaker = AreOfKind matchmaker_rules plain c kind.Matchmaker roles kept seats.matchmakers
HasKind c roles kept seats kind.Replica = AreOfKind replica_rules ReplicaIn c kind.Replica roles kept seats.replicas
HasKind c roles kept seats kind.Unbatcher = AreOfKind unbatcher_rules plain c kind.Unbatcher roles kept seats.unbatchers
HasKind c roles kept seats kind.Reader = AreOfKind reader_rules ReaderIn c kind.Reader roles kept seats.readers
HasKind c roles kept seats kind.Replacer = AreOfKind replacer_rules ReplacerIn c kind.Replacer roles kept seats.replacers

-- the seats of a world
pub record HasSeats (c : Cluster) (roles : RoleId → State) (kept : List KeptRecord) (seats : SeatLists) : Type 0 where
  pub each : (k : Kind) → HasKind c roles kept seats k

-- a change was made to the seats
pub record IsChange (w : World) (ch : Change) (who : Option RoleId) (u : Why) (r : Option KeptRecord) (new : SeatLists)
    (sent : List Letter) : Type 0 where
  pub who_is : who ≡ ch.who
  pub why : u ≡ ch.why
  pub kept : option_to_list r ≡ ch.kept
  pub sends : sent ≡ ch.sends
  pub seats : HasSeats w.cluster ch.roles (w.kept ++ ch.kept) new

-- the same, of every world that has these seats
abbrev pub Changes : (World → Change) → Seats → Changed → Seats → List Letter → Type 0
Changes change old changed new sends = (w : World) → HasSeats w.cluster w.roles w.kept (lists_of old)
    → IsChange w (change w) changed.who changed.why changed.kept (lists_of new) sends

-- the same, of every world that has these histories of datagrams and events too
abbrev pub ChangesAfter : (World → Change) → List Letter → List Happened → Seats → Changed → Seats → List Letter → Type 0
ChangesAfter change sent events old changed new sends = (w : World) → w.sent ≡ sent → w.events ≡ events
    → HasSeats w.cluster w.roles w.kept (lists_of old) → IsChange w (change w) changed.who changed.why changed.kept (lists_of new) sends

-- the same, of every world that has this history of events and in which this client has heard of so many values: whatever its seats are,
-- they stay
abbrev pub AsksAfter : (World → Change) → ℕ → ℕ → List Happened → Changed → List Letter → Type 0
AsksAfter change client heard events changed sends = (w : World) → w.events ≡ events → heard ≡ heard_by client w.sent w.events
    → (seats : SeatLists) → HasSeats w.cluster w.roles w.kept seats → IsChange w (change w) changed.who changed.why changed.kept seats sends

-- whether each of these events is one that the world takes
abbrev pub are_taken : List Happened → Bool
are_taken events = list_all is_valid_event (event_list events)

-- what is true of every world that isn't spent
pub record IsUnspentWorld (w : World) (own : SeatLists) (numbers : List ℕ) (sends : List Letter) : Type 0 where
  pub out : sends ≡ []
  pub seats : HasSeats w.cluster w.roles w.kept own
  pub hears : Hears numbers w.sent w.events
  pub hears_sent : list_all (heard_below (length w.sent)) w.events ≡ true
  pub ran : w ≡ run w.cluster (event_list w.events)
  pub taken : are_taken w.events ≡ true
