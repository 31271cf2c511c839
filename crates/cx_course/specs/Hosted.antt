-- A hosted role, and what it does with what it is given.
use Rattle.std.specs.Prelude.{ℕ, Bool, true, false, List, [], ◌∷◌, Option, if◌then◌else◌, option_map}
use Rattle.cx_role.specs.Prelude.{Kind, RoleId, Letter, Input, Append, Renewal, AcceptorDurable, acceptor_rules, BatcherVolatile}
use Rattle.cx_role.specs.Prelude.{batcher_rules, LeaderDurable, LeaderVolatile, leader_rules, is_idle, MatchmakerDurable, matchmaker_rules}
use Rattle.cx_role.specs.Prelude.{ProxyVolatile, proxy_rules, ReaderDurable, ReaderVolatile, reader_rules, ReplacerDurable}
use Rattle.cx_role.specs.Prelude.{ReplacerVolatile, replacer_rules, ReplicaDurable, ReplicaVolatile, replica_renewed, replica_rules, Rules}
use Rattle.cx_role.specs.Prelude.{Running, outcome_of, running_after, unbatcher_rules, snap_of, snapped_by}
use Rattle.cx_base.specs.declared.role.Kind.TheVariants as kind
use Rattle.cx_letter.specs.declared.input.Input.TheVariants as input
use Rattle.cx_client.specs.Client.{ClientState, ClientMoved, client_start, client_takes, client_ticks}
use Rattle.cx_trace.specs.Trace.{told_text}
use Rattle.cx_course.specs.declared.doing.Doing.{Doing}
use Rattle.cx_course.specs.declared.doing.Doing.TheVariants.{Begin, Give, Snap}
use Rattle.cx_course.specs.Changing.{StoreChange, changed_by}

-- a role that a node hosts, by its kind
pub data Hosted : Type 0 where
  ClientAt : (s : ClientState) → Hosted
  BatcherAt : (s : Running (Unit {0}) BatcherVolatile) → Hosted
  LeaderAt : (s : Running LeaderDurable LeaderVolatile) → Hosted
  ProxyAt : (s : Running (Unit {0}) ProxyVolatile) → Hosted
  AcceptorAt : (s : Running AcceptorDurable (Unit {0})) → Hosted
  MatchmakerAt : (s : Running MatchmakerDurable (Unit {0})) → Hosted
  ReplicaAt : (s : Running ReplicaDurable ReplicaVolatile) → Hosted
  UnbatcherAt : (s : Running (Unit {0}) (Unit {0})) → Hosted
  ReaderAt : (s : Running ReaderDurable ReaderVolatile) → Hosted
  ReplacerAt : (s : Running ReplacerDurable ReplacerVolatile) → Hosted

abbrev pub name_of : Hosted → RoleId
name_of (ClientAt s) = s.me
name_of (BatcherAt s) = s.me
name_of (LeaderAt s) = s.me
name_of (ProxyAt s) = s.me
name_of (AcceptorAt s) = s.me
name_of (MatchmakerAt s) = s.me
name_of (ReplicaAt s) = s.me
name_of (UnbatcherAt s) = s.me
name_of (ReaderAt s) = s.me
name_of (ReplacerAt s) = s.me

-- the kind of role that it is
abbrev pub kind_at : Hosted → Kind
kind_at (ClientAt s) = kind.Client
kind_at (BatcherAt s) = kind.Batcher
kind_at (LeaderAt s) = kind.Leader
kind_at (ProxyAt s) = kind.Proxy
kind_at (AcceptorAt s) = kind.Acceptor
kind_at (MatchmakerAt s) = kind.Matchmaker
kind_at (ReplicaAt s) = kind.Replica
kind_at (UnbatcherAt s) = kind.Unbatcher
kind_at (ReaderAt s) = kind.Reader
kind_at (ReplacerAt s) = kind.Replacer

-- The result of a step of a role: what follows, the changes of its store, the datagrams that are sent, the text that is
-- printed where the node doesn't record, and the datagram that a client takes as the answer to a request.
pub record Step : Type 0 where
  pub next : Hosted
  pub kept : List StoreChange
  pub sends : List Letter
  pub text : List ℕ
  pub answers : List Letter

-- nothing is done
abbrev pub rests : Hosted → Step
rests h = record { next = h; kept = []; sends = []; text = []; answers = [] }

-- a role of the protocol does what its row gives
abbrev pub by_row : {D V : Type 0} → Rules D V → (Running D V → Hosted) → Running D V → Input → Step
by_row rules make s i =
    record {
      next = make (running_after rules s (outcome_of rules s i));
      kept = changed_by s.me (option_map Append (outcome_of rules s i).kept);
      sends = (outcome_of rules s i).sends;
      text = [];
      answers = [];
    }

-- the result of a client's move
abbrev pub by_client : ClientMoved → List ℕ → List Letter → Step
by_client m text answers = record { next = ClientAt m.state; kept = []; sends = m.sends; text = text; answers = answers }

-- the line of a datagram that completes a client's request
abbrev pub printed : ClientMoved → RoleId → Letter → List ℕ
printed m me d = if m.completes then told_text me.index d.msg else []

-- the datagram, if it completes a client's request
abbrev pub answer_in : ClientMoved → Letter → List Letter
answer_in m d = if m.completes then d ∷ [] else []

abbrev pub client_given : ClientState → Input → Step
client_given s (input.Take d) = by_client (client_takes s d) (printed (client_takes s d) s.me d) (answer_in (client_takes s d) d)
client_given s input.Tick = by_client (client_ticks s) [] []
client_given s (input.Order order) = rests (ClientAt s)

-- a hosted role takes an input
abbrev pub given : Hosted → Input → Step
given (ClientAt s) i = client_given s i
given (BatcherAt s) i = by_row batcher_rules BatcherAt s i
given (LeaderAt s) i = by_row leader_rules LeaderAt s i
given (ProxyAt s) i = by_row proxy_rules ProxyAt s i
given (AcceptorAt s) i = by_row acceptor_rules AcceptorAt s i
given (MatchmakerAt s) i = by_row matchmaker_rules MatchmakerAt s i
given (ReplicaAt s) i = by_row replica_rules ReplicaAt s i
given (UnbatcherAt s) i = by_row unbatcher_rules UnbatcherAt s i
given (ReaderAt s) i = by_row reader_rules ReaderAt s i
given (ReplacerAt s) i = by_row replacer_rules ReplacerAt s i

-- a client sends its outstanding requests; another role has nothing to begin with
abbrev pub starting_step : Hosted → Step
starting_step (ClientAt s) = record { next = ClientAt s; kept = []; sends = client_start s; text = []; answers = [] }
starting_step other = rests other

-- a replica forgets the values below a slot, if there is one, and its list is put anew without them
abbrev pub by_snap : Running ReplicaDurable ReplicaVolatile → Option ℕ → Step
by_snap s first =
    record {
      next = ReplicaAt (snapped_by replica_rules s first);
      kept = changed_by s.me (option_map (λ b. Renewal (replica_renewed s.durable b)) first);
      sends = [];
      text = [];
      answers = [];
    }

-- a replica snaps; another role has nothing to forget
abbrev pub snapped : Hosted → Step
snapped (ReplicaAt s) = by_snap s (snap_of replica_rules s)
snapped other = rests other

-- what a hosted role does
unfoldable pub does : Hosted → Doing → Step
does h Begin = starting_step h
does h (Give number i) = given h i
does h Snap = snapped h

-- whether it is a leader that doesn't lead, and isn't about to
abbrev pub is_idle_leader : Hosted → Bool
is_idle_leader (LeaderAt s) = is_idle s.volatile.mode
is_idle_leader other = false

-- whether it may take a step: a role whose append failed may not
abbrev pub is_live_role : Hosted → Bool
is_live_role (ClientAt s) = true
is_live_role (BatcherAt s) = s.live
is_live_role (LeaderAt s) = s.live
is_live_role (ProxyAt s) = s.live
is_live_role (AcceptorAt s) = s.live
is_live_role (MatchmakerAt s) = s.live
is_live_role (ReplicaAt s) = s.live
is_live_role (UnbatcherAt s) = s.live
is_live_role (ReaderAt s) = s.live
is_live_role (ReplacerAt s) = s.live
