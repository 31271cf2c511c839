-- A client with its script: up to a window of requests outstanding at a time.
use Rattle.std.specs.Prelude.{◌≡◌, ◌≤◌, ℕ, ◌+◌, Bool, true, false, ◌==◌, ◌&&◌, max, List, [], ◌∷◌, ◌++◌, drop, filter, length, map, take}
use Rattle.std.specs.Prelude.{Option, None, Some, IsTrue, if◌then◌else◌}
use Rattle.cx_role.specs.Prelude.{list_all, Cluster, Event, Client, RoleId, Why, Heard, Stranger, role, same_role, mark, mark_told, names}
use Rattle.cx_role.specs.Prelude.{Letter, Msg}
use Rattle.cx_base.specs.declared.why.Why.TheVariants.{Idle, Resent}
use Rattle.cx_client.specs.Asking.{one_further, set_back, shifted}
use Rattle.cx_client.specs.declared.asking.ClientOptions.{ClientOptions}
use Rattle.cx_client.specs.Window.{floor_for, has_number, is_outstanding, newly, outstanding, request_letters, without_request}
use Rattle.cx_letter.specs.declared.message.Msg.TheVariants as msg
use Rattle.cx_script.specs.Requests.{IsScript, asks}

-- A client, its requests, how many of them are completed, how many of the others may be outstanding at a time, and the greatest number
-- that an answer told it: of so many values it has heard. The completed requests come first, in the order in which they were completed;
-- then the others, in the order of their numbers. Where it asks others when it asks again, `shift` is how often it has done so since a
-- request of its was completed.
pub record ClientState : Type 0 where
  pub cluster : Cluster
  pub me : RoleId
  pub script : List Event
  pub done : ℕ
  pub window : ℕ
  pub heard : ℕ
  pub shift : Option ℕ

-- the uncompleted requests
abbrev pub left : ClientState → List Event
left s = drop s.done s.script

-- a client of the cluster with a script of its own, of which no more is completed than there is, and no more heard than a list has values
pub record IsClient (s : ClientState) : Type 0 where
  pub me : s.me ≡ role Client s.me.index
  pub completed : list_all (asks s.me.index) (take s.done s.script) ≡ true
  pub script : IsScript s.cluster s.me.index (left s)
  pub done : s.done ≤ length s.script
  pub some_window : 1 ≤ s.window
  pub window_fits : s.window ≤ 64
  pub heard : IsTrue (mark.fits s.heard)

-- a client at its beginning
abbrev pub client_opened : Cluster → RoleId → List Event → ClientOptions → ClientState
client_opened c me script options = record {
  cluster = c;
  me = me;
  script = script;
  done = 0;
  window = options.window;
  heard = 0;
  shift = if options.others then Some 0 else None;
}

abbrev pub is_finished : ClientState → Bool
is_finished s = s.done == length s.script

-- the result of a step: the word, the client after it, what is sent, and whether an outstanding request is completed
pub record ClientMoved : Type 0 where
  pub why : Why
  pub state : ClientState
  pub sends : List Letter
  pub completes : Bool

-- nothing changes, and nothing is sent
abbrev pub client_stays : Why → ClientState → ClientMoved
client_stays w s = record { why = w; state = s; sends = []; completes = false }

-- what is sent first: the outstanding requests
abbrev pub client_start : ClientState → List Letter
client_start s = request_letters s.heard (floor_for (left s)) (outstanding s.window (left s))

-- the client once the request of this number is completed
abbrev pub after_completion : ℕ → ClientState → ClientState
after_completion n s =
    record s {
      script = take s.done s.script ++ (filter (has_number n) (left s) ++ without_request n (left s));
      done = s.done + 1;
      shift = set_back s.shift;
    }

-- the request of this number is completed, and those that become outstanding are sent
abbrev pub client_completes : ℕ → ClientState → ClientMoved
client_completes n s =
    record {
      why = Heard;
      state = after_completion n s;
      sends = request_letters s.heard (floor_for (without_request n (left s))) (newly s.window n (left s));
      completes = true;
    }

-- the client once an answer told it this number
abbrev pub hearing : ℕ → ClientState → ClientState
hearing at s = record s { heard = max s.heard at }

-- an answer to the request of this number, of which the client has heard
abbrev pub client_hears : ClientState → ℕ → ClientMoved
client_hears s n = if is_outstanding s.window (left s) n then client_completes n s else client_stays Heard s

-- the number of an answer's request, none of another message
abbrev pub answer_number : Msg → Option ℕ
answer_number (msg.Answer seq at reply) = Some seq
answer_number (msg.ReadAnswer seq n text) = Some seq
answer_number other = None

-- a message that tells this number, of which the client hears where it is an answer, whether or not that completes a request
abbrev pub client_told : ClientState → ℕ → Option ℕ → ClientMoved
client_told s at None = client_stays Stranger s
client_told s at (Some n) = client_hears (hearing at s) n

-- a datagram; it is a stranger's where it isn't to this client, is no answer, or names what lies outside the cluster
abbrev pub client_takes : ClientState → Letter → ClientMoved
client_takes s d =
    if same_role d.to s.me && names s.cluster d then client_told s (mark_told d.msg) (answer_number d.msg) else client_stays Stranger s

-- the client once it asks again
abbrev pub again : ClientState → ClientState
again s = record s { shift = one_further s.shift }

-- these requests are sent again
abbrev pub again_letters : ClientState → List Event → List Letter
again_letters s es = request_letters s.heard (floor_for (left s)) (map (shifted s.cluster s.shift) es)

-- a tick sends the outstanding requests again
abbrev pub client_waits : ClientState → List Event → ClientMoved
client_waits s [] = client_stays Idle s
client_waits s (e ∷ es) = record { why = Resent; state = again s; sends = again_letters (again s) (e ∷ es); completes = false }

abbrev pub client_ticks : ClientState → ClientMoved
client_ticks s = client_waits s (outstanding s.window (left s))

-- a step of the code is this one: its word, whether it completes a request, the client after it, and what it sends
pub record Moves (moved : ClientMoved) (w : Why) (completed : Bool) (after : ClientState) (sent : List Letter) : Type 0 where
  pub why : w ≡ moved.why
  pub completes : completed ≡ moved.completes
  pub state : after ≡ moved.state
  pub sends : sent ≡ moved.sends
