-- What a client sends, and when a datagram completes a request.
use Rattle.std.specs.Prelude.{◌≡◌, ℕ, ◌+◌, ◌==◌, ◌&&◌, max, Bool, true, nat_lt, List, ◌∷◌, ◌++◌, take, Some, if◌then◌else◌}
use Rattle.cx_role.specs.Prelude.{list_all, Event, same_role, mark_told, Member, names, request, Letter, Msg}
use Rattle.cx_client.specs.Asking.{set_back}
use Rattle.cx_client.specs.Client.{ClientState, answer_number, left}
use Rattle.cx_client.specs.Window.{floor_for, outstanding, event_with_floor, without_request}
use Rattle.cx_letter.specs.declared.message.Msg.TheVariants as msg
use Rattle.cx_script.specs.Requests.{number_of}

-- all datagrams are from this client, with their names in the cluster
pub record AreFromClient (s : ClientState) (ds : List Letter) : Type 0 where
  pub own : list_all (λ (d : Letter). same_role d.from s.me) ds ≡ true
  pub named : list_all (names s.cluster) ds ≡ true

-- a datagram answers an outstanding request: it is to this client, has the request's number, and its names lie in the cluster
pub record IsAnswerToRequest (s : ClientState) (d : Letter) : Type 0 where
  pub request : Event
  pub outstanding : Member request (outstanding s.window (left s))
  pub number : answer_number d.msg ≡ Some (number_of request)
  pub received : same_role d.to s.me ≡ true
  pub named : names s.cluster d ≡ true

-- How many values a client has heard of once it takes a datagram: the greatest number that an answer told it, also one that completes
-- nothing. A stranger's datagram tells it nothing.
abbrev pub heard_after : ClientState → Letter → ℕ
heard_after s d = if same_role d.to s.me && names s.cluster d then max s.heard (mark_told d.msg) else s.heard

-- a datagram answers an outstanding request, which then is behind those completed before it; the others stay as they are, and the client
-- asks those of its lines again
pub record CompletesRequest (s : ClientState) (d : Letter) (after : ClientState) : Type 0 where
  pub answers : IsAnswerToRequest s d
  pub state : after ≡ record s {
    script = take s.done s.script ++ answers.request ∷ without_request (number_of answers.request) (left s);
    done = s.done + 1;
    heard = heard_after s d;
    shift = set_back s.shift;
  }

-- whether a command, if it is one, tells this floor
abbrev pub msg_has_floor : ℕ → Msg → Bool
msg_has_floor floor (msg.Submit command) = command.floor == floor
msg_has_floor floor other = true

-- each command that is sent tells the number of the first uncompleted request, less 1, and no uncompleted number is at or below it
pub record TellsFloor (s : ClientState) (ds : List Letter) : Type 0 where
  pub told : list_all (λ (d : Letter). msg_has_floor (floor_for (left s)) d.msg) ds ≡ true
  pub below : list_all (λ (e : Event). nat_lt (floor_for (left s)) (number_of e)) (left s) ≡ true

-- whether a session, if it is one, tells of so many values
abbrev pub tells_heard : ℕ → Msg → Bool
tells_heard heard (msg.SessRead seq n key) = n == heard
tells_heard heard other = true

-- each session that is sent tells of how many values the client has heard
abbrev pub TellsHeard : ClientState → List Letter → Type 0
TellsHeard s ds = list_all (λ (d : Letter). tells_heard s.heard d.msg) ds ≡ true

-- a request is sent, telling the floor of the client, and what it has heard
abbrev pub IsSent : ClientState → List Letter → Event → Type 0
IsSent s ds e = (d : Letter) → Member d (request s.heard (event_with_floor (floor_for (left s)) e)) → Member d ds
