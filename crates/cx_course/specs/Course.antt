-- Hosted roles with the record of their run, and one step of a role: what it is in a schedule, and what is seen of it outside.
use Rattle.std.specs.Prelude.{ℕ, Bool, true, List, [], ◌∷◌, ◌++◌, length, map, Option, None, Some, slice_get, slice_set, if◌then◌else◌}
use Rattle.std.specs.Prelude.{flat_map, option_map}
use Rattle.cx_role.specs.Prelude.{option_map_or, Whole, Event, Kind, RoleId, role, same_role, Letter, Msg}
use Rattle.cx_base.specs.declared.event.Event.TheVariants as event
use Rattle.cx_base.specs.declared.role.Kind.TheVariants as kind
use Rattle.cx_client.specs.Client.{left}
use Rattle.cx_client.specs.Window.{floor_for}
use Rattle.cx_course.specs.declared.doing.Doing.{Doing}
use Rattle.cx_course.specs.declared.doing.Doing.TheVariants.{Begin, Give, Snap}
use Rattle.cx_course.specs.Action.{Action, Answered, Filled, Noted, Took, step_actions}
use Rattle.cx_course.specs.Hosted.{Hosted, ClientAt, Step, does, name_of}
use Rattle.cx_letter.specs.declared.input.Input.TheVariants as input
use Rattle.cx_letter.specs.declared.message.Msg.TheVariants as msg
use Rattle.cx_record.specs.Lines.{events_text}
use Rattle.cx_record.specs.Numbers.{Recorded, blank, has_room, with_step}

-- the hosted roles, and, where their node records, what it knows of its record
pub record Course : Type 0 where
  pub hosted : List Hosted
  pub recorded : Option Recorded

-- these roles, of a node that records or not
abbrev pub course_of : Bool → List Hosted → Course
course_of recording hs = record { hosted = hs; recorded = if recording then Some blank else None }

-- The result of a part of a run: what follows, and what was done, in order.
pub record Moved (S : Type 0) : Type 0 where
  pub next : S
  pub actions : List Action

-- nothing is done
abbrev pub stays : {S : Type 0} → S → Moved S
stays s = record { next = s; actions = [] }

-- one thing after another
abbrev pub then_do : {S T : Type 0} → Moved S → (S → Moved T) → Moved T
then_do m f = record { next = (f m.next).next; actions = m.actions ++ (f m.next).actions }

-- a take of the link gives this, and then comes the rest
abbrev pub took : {S : Type 0} → Option (List ℕ) → Moved S → Moved S
took what m = record { next = m.next; actions = Took what ∷ m.actions }

-- ---- what a step is in a schedule

abbrev pub is_a : Kind → RoleId → Bool
is_a k me = same_role me (role k me.index)

-- The step's own event: the delivery of a datagram, the tick of a role that is no client, the order that a leader gets, the snap of a
-- replica. A client's beginning and its ticks are none.
abbrev pub own_event : RoleId → Doing → List Event
own_event me Begin = []
own_event me (Give number (input.Take d)) = event.Deliver number Whole ∷ []
own_event me (Give number input.Tick) = if is_a kind.Client me then [] else event.Tick me ∷ []
own_event me (Give number (input.Order order)) = if is_a kind.Leader me then event.Order me.index order Whole ∷ [] else []
own_event me Snap = if is_a kind.Replica me then event.Snap me Whole ∷ [] else []

-- the request that a client sends by this datagram, with the floor that it tells
abbrev pub request_by : ℕ → RoleId → RoleId → Msg → List Event
request_by floor from to (msg.Submit command) = event.Write command to.index ∷ []
request_by floor from to (msg.ReadReq seq replica key) = event.Read from.index seq floor to.index replica key ∷ []
request_by floor from to (msg.SessRead seq n key) = event.Session from.index seq floor to.index key ∷ []
request_by floor from to other = []

-- the requests that a hosted role sends by these datagrams, if it is a client
abbrev pub requests_by : Hosted → List Letter → List Event
requests_by (ClientAt s) sends = flat_map (λ (d : Letter). request_by (floor_for (left s)) d.from d.to d.msg) sends
requests_by other sends = []

-- a step in a schedule: its own event, and then the requests that are sent in it
abbrev pub step_events : Hosted → Doing → List Event
step_events h what = own_event (name_of h) what ++ requests_by (does h what).next (does h what).sends

-- ---- a step

-- What is seen of a step: its changes and datagrams, and then the role's text, or in a record the lines of the step.
abbrev pub seen : Option Recorded → List Event → Step → List Action
seen None events s = step_actions s.kept s.sends s.text []
seen (Some r) events s = step_actions s.kept s.sends (events_text events) (map Noted events ++ map Answered s.answers)

-- whether the record, if there is one, has room for the lines of these events
abbrev pub has_room_for : Option Recorded → List Event → Bool
has_room_for r events = option_map_or (has_room (length events)) r true

abbrev pub made : ℕ → Course → List Event → Step → Moved Course
made i s events step =
    record {
      next = record { hosted = slice_set s.hosted i step.next; recorded = option_map (with_step (length events) step.sends) s.recorded };
      actions = seen s.recorded events step;
    }

-- where its lines don't fit the record any more, a step isn't made
abbrev pub made_if : Bool → ℕ → Course → List Event → Step → Moved Course
made_if fit i s events step = if fit then made i s events step else record { next = s; actions = Filled ∷ [] }

abbrev pub found_does : ℕ → Course → Doing → Option Hosted → Moved Course
found_does i s what None = stays s
found_does i s what (Some h) = made_if (has_room_for s.recorded (step_events h what)) i s (step_events h what) (does h what)

-- the hosted role at a place does something
unfoldable pub does_at : ℕ → Doing → Course → Moved Course
does_at i what s = found_does i s what (slice_get s.hosted i)
