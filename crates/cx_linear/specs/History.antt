-- The history of a run: of its commands and of its reads at readers. A read in a session is no call of it, since less is promised of it.
use Rattle.std.specs.Prelude.{ℕ, Bool, false, ◌&&◌, not, if◌then◌else◌, List, [], ◌∷◌, ◌++◌, slice_get, Option, None, Some}
use Rattle.cx_letter.specs.Prelude.{list_any, Cluster, Event, Happened, Token, Letter, Why}
use Rattle.cx_base.specs.declared.event.Event.TheVariants as event
use Rattle.cx_base.specs.declared.why.Why.TheVariants as why
use Rattle.cx_letter.specs.declared.message.Msg.{Msg}
use Rattle.cx_letter.specs.declared.message.Msg.TheVariants as msg
use Rattle.cx_model.specs.History.{was_asked}
use Rattle.cx_model.specs.Reader.{make_token}
use Rattle.cx_model.specs.Request.{same_read}
use Rattle.cx_model.specs.World.{World, run}
use Rattle.cx_linear.specs.Linearizable.{Operation, ClientCall, CallEvent, IsLinearizable}
use Rattle.cx_linear.specs.Linearizable.{Update, Get, Replied, Found, Invoke, Respond}

-- a client's call of this number
abbrev pub call : ℕ → ℕ → Operation → ClientCall
call client seq operation = record { token = make_token client seq; operation = operation }

-- what a message tells a client of its number
abbrev pub told_by : ℕ → Msg → Option CallEvent
told_by client (msg.Answer seq at reply) = Some (Respond (make_token client seq) (Replied reply))
told_by client (msg.ReadAnswer seq n found) = Some (Respond (make_token client seq) (Found found))
told_by client other = None

abbrev pub told_in : Option Letter → Option CallEvent
told_in None = None
told_in (Some d) = told_by d.to.index d.msg

-- What an event is to the clients: a request that was sent invokes its call, a delivery that a client heard is a response.
abbrev pub seen_as : List Letter → Why → Event → Option CallEvent
seen_as sent why.Sent (event.Write command batcher) = Some (Invoke (call command.client command.seq (Update command.op)))
seen_as sent why.Sent (event.Read client seq floor reader replica key) = Some (Invoke (call client seq (Get key)))
seen_as sent why.Heard (event.Deliver n cut) = told_in (slice_get sent n)
seen_as sent other e = None

-- whether an event, or one of these, asked in a session with this token
abbrev pub is_session_of : Token → Why → Event → Bool
is_session_of t why.Sent (event.Session client seq floor replica key) = same_read t (make_token client seq)
is_session_of t other e = false

abbrev pub was_session : Token → List Happened → Bool
was_session t events = list_any (λ (h : Happened). is_session_of t h.why h.event) events

abbrev pub is_response_to : Token → Option CallEvent → Bool
is_response_to t (Some (Respond u r)) = same_read t u
is_response_to t other = false

-- whether a client heard an answer with this token
abbrev pub was_answered : List Letter → Token → List Happened → Bool
was_answered sent t events = list_any (λ (h : Happened). is_response_to t (seen_as sent h.why h.event)) events

-- Whether it counts after these events: a request that is sent again is the same call, and of a call's responses only the first one counts.
-- What a session is answered is no response.
abbrev pub counts : List Letter → List Happened → CallEvent → Bool
counts sent before (Invoke x) = not (was_asked x.token before)
counts sent before (Respond t r) = not (was_session t before) && not (was_answered sent t before)

abbrev pub if_counts : List Letter → List Happened → Option CallEvent → List CallEvent
if_counts sent before None = []
if_counts sent before (Some x) = if counts sent before x then x ∷ [] else []

-- what events are to the clients, after those before them
abbrev pub history_from : List Letter → List Happened → List Happened → List CallEvent
history_from sent before [] = []
history_from sent before (h ∷ later) =
    if_counts sent before (seen_as sent h.why h.event) ++ history_from sent (before ++ h ∷ []) later

abbrev pub history_of : World → List CallEvent
history_of w = history_from w.sent [] w.events

-- what clients see of a run is linearizable
abbrev pub IsLinearizableRun : Cluster → List Event → Type 0
IsLinearizableRun c es = IsLinearizable (history_of (run c es))
