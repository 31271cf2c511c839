-- What a client has heard: the greatest number in the answers that were delivered to it.
use Rattle.std.specs.Prelude.{ℕ, max, Bool, true, false, if◌then◌else◌, List, [], ◌∷◌, slice_get, Option, None, Some}
use Rattle.cx_letter.specs.Prelude.{Event, Happened, Client, Why, role, same_role, Letter}
use Rattle.cx_base.specs.declared.event.Event.TheVariants as event
use Rattle.cx_base.specs.declared.why.Why.TheVariants as why
use Rattle.cx_letter.specs.declared.message.Msg.{Msg}
use Rattle.cx_letter.specs.declared.message.Msg.TheVariants as msg

-- the number that an answer tells a client, so many values of the list it knows of; 0 of another message
abbrev pub mark_told : Msg → ℕ
mark_told (msg.Answer seq at reply) = at
mark_told (msg.ReadAnswer seq n found) = n
mark_told other = 0

abbrev pub told_to : ℕ → Option Letter → ℕ
told_to client None = 0
told_to client (Some d) = if same_role d.to (role Client client) then mark_told d.msg else 0

abbrev pub is_heard : Why → Bool
is_heard why.Heard = true
is_heard other = false

-- the number that a delivery tells this client, of these datagrams; 0 of another event
abbrev pub delivered_to : ℕ → List Letter → Event → ℕ
delivered_to client sent (event.Deliver n cut) = told_to client (slice_get sent n)
delivered_to client sent other = 0

abbrev pub heard_at : ℕ → List Letter → Happened → ℕ
heard_at client sent h = if is_heard h.why then delivered_to client sent h.event else 0

-- the greatest of all that was delivered to a client
abbrev pub heard_by : ℕ → List Letter → List Happened → ℕ
heard_by client sent [] = 0
heard_by client sent (h ∷ events) = max (heard_at client sent h) (heard_by client sent events)
