use Rattle.cx_letter.specs.Prelude.{◌≡◌, ◌≤◌, ◌++◌, drop, filter, length, map, nat_lt, true, list_all, is_valid_event, Event}
use Rattle.cx_client.specs.Asking.{shifted}
use Rattle.cx_client.specs.Window.{request_letters, event_with_floor}
use Rattle.cx_script.specs.Requests.{number_of}
use Rattle.cx_client.proofs.sending.send_above.Given as goal

abbrev pub invariant-loop-event : goal.invariant-loop-event
invariant-loop-event l =
    (l.out.list ++ request_letters l.heard l.floor
    (map (shifted l.cluster l.shift) (filter (λ (e : Event). nat_lt l.sent (number_of e)) (drop l.event-index l.requests))) ≡ l.fn.out.list
    ++ request_letters l.heard l.floor (map (shifted l.cluster l.shift) (filter (λ (e : Event). nat_lt l.sent (number_of e)) l.requests)))
    × (length (drop l.event-index l.requests) ≤ l.out.spare)
    × (list_all (λ (e : Event). is_valid_event (event_with_floor l.floor e)) (drop l.event-index l.requests) ≡ true)
