-- The requests of a client that are outstanding, among those that are left: uncompleted, in the order of their numbers.
use Rattle.std.specs.Prelude.{ℕ, ◌+◌, ◌-◌, ◌==◌, Bool, not, nat_le, List, [], ◌∷◌, filter, take, flat_map}
use Rattle.cx_model.specs.Prelude.{list_any, Event, request, Letter}
use Rattle.cx_base.specs.declared.event.Event.TheVariants as event
use Rattle.cx_script.specs.Requests.{number_of}

-- the number of the first request, 0 of none
abbrev pub first_of : List Event → ℕ
first_of [] = 0
first_of (e ∷ es) = number_of e

-- the floor that is told while these are left: the client is done with every number below the first
abbrev pub floor_for : List Event → ℕ
floor_for left = first_of left - 1

-- whether a number is near enough to the first one that the floor may be told with it
abbrev pub is_near : ℕ → Event → Bool
is_near first e = nat_le (number_of e) (first + 63)

-- the requests that are outstanding: the first ones, but none too far above the first
abbrev pub outstanding : ℕ → List Event → List Event
outstanding window left = filter (is_near (first_of left)) (take window left)

abbrev pub has_number : ℕ → Event → Bool
has_number n e = number_of e == n

-- whether the request of this number is outstanding
abbrev pub is_outstanding : ℕ → List Event → ℕ → Bool
is_outstanding window left n = list_any (has_number n) (outstanding window left)

-- those that are left once a number is completed
abbrev pub without_request : ℕ → List Event → List Event
without_request n left = filter (λ (e : Event). not (has_number n e)) left

-- those that become outstanding then
abbrev pub newly : ℕ → ℕ → List Event → List Event
newly window n left = filter (λ (e : Event). not (is_outstanding window left (number_of e))) (outstanding window (without_request n left))

-- the same request, with this floor
abbrev pub event_with_floor : ℕ → Event → Event
event_with_floor floor (event.Write command batcher) = event.Write (record command { floor = floor }) batcher
event_with_floor floor (event.Read client seq before reader replica key) = event.Read client seq floor reader replica key
event_with_floor floor (event.Session client seq before replica key) = event.Session client seq floor replica key
event_with_floor floor other = other

-- the datagrams of requests of a client that has heard of so many values, each telling this floor, one after the other
abbrev pub request_letters : ℕ → ℕ → List Event → List Letter
request_letters heard floor es = flat_map (λ (e : Event). request heard (event_with_floor floor e)) es
