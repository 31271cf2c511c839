-- What requests ask, as bytes, and what is asked of the requests that were sent.
use Rattle.std.specs.Prelude.{◌&&◌, not, ℕ, Bool, List, [], ◌∷◌, ◌++◌, None, Option, length, if◌then◌else◌}
use Rattle.cx_model.specs.Prelude.{Op, Put, Del, App, Event, Happened, Token, floor_in, is_past, same_request, same_token, token_of}
use Rattle.cx_model.specs.Prelude.{was_sent}
use Rattle.cx_base.specs.declared.event.Event.TheVariants as event

-- what an operation asks, as bytes: which one it is, and its parts
abbrev pub asked_op : Op → List ℕ
asked_op (Put key text) = 1 ∷ length key ∷ (key ++ text)
asked_op (Del key) = 2 ∷ key
asked_op (App key text) = 3 ∷ length key ∷ (key ++ text)

-- what a request asks, as bytes; of another event none
abbrev pub asked : Event → List ℕ
asked (event.Write command batcher) = asked_op command.op
asked (event.Read client seq floor reader replica key) = 0 ∷ key
asked (event.Session client seq floor replica key) = 4 ∷ key
asked other = []

-- the client and the number of a request that was sent
abbrev pub sent_token : Happened → Option Token
sent_token h = if was_sent h then token_of h.event else None

-- the tests of `is_stale` in the model on an event: it is a request that was sent, of this client and number; one that asks
-- something else; one of this client, with a floor that this number isn't above
abbrev pub has_token : Token → Happened → Bool
has_token t h = was_sent h && same_token t (token_of h.event)

abbrev pub asks_another : Token → Event → Happened → Bool
asks_another t e h = was_sent h && same_token t (token_of h.event) && not (same_request e h.event)

abbrev pub has_floor_past : Token → Happened → Bool
has_floor_past t h = was_sent h && is_past t (token_of h.event) (floor_in h.event)
