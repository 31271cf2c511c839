-- A client asks a replica in a session. What it heard before is the mark: a replica that holds less defers the request until it has
-- executed as much. Another key under the same number is stale. An answer whose delivery came too early, before it was sent, is not heard.
use Rattle.std.specs.Prelude.{◌++◌, true, List, [], ◌∷◌, codes, None, Some}
use Rattle.cx_letter.specs.Prelude.{Okay, letter}
use Rattle.cx_base.specs.declared.event.Event.TheVariants as event
use Rattle.cx_base.specs.declared.why.Why.TheVariants as why
use Rattle.cx_letter.specs.declared.kept.Record.TheVariants as kept
use Rattle.cx_letter.specs.declared.message.Msg.TheVariants as msg
use Rattle.cx_model.specs.Examples.{Line, IsRun, client, replica, unbatcher, put_a, batch_of, deliver, final_state, hold, ◌⇒◌, ◌keeping◌by◌}
use Rattle.cx_model.specs.Examples.{◌sending◌}
use Rattle.cx_model.specs.ExamplesDeferredRead.{cluster, applied, each}

-- the answer is sent; nothing is heard, so a replica that holds nothing answers at once
abbrev pub heard_nothing : List Line
heard_nothing =
    deliver 11 ⇒ why.Unbatched
    sending letter (unbatcher 0) (client 0) (msg.Answer 1 1 Okay)  -- 12
    ∷ event.Session 0 2 1 1 (codes "a") ⇒ why.Sent
    sending letter (client 0) (replica 1) (msg.SessRead 2 0 (codes "a"))  -- 13
    ∷ deliver 13 ⇒ why.Answered
    sending letter (replica 1) (client 0) (msg.ReadAnswer 2 0 None)  -- 14
    ∷ []

-- the answer is heard, and the next request waits for as much
abbrev pub story : List Line
story =
    applied ++ heard_nothing ++
    deliver 12 ⇒ why.Heard
    ∷ event.Session 0 3 2 1 (codes "a") ⇒ why.Sent
    sending letter (client 0) (replica 1) (msg.SessRead 3 1 (codes "a"))  -- 15
    ∷ deliver 15 ⇒ why.Deferred
    ∷ deliver 9 ⇒ why.Applied
    keeping kept.Log (batch_of put_a ∷ []) by replica 1
    sending letter (replica 1) (client 0) (msg.ReadAnswer 3 1 (Some (codes "1")))  -- 16
    ∷ event.Session 0 3 2 1 (codes "b") ⇒ why.Stale
    ∷ event.Read 0 3 2 0 1 (codes "a") ⇒ why.Stale
    ∷ []

-- the same, but the answer's number is delivered before there is a datagram of this number
abbrev pub too_early : List Line
too_early =
    applied ++
    deliver 12 ⇒ why.Absent
    ∷ heard_nothing

pub record Session : Type 0 where
  pub waits : IsRun cluster story (final_state (batch_of put_a ∷ []) (true ∷ []) (each ∷ each ∷ []))
  pub not_heard : IsRun cluster too_early (final_state (batch_of put_a ∷ []) (true ∷ []) (each ∷ hold 0 [] ∷ []))
