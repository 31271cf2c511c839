-- Of two replicas the first forgets its value only when the other one, which may ask it for that, has told that it goes on behind it. What
-- the other one asked for before comes late, and is answered no more.
use Rattle.std.specs.Prelude.{◌++◌, true, List, [], ◌∷◌, codes}
use Rattle.cx_letter.specs.Prelude.{Okay, Whole, letter}
use Rattle.cx_base.specs.declared.event.Event.TheVariants as event
use Rattle.cx_base.specs.declared.why.Why.TheVariants as why
use Rattle.cx_letter.specs.declared.kept.Record.TheVariants as kept
use Rattle.cx_letter.specs.declared.message.Msg.TheVariants as msg
use Rattle.cx_model.specs.Examples.{Line, IsRun, leader, proxy, replica, unbatcher, first, put_a, batch_of, answered, deliver, final_state}
use Rattle.cx_model.specs.Examples.{hold, make_pair, Holding, ◌⇒◌, ◌keeping◌by◌, ◌snapping◌by◌, ◌sending◌}
use Rattle.cx_model.specs.ExamplesDeferredRead.{cluster}
use Rattle.cx_model.specs.ExamplesOnePut.{voted}

abbrev pub story : List Line
story =
    voted ++
    deliver 7 ⇒ why.Chosen
    sending letter (proxy 0) (replica 0) (msg.Chosen 0 (batch_of put_a))  -- 8
    sending letter (proxy 0) (replica 1) (msg.Chosen 0 (batch_of put_a))  -- 9
    sending letter (proxy 0) (leader 0) (msg.ChosenIn first 0)  -- 10
    ∷ deliver 8 ⇒ why.Applied
    keeping kept.Log (batch_of put_a ∷ []) by replica 0
    sending letter (replica 0) (unbatcher 0) (msg.Results 0 (answered 0 1 1 Okay ∷ []))  -- 11
    ∷ event.Tick (replica 1) ⇒ why.Resent
    sending letter (replica 1) (leader 0) (msg.Held 0)  -- 12
    sending letter (replica 1) (replica 0) (msg.Fetch 0)  -- 13
    ∷ event.Snap (replica 0) Whole ⇒ why.Idle
    ∷ deliver 9 ⇒ why.Applied
    keeping kept.Log (batch_of put_a ∷ []) by replica 1
    ∷ event.Tick (replica 1) ⇒ why.Resent
    sending letter (replica 1) (leader 0) (msg.Held 1)  -- 14
    sending letter (replica 1) (replica 0) (msg.Fetch 1)  -- 15
    ∷ deliver 15 ⇒ why.Idle
    ∷ event.Snap (replica 0) Whole ⇒ why.Snapped
    snapping 1 by replica 0
    ∷ deliver 13 ⇒ why.Past
    ∷ event.Snap (replica 1) Whole ⇒ why.Idle
    ∷ []

-- what each replica holds at the end
abbrev pub each : Holding
each = hold 1 (make_pair (codes "a") (codes "1") ∷ [])

abbrev pub SnapshotWaits : Type 0
SnapshotWaits = IsRun cluster story (final_state (batch_of put_a ∷ []) (true ∷ []) (each ∷ each ∷ []))
