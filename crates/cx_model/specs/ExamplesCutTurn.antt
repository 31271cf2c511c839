-- A reader crashes inside the append of its turn. Where the turn was lost, nothing was asked under it, and it is the next one; where it was
-- kept it is used up, though nobody was asked. A tick asks again under the same turn.
use Rattle.std.specs.Prelude.{List, [], ◌∷◌, codes}
use Rattle.cx_letter.specs.Prelude.{Torn, Kept, letter}
use Rattle.cx_base.specs.declared.event.Event.TheVariants as event
use Rattle.cx_base.specs.declared.why.Why.TheVariants as why
use Rattle.cx_letter.specs.declared.kept.Record.TheVariants as kept
use Rattle.cx_letter.specs.declared.message.Msg.TheVariants as msg
use Rattle.cx_model.specs.Examples.{Line, IsRun, one_of_each, client, matchmaker, reader, deliver, final_state, hold, ◌⇒◌, ◌keeping◌by◌}
use Rattle.cx_model.specs.Examples.{◌sending◌}
use Rattle.cx_model.specs.Reader.{asking}

abbrev pub story : List Line
story =
    event.Read 0 1 0 0 0 (codes "a") ⇒ why.Sent
    sending letter (client 0) (reader 0) (msg.ReadReq 1 0 (codes "a"))  -- 0
    ∷ event.Deliver 0 Torn ⇒ why.Torn
    ∷ event.Restart (reader 0) ⇒ why.Opened
    ∷ event.Deliver 0 Kept ⇒ why.Kept
    keeping kept.Turn 1 by reader 0
    ∷ event.Restart (reader 0) ⇒ why.Opened
    ∷ deliver 0 ⇒ why.Started
    keeping kept.Turn 2 by reader 0
    sending letter (reader 0) (matchmaker 0) (msg.MatchRead (asking 0 2))  -- 1
    ∷ event.Tick (reader 0) ⇒ why.Resent
    sending letter (reader 0) (matchmaker 0) (msg.MatchRead (asking 0 2))  -- 2
    ∷ []

abbrev pub CutTurn : Type 0
CutTurn = IsRun one_of_each story (final_state [] [] (hold 0 [] ∷ []))
