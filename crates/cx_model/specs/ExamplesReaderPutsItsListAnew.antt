-- A reader without a turn has nothing to put anew. One with two turns puts the last one in the place of both, and goes on with the next. If
-- it crashes inside the renewal and that is lost, its list has both.
use Rattle.std.specs.Prelude.{◌≡◌, List, [], ◌∷◌, codes}
use Rattle.cx_letter.specs.Prelude.{Kept, Torn, Whole, letter}
use Rattle.cx_base.specs.declared.event.Event.TheVariants as event
use Rattle.cx_base.specs.declared.why.Why.TheVariants as why
use Rattle.cx_letter.specs.declared.kept.Record.TheVariants as kept
use Rattle.cx_letter.specs.declared.message.Msg.TheVariants as msg
use Rattle.cx_model.specs.Examples.{Line, IsRun, run_of_lines, one_of_each, client, matchmaker, reader, deliver, final_state, hold, ◌⇒◌}
use Rattle.cx_model.specs.Examples.{◌keeping◌by◌, ◌snapping◌by◌, ◌sending◌}
use Rattle.cx_model.specs.Reader.{asking, reader_rules}
use Rattle.cx_model.specs.World.{list_of}

abbrev pub story : List Line
story =
    event.Snap (reader 0) Whole ⇒ why.Idle
    ∷ event.Read 0 1 0 0 0 (codes "a") ⇒ why.Sent
    sending letter (client 0) (reader 0) (msg.ReadReq 1 0 (codes "a"))  -- 0
    ∷ event.Deliver 0 Kept ⇒ why.Kept
    keeping kept.Turn 1 by reader 0
    ∷ event.Restart (reader 0) ⇒ why.Opened
    ∷ deliver 0 ⇒ why.Started
    keeping kept.Turn 2 by reader 0
    sending letter (reader 0) (matchmaker 0) (msg.MatchRead (asking 0 2))  -- 1
    ∷ event.Snap (reader 0) Torn ⇒ why.Torn
    ∷ event.Restart (reader 0) ⇒ why.Opened
    ∷ event.Snap (reader 0) Whole ⇒ why.Snapped
    snapping 0 by reader 0
    ∷ deliver 0 ⇒ why.Started
    keeping kept.Turn 3 by reader 0
    sending letter (reader 0) (matchmaker 0) (msg.MatchRead (asking 0 3))  -- 2
    ∷ []

pub record ReaderPutsItsListAnew : Type 0 where
  pub whole : IsRun one_of_each story (final_state [] [] (hold 0 [] ∷ []))
  pub list : list_of reader_rules (reader 0) (run_of_lines one_of_each story).kept ≡ kept.Turn 2 ∷ kept.Turn 3 ∷ []
