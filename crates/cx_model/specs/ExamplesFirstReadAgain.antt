-- The first read of the running batch is asked for again: the batch begins anew, under the next turn and with the read that waited. Answers
-- to the turn before do not count. Another running read that is asked for again changes nothing, and one that waits waits on.
use Rattle.std.specs.Prelude.{◌++◌, List, [], ◌∷◌, codes}
use Rattle.cx_letter.specs.Prelude.{no_round, letter}
use Rattle.cx_base.specs.declared.why.Why.TheVariants as why
use Rattle.cx_letter.specs.declared.kept.Record.TheVariants as kept
use Rattle.cx_letter.specs.declared.message.Msg.TheVariants as msg
use Rattle.cx_model.specs.Examples.{Line, IsRun, matchmaker, replica, reader, deliver, final_state, hold, ◌⇒◌, ◌keeping◌by◌, ◌sending◌}
use Rattle.cx_model.specs.Reader.{asking, make_token}
use Rattle.cx_model.specs.ExamplesLaterReadsWait.{cluster, begun}

abbrev pub story : List Line
story =
    begun ++
    deliver 0 ⇒ why.Again
    keeping kept.Turn 2 by reader 0
    sending letter (reader 0) (matchmaker 0) (msg.MatchRead (asking 0 2))  -- 4
    ∷ deliver 1 ⇒ why.Same
    ∷ deliver 2 ⇒ why.Queued
    ∷ deliver 2 ⇒ why.Again
    ∷ deliver 3 ⇒ why.Asked
    sending letter (matchmaker 0) (reader 0) (msg.MatchReadAck (asking 0 1) no_round [])  -- 5
    ∷ deliver 5 ⇒ why.Unasked
    ∷ deliver 4 ⇒ why.Asked
    sending letter (matchmaker 0) (reader 0) (msg.MatchReadAck (asking 0 2) no_round [])  -- 6
    ∷ deliver 6 ⇒ why.Sent
    keeping kept.Turn 3 by reader 0
    sending letter (reader 0) (replica 0) (msg.Read (make_token 0 1) 0 (codes "a"))  -- 7
    sending letter (reader 0) (replica 0) (msg.Read (make_token 1 1) 0 (codes "a"))  -- 8
    sending letter (reader 0) (matchmaker 0) (msg.MatchRead (asking 0 3))  -- 9
    ∷ []

abbrev pub FirstReadAgain : Type 0
FirstReadAgain = IsRun cluster story (final_state [] [] (hold 0 [] ∷ []))
