-- A leader that crashed while it went on with another grid has given up that round.
use Rattle.std.specs.Prelude.{List, [], ◌∷◌}
use Rattle.cx_letter.specs.Prelude.{Round, no_round, letter}
use Rattle.cx_base.specs.declared.event.Event.TheVariants as event
use Rattle.cx_base.specs.declared.why.Why.TheVariants as why
use Rattle.cx_letter.specs.declared.kept.Record.TheVariants as kept
use Rattle.cx_letter.specs.declared.message.Msg.TheVariants as msg
use Rattle.cx_model.specs.Examples.{Line, IsRun, two_leaders, batcher, leader, matchmaker, make_round, first, single, lead, change, deliver}
use Rattle.cx_model.specs.Examples.{final_state, hold, ◌⇒◌, ◌keeping◌by◌, ◌sending◌}
use Rattle.cx_model.specs.Matchmaker.{entry}

abbrev pub changed : Round
changed = make_round 1 0 1

abbrev pub story : List Line
story =
    lead 0 (single 0) ⇒ why.Started
    keeping kept.Round first (single 0) by leader 0
    sending letter (leader 0) (matchmaker 0) (msg.MatchA first (single 0))  -- 0
    ∷ deliver 0 ⇒ why.Matched
    keeping kept.Match first (single 0) by matchmaker 0
    sending letter (matchmaker 0) (leader 0) (msg.MatchB first no_round [])  -- 1
    ∷ deliver 1 ⇒ why.Leads
    sending letter (leader 0) (batcher 0) (msg.Leads first)  -- 2
    ∷ change 0 (single 1) ⇒ why.Started
    keeping kept.Round changed (single 1) by leader 0
    sending letter (leader 0) (matchmaker 0) (msg.MatchA changed (single 1))  -- 3
    ∷ event.Crash (leader 0) ⇒ why.Crashed
    ∷ event.Restart (leader 0) ⇒ why.Opened
    ∷ deliver 3 ⇒ why.Matched
    keeping kept.Match changed (single 1) by matchmaker 0
    sending letter (matchmaker 0) (leader 0) (msg.MatchB changed no_round (entry first (single 0) ∷ []))  -- 4
    ∷ deliver 4 ⇒ why.Old
    ∷ []

abbrev pub ChangeIsForgotten : Type 0
ChangeIsForgotten = IsRun two_leaders story (final_state [] [] (hold 0 [] ∷ []))
