-- A leader goes on with another grid while a value has no answer yet: the next round asks no acceptor, and proposes the same value to the
-- new grid. The vote of the earlier round comes late and counts no more.
use Rattle.std.specs.Prelude.{◌++◌, true, List, [], ◌∷◌}
use Rattle.cx_letter.specs.Prelude.{Round, no_round, letter}
use Rattle.cx_base.specs.declared.why.Why.TheVariants as why
use Rattle.cx_letter.specs.declared.kept.Record.TheVariants as kept
use Rattle.cx_letter.specs.declared.message.Msg.TheVariants as msg
use Rattle.cx_model.specs.Examples.{Line, IsRun, two_acceptors, batcher, leader, proxy, acceptor, matchmaker, replica, make_round, first}
use Rattle.cx_model.specs.Examples.{single, put_a, batch_of, change, deliver, final_state, hold, ◌⇒◌, ◌keeping◌by◌, ◌sending◌}
use Rattle.cx_model.specs.Matchmaker.{entry}
use Rattle.cx_model.specs.ExamplesOnePut.{voted}

abbrev pub changed : Round
changed = make_round 1 0 1

abbrev pub story : List Line
story =
    voted ++
    change 0 (single 1) ⇒ why.Started
    keeping kept.Round changed (single 1) by leader 0
    sending letter (leader 0) (matchmaker 0) (msg.MatchA changed (single 1))  -- 8
    ∷ deliver 8 ⇒ why.Matched
    keeping kept.Match changed (single 1) by matchmaker 0
    sending letter (matchmaker 0) (leader 0) (msg.MatchB changed no_round (entry first (single 0) ∷ []))  -- 9
    ∷ deliver 9 ⇒ why.Bypassed
    sending letter (leader 0) (proxy 0) (msg.Propose changed (single 1) 0 0 (batch_of put_a))  -- 10
    sending letter (leader 0) (batcher 0) (msg.Leads changed)  -- 11
    ∷ deliver 10 ⇒ why.Asking
    sending letter (proxy 0) (acceptor 1) (msg.Phase2A changed 0 0 (batch_of put_a))  -- 12
    ∷ deliver 12 ⇒ why.Voted
    keeping kept.Vote changed 0 0 (batch_of put_a) by acceptor 1
    sending letter (acceptor 1) (proxy 0) (msg.Phase2B changed 0)  -- 13
    ∷ deliver 13 ⇒ why.Chosen
    sending letter (proxy 0) (replica 0) (msg.Chosen 0 (batch_of put_a))  -- 14
    sending letter (proxy 0) (leader 0) (msg.ChosenIn changed 0)  -- 15
    ∷ deliver 7 ⇒ why.Unasked
    ∷ []

abbrev pub ChangeAsksNobody : Type 0
ChangeAsksNobody = IsRun two_acceptors story (final_state (batch_of put_a ∷ []) (true ∷ []) (hold 0 [] ∷ []))
