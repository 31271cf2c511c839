-- A leader goes on with another grid, and the matchmaker refuses: a later round is recorded. The leader gives up, and can only lead anew,
-- in a round that asks the acceptors.
use Rattle.std.specs.Prelude.{◌++◌, true, List, [], ◌∷◌}
use Rattle.cx_letter.specs.Prelude.{Round, no_round, letter}
use Rattle.cx_base.specs.declared.why.Why.TheVariants as why
use Rattle.cx_field.specs.declared.parts.NackReason.TheVariants as nack
use Rattle.cx_letter.specs.declared.kept.Record.TheVariants as kept
use Rattle.cx_letter.specs.declared.message.Msg.TheVariants as msg
use Rattle.cx_model.specs.Examples.{Line, IsRun, two_leaders, batcher, leader, proxy, acceptor, matchmaker, make_round, first, single}
use Rattle.cx_model.specs.Examples.{put_a, batch_of, make_vote, lead, change, deliver, final_state, hold, ◌⇒◌, ◌keeping◌by◌, ◌sending◌}
use Rattle.cx_model.specs.Matchmaker.{entry}
use Rattle.cx_model.specs.ExamplesOnePut.{voted}

abbrev pub changed : Round
changed = make_round 1 0 1

abbrev pub later : Round
later = make_round 1 1 0

abbrev pub anew : Round
anew = make_round 2 0 0

abbrev pub story : List Line
story =
    voted ++
    change 0 (single 1) ⇒ why.Started
    keeping kept.Round changed (single 1) by leader 0
    sending letter (leader 0) (matchmaker 0) (msg.MatchA changed (single 1))  -- 8
    ∷ lead 1 (single 1) ⇒ why.Started
    keeping kept.Round later (single 1) by leader 1
    sending letter (leader 1) (matchmaker 0) (msg.MatchA later (single 1))  -- 9
    ∷ deliver 9 ⇒ why.Matched
    keeping kept.Match later (single 1) by matchmaker 0
    sending letter (matchmaker 0) (leader 1) (msg.MatchB later no_round (entry first (single 0) ∷ []))  -- 10
    ∷ deliver 8 ⇒ why.Later
    sending letter (matchmaker 0) (leader 0) (msg.MatchNack changed nack.Later later)  -- 11
    ∷ deliver 11 ⇒ why.Nacked
    ∷ change 0 (single 1) ⇒ why.Idle
    ∷ lead 0 (single 0) ⇒ why.Started
    keeping kept.Round anew (single 0) by leader 0
    sending letter (leader 0) (matchmaker 0) (msg.MatchA anew (single 0))  -- 12
    ∷ deliver 12 ⇒ why.Matched
    keeping kept.Match anew (single 0) by matchmaker 0
    sending letter (matchmaker 0) (leader 0) (msg.MatchB anew no_round (entry first (single 0) ∷ entry later (single 1) ∷ []))  -- 13
    ∷ deliver 13 ⇒ why.Phase1
    sending letter (leader 0) (acceptor 0) (msg.Phase1A anew)  -- 14
    sending letter (leader 0) (acceptor 1) (msg.Phase1A anew)  -- 15
    ∷ deliver 14 ⇒ why.Promised
    keeping kept.Promise anew by acceptor 0
    sending letter (acceptor 0) (leader 0) (msg.Phase1B anew 0 (make_vote first 0 (batch_of put_a) ∷ []))  -- 16
    ∷ deliver 15 ⇒ why.Promised
    keeping kept.Promise anew by acceptor 1
    sending letter (acceptor 1) (leader 0) (msg.Phase1B anew 0 [])  -- 17
    ∷ deliver 16 ⇒ why.Counted
    ∷ deliver 17 ⇒ why.Leads
    sending letter (leader 0) (proxy 0) (msg.Propose anew (single 0) 0 0 (batch_of put_a))  -- 18
    sending letter (leader 0) (batcher 0) (msg.Leads anew)  -- 19
    ∷ []

abbrev pub RefusedChange : Type 0
RefusedChange = IsRun two_leaders story (final_state (batch_of put_a ∷ []) (true ∷ []) (hold 0 [] ∷ []))
