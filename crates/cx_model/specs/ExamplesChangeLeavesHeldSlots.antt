-- While a leader goes on with another grid it hears that its first slot is held: the next round proposes from the second one on. It goes on
-- once more, and proposes what both of its rounds before proposed there.
use Rattle.std.specs.Prelude.{◌++◌, true, List, [], ◌∷◌, codes}
use Rattle.cx_letter.specs.Prelude.{Command, Round, no_round, letter}
use Rattle.cx_base.specs.declared.event.Event.TheVariants as event
use Rattle.cx_base.specs.declared.why.Why.TheVariants as why
use Rattle.cx_letter.specs.declared.kept.Record.TheVariants as kept
use Rattle.cx_letter.specs.declared.message.Msg.TheVariants as msg
use Rattle.cx_model.specs.Examples.{Line, IsRun, two_acceptors, client, batcher, leader, proxy, matchmaker, replica, make_round, first}
use Rattle.cx_model.specs.Examples.{single, make_put, put_a, batch_of, change, deliver, final_state, hold, make_pair, ◌⇒◌, ◌keeping◌by◌}
use Rattle.cx_model.specs.Examples.{◌sending◌}
use Rattle.cx_model.specs.Matchmaker.{entry}
use Rattle.cx_model.specs.ExamplesOnePut.{story as put_held}

abbrev pub changed : Round
changed = make_round 1 0 1

abbrev pub changed_again : Round
changed_again = make_round 1 0 2

abbrev pub put_b : Command
put_b = make_put 0 2 (codes "b") (codes "2")

abbrev pub put_c : Command
put_c = make_put 0 3 (codes "c") (codes "3")

abbrev pub story : List Line
story =
    put_held ++
    event.Write put_b 0 ⇒ why.Sent
    sending letter (client 0) (batcher 0) (msg.Submit put_b)  -- 12
    ∷ deliver 12 ⇒ why.Batched
    sending letter (batcher 0) (leader 0) (msg.Batch (put_b ∷ []))  -- 13
    ∷ deliver 13 ⇒ why.Proposed
    sending letter (leader 0) (proxy 0) (msg.Propose first (single 0) 1 0 (batch_of put_b))  -- 14
    ∷ change 0 (single 1) ⇒ why.Started
    keeping kept.Round changed (single 1) by leader 0
    sending letter (leader 0) (matchmaker 0) (msg.MatchA changed (single 1))  -- 15
    ∷ event.Tick (replica 0) ⇒ why.Resent
    sending letter (replica 0) (leader 0) (msg.Held 1)  -- 16
    ∷ deliver 16 ⇒ why.Held
    ∷ deliver 15 ⇒ why.Matched
    keeping kept.Match changed (single 1) by matchmaker 0
    sending letter (matchmaker 0) (leader 0) (msg.MatchB changed no_round (entry first (single 0) ∷ []))  -- 17
    ∷ deliver 17 ⇒ why.Bypassed
    sending letter (leader 0) (proxy 0) (msg.Propose changed (single 1) 1 1 (batch_of put_b))  -- 18
    sending letter (leader 0) (batcher 0) (msg.Leads changed)  -- 19
    ∷ event.Write put_c 0 ⇒ why.Sent
    sending letter (client 0) (batcher 0) (msg.Submit put_c)  -- 20
    ∷ deliver 20 ⇒ why.Batched
    sending letter (batcher 0) (leader 0) (msg.Batch (put_c ∷ []))  -- 21
    ∷ deliver 21 ⇒ why.Proposed
    sending letter (leader 0) (proxy 0) (msg.Propose changed (single 1) 2 1 (batch_of put_c))  -- 22
    ∷ change 0 (single 0) ⇒ why.Started
    keeping kept.Round changed_again (single 0) by leader 0
    sending letter (leader 0) (matchmaker 0) (msg.MatchA changed_again (single 0))  -- 23
    ∷ deliver 23 ⇒ why.Matched
    keeping kept.Match changed_again (single 0) by matchmaker 0
    sending letter (matchmaker 0) (leader 0)
    (msg.MatchB changed_again no_round (entry first (single 0) ∷ entry changed (single 1) ∷ []))  -- 24
    ∷ deliver 24 ⇒ why.Bypassed
    sending letter (leader 0) (proxy 0) (msg.Propose changed_again (single 0) 1 1 (batch_of put_b))  -- 25
    sending letter (leader 0) (proxy 0) (msg.Propose changed_again (single 0) 2 1 (batch_of put_c))  -- 26
    sending letter (leader 0) (batcher 0) (msg.Leads changed_again)  -- 27
    ∷ []

abbrev pub ChangeLeavesHeldSlots : Type 0
ChangeLeavesHeldSlots =
    IsRun two_acceptors story (final_state (batch_of put_a ∷ []) (true ∷ []) (hold 1 (make_pair (codes "a") (codes "1") ∷ []) ∷ []))
