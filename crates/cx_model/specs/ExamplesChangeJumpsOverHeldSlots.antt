-- While a leader goes on with another grid a later leader has a value chosen and held, in a slot that the first one never proposed at. The
-- next round proposes nothing there, and gives a batch the slot after it. The acceptor has promised the later round.
use Rattle.std.specs.Prelude.{true, List, [], ◌∷◌, codes}
use Rattle.std.proofs.Common.{lit≤}
use Rattle.cx_letter.specs.Prelude.{Cluster, Command, Okay, Round, no_round, letter}
use Rattle.cx_base.specs.declared.event.Event.TheVariants as event
use Rattle.cx_base.specs.declared.why.Why.TheVariants as why
use Rattle.cx_letter.specs.declared.kept.Record.TheVariants as kept
use Rattle.cx_letter.specs.declared.message.Msg.TheVariants as msg
use Rattle.cx_model.specs.Examples.{Line, IsRun, two_leaders, client, batcher, leader, proxy, acceptor, matchmaker, replica, unbatcher}
use Rattle.cx_model.specs.Examples.{make_round, first, single, make_put, put_a, batch_of, answered, lead, change, deliver, final_state}
use Rattle.cx_model.specs.Examples.{hold, make_pair, ◌⇒◌, ◌keeping◌by◌, ◌sending◌}
use Rattle.cx_model.specs.Matchmaker.{entry}

abbrev pub cluster : Cluster
cluster =
    record two_leaders {
      batchers = 2;
      some_batcher = lit≤ tt;
      batchers_fit = lit≤ tt;
    }

abbrev pub changed : Round
changed = make_round 1 0 1

abbrev pub later : Round
later = make_round 1 1 0

abbrev pub put_b : Command
put_b = make_put 0 2 (codes "b") (codes "2")

abbrev pub story : List Line
story =
    lead 0 (single 0) ⇒ why.Started
    keeping kept.Round first (single 0) by leader 0
    sending letter (leader 0) (matchmaker 0) (msg.MatchA first (single 0))  -- 0
    ∷ deliver 0 ⇒ why.Matched
    keeping kept.Match first (single 0) by matchmaker 0
    sending letter (matchmaker 0) (leader 0) (msg.MatchB first no_round [])  -- 1
    ∷ deliver 1 ⇒ why.Leads
    sending letter (leader 0) (batcher 0) (msg.Leads first)  -- 2
    sending letter (leader 0) (batcher 1) (msg.Leads first)  -- 3
    ∷ change 0 (single 1) ⇒ why.Started
    keeping kept.Round changed (single 1) by leader 0
    sending letter (leader 0) (matchmaker 0) (msg.MatchA changed (single 1))  -- 4
    ∷ deliver 4 ⇒ why.Matched
    keeping kept.Match changed (single 1) by matchmaker 0
    sending letter (matchmaker 0) (leader 0) (msg.MatchB changed no_round (entry first (single 0) ∷ []))  -- 5
    ∷ lead 1 (single 1) ⇒ why.Started
    keeping kept.Round later (single 1) by leader 1
    sending letter (leader 1) (matchmaker 0) (msg.MatchA later (single 1))  -- 6
    ∷ deliver 6 ⇒ why.Matched
    keeping kept.Match later (single 1) by matchmaker 0
    sending letter (matchmaker 0) (leader 1) (msg.MatchB later no_round (entry first (single 0) ∷ entry changed (single 1) ∷ []))  -- 7
    ∷ deliver 7 ⇒ why.Phase1
    sending letter (leader 1) (acceptor 0) (msg.Phase1A later)  -- 8
    sending letter (leader 1) (acceptor 1) (msg.Phase1A later)  -- 9
    ∷ deliver 8 ⇒ why.Promised
    keeping kept.Promise later by acceptor 0
    sending letter (acceptor 0) (leader 1) (msg.Phase1B later 0 [])  -- 10
    ∷ deliver 9 ⇒ why.Promised
    keeping kept.Promise later by acceptor 1
    sending letter (acceptor 1) (leader 1) (msg.Phase1B later 0 [])  -- 11
    ∷ deliver 10 ⇒ why.Counted
    ∷ deliver 11 ⇒ why.Leads
    sending letter (leader 1) (batcher 0) (msg.Leads later)  -- 12
    sending letter (leader 1) (batcher 1) (msg.Leads later)  -- 13
    ∷ deliver 12 ⇒ why.Leads
    ∷ event.Write put_a 0 ⇒ why.Sent
    sending letter (client 0) (batcher 0) (msg.Submit put_a)  -- 14
    ∷ deliver 14 ⇒ why.Batched
    sending letter (batcher 0) (leader 1) (msg.Batch (put_a ∷ []))  -- 15
    ∷ deliver 15 ⇒ why.Proposed
    sending letter (leader 1) (proxy 0) (msg.Propose later (single 1) 0 0 (batch_of put_a))  -- 16
    ∷ deliver 16 ⇒ why.Asking
    sending letter (proxy 0) (acceptor 1) (msg.Phase2A later 0 0 (batch_of put_a))  -- 17
    ∷ deliver 17 ⇒ why.Voted
    keeping kept.Vote later 0 0 (batch_of put_a) by acceptor 1
    sending letter (acceptor 1) (proxy 0) (msg.Phase2B later 0)  -- 18
    ∷ deliver 18 ⇒ why.Chosen
    sending letter (proxy 0) (replica 0) (msg.Chosen 0 (batch_of put_a))  -- 19
    sending letter (proxy 0) (leader 1) (msg.ChosenIn later 0)  -- 20
    ∷ deliver 19 ⇒ why.Applied
    keeping kept.Log (batch_of put_a ∷ []) by replica 0
    sending letter (replica 0) (unbatcher 0) (msg.Results 0 (answered 0 1 1 Okay ∷ []))  -- 21
    ∷ event.Tick (replica 0) ⇒ why.Resent
    sending letter (replica 0) (leader 0) (msg.Held 1)  -- 22
    sending letter (replica 0) (leader 1) (msg.Held 1)  -- 23
    ∷ deliver 22 ⇒ why.Held
    ∷ deliver 5 ⇒ why.Bypassed
    sending letter (leader 0) (batcher 0) (msg.Leads changed)  -- 24
    sending letter (leader 0) (batcher 1) (msg.Leads changed)  -- 25
    ∷ deliver 25 ⇒ why.Leads
    ∷ event.Write put_b 1 ⇒ why.Sent
    sending letter (client 0) (batcher 1) (msg.Submit put_b)  -- 26
    ∷ deliver 26 ⇒ why.Batched
    sending letter (batcher 1) (leader 0) (msg.Batch (put_b ∷ []))  -- 27
    ∷ deliver 27 ⇒ why.Proposed
    sending letter (leader 0) (proxy 0) (msg.Propose changed (single 1) 1 1 (batch_of put_b))  -- 28
    ∷ deliver 28 ⇒ why.Asking
    sending letter (proxy 0) (acceptor 1) (msg.Phase2A changed 1 1 (batch_of put_b))  -- 29
    ∷ deliver 29 ⇒ why.Nack
    sending letter (acceptor 1) (leader 0) (msg.Nack changed later)  -- 30
    ∷ []

abbrev pub ChangeJumpsOverHeldSlots : Type 0
ChangeJumpsOverHeldSlots =
    IsRun cluster story (final_state (batch_of put_a ∷ []) (true ∷ []) (hold 1 (make_pair (codes "a") (codes "1") ∷ []) ∷ []))
