-- Two of three matchmakers are enough, and a row has two acceptors. An answer that comes twice counts once, at a leader, a proxy leader
-- and a reader, and a read waits for a row of each grid.
use Rattle.std.specs.Prelude.{true, List, [], ◌∷◌, codes, Some}
use Rattle.std.proofs.Common.{lit≤}
use Rattle.cx_letter.specs.Prelude.{Cluster, Okay, Round, Shape, make_grid, no_round, letter}
use Rattle.cx_base.specs.declared.event.Event.TheVariants as event
use Rattle.cx_base.specs.declared.why.Why.TheVariants as why
use Rattle.cx_letter.specs.declared.kept.Record.TheVariants as kept
use Rattle.cx_letter.specs.declared.message.Msg.TheVariants as msg
use Rattle.cx_model.specs.Examples.{Line, IsRun, one_of_each, client, batcher, leader, proxy, acceptor, matchmaker, replica, unbatcher}
use Rattle.cx_model.specs.Examples.{reader, make_round, first, put_a, batch_of, make_vote, answered, lead, deliver, final_state, hold}
use Rattle.cx_model.specs.Examples.{make_pair, ◌⇒◌, ◌keeping◌by◌, ◌sending◌}
use Rattle.cx_model.specs.Matchmaker.{entry}
use Rattle.cx_model.specs.Reader.{asking, make_token}

abbrev pub cluster : Cluster
cluster =
    record one_of_each {
      f = 1;
      pool = 3;
      leaders = 2;
      acceptors = 4;
      replicas = 2;
      f_fits = lit≤ tt;
      some_pool = lit≤ tt;
      pool_fits = lit≤ tt;
      some_replicas = lit≤ tt;
      some_leader = lit≤ tt;
      leaders_fit = lit≤ tt;
      some_acceptor = lit≤ tt;
      acceptors_fit = lit≤ tt;
      replicas_fit = lit≤ tt;
    }

abbrev pub low_row : Shape
low_row = make_grid 1 2 (0 ∷ 1 ∷ [])

abbrev pub high_row : Shape
high_row = make_grid 1 2 (2 ∷ 3 ∷ [])

abbrev pub later : Round
later = make_round 1 1 0

abbrev pub story : List Line
story =
    lead 0 low_row ⇒ why.Started
    keeping kept.Round first low_row by leader 0
    sending letter (leader 0) (matchmaker 0) (msg.MatchA first low_row)  -- 0
    sending letter (leader 0) (matchmaker 1) (msg.MatchA first low_row)  -- 1
    sending letter (leader 0) (matchmaker 2) (msg.MatchA first low_row)  -- 2
    ∷ deliver 0 ⇒ why.Matched
    keeping kept.Match first low_row by matchmaker 0
    sending letter (matchmaker 0) (leader 0) (msg.MatchB first no_round [])  -- 3
    ∷ deliver 1 ⇒ why.Matched
    keeping kept.Match first low_row by matchmaker 1
    sending letter (matchmaker 1) (leader 0) (msg.MatchB first no_round [])  -- 4
    ∷ deliver 3 ⇒ why.Counted
    ∷ deliver 3 ⇒ why.Same
    ∷ deliver 4 ⇒ why.Leads
    sending letter (leader 0) (batcher 0) (msg.Leads first)  -- 5
    ∷ deliver 4 ⇒ why.Old
    ∷ event.Write put_a 0 ⇒ why.Sent
    sending letter (client 0) (batcher 0) (msg.Submit put_a)  -- 6
    ∷ deliver 6 ⇒ why.Batched
    sending letter (batcher 0) (leader 0) (msg.Batch (put_a ∷ []))  -- 7
    ∷ deliver 7 ⇒ why.Proposed
    sending letter (leader 0) (proxy 0) (msg.Propose first low_row 0 0 (batch_of put_a))  -- 8
    ∷ deliver 8 ⇒ why.Asking
    sending letter (proxy 0) (acceptor 0) (msg.Phase2A first 0 0 (batch_of put_a))  -- 9
    ∷ deliver 8 ⇒ why.Same
    ∷ deliver 9 ⇒ why.Voted
    keeping kept.Vote first 0 0 (batch_of put_a) by acceptor 0
    sending letter (acceptor 0) (proxy 0) (msg.Phase2B first 0)  -- 10
    ∷ lead 1 high_row ⇒ why.Started
    keeping kept.Round later high_row by leader 1
    sending letter (leader 1) (matchmaker 0) (msg.MatchA later high_row)  -- 11
    sending letter (leader 1) (matchmaker 1) (msg.MatchA later high_row)  -- 12
    sending letter (leader 1) (matchmaker 2) (msg.MatchA later high_row)  -- 13
    ∷ deliver 11 ⇒ why.Matched
    keeping kept.Match later high_row by matchmaker 0
    sending letter (matchmaker 0) (leader 1) (msg.MatchB later no_round (entry first low_row ∷ []))  -- 14
    ∷ deliver 12 ⇒ why.Matched
    keeping kept.Match later high_row by matchmaker 1
    sending letter (matchmaker 1) (leader 1) (msg.MatchB later no_round (entry first low_row ∷ []))  -- 15
    ∷ deliver 14 ⇒ why.Counted
    ∷ deliver 15 ⇒ why.Phase1
    sending letter (leader 1) (acceptor 0) (msg.Phase1A later)  -- 16
    sending letter (leader 1) (acceptor 1) (msg.Phase1A later)  -- 17
    ∷ deliver 16 ⇒ why.Promised
    keeping kept.Promise later by acceptor 0
    sending letter (acceptor 0) (leader 1) (msg.Phase1B later 0 (make_vote first 0 (batch_of put_a) ∷ []))  -- 18
    ∷ deliver 16 ⇒ why.Same
    sending letter (acceptor 0) (leader 1) (msg.Phase1B later 0 (make_vote first 0 (batch_of put_a) ∷ []))  -- 19
    ∷ deliver 18 ⇒ why.Counted
    ∷ deliver 19 ⇒ why.Same
    ∷ deliver 17 ⇒ why.Promised
    keeping kept.Promise later by acceptor 1
    sending letter (acceptor 1) (leader 1) (msg.Phase1B later 0 [])  -- 20
    ∷ deliver 20 ⇒ why.Leads
    sending letter (leader 1) (proxy 0) (msg.Propose later high_row 0 0 (batch_of put_a))  -- 21
    sending letter (leader 1) (batcher 0) (msg.Leads later)  -- 22
    ∷ deliver 20 ⇒ why.Old
    ∷ deliver 21 ⇒ why.Asking
    sending letter (proxy 0) (acceptor 2) (msg.Phase2A later 0 0 (batch_of put_a))  -- 23
    ∷ deliver 8 ⇒ why.Old
    ∷ deliver 10 ⇒ why.Unasked
    ∷ deliver 23 ⇒ why.Voted
    keeping kept.Vote later 0 0 (batch_of put_a) by acceptor 2
    sending letter (acceptor 2) (proxy 0) (msg.Phase2B later 0)  -- 24
    ∷ deliver 24 ⇒ why.Chosen
    sending letter (proxy 0) (replica 0) (msg.Chosen 0 (batch_of put_a))  -- 25
    sending letter (proxy 0) (replica 1) (msg.Chosen 0 (batch_of put_a))  -- 26
    sending letter (proxy 0) (leader 1) (msg.ChosenIn later 0)  -- 27
    ∷ deliver 27 ⇒ why.Chosen
    ∷ deliver 27 ⇒ why.Same
    ∷ deliver 22 ⇒ why.Leads
    ∷ deliver 5 ⇒ why.Old
    ∷ event.Read 0 2 1 0 0 (codes "a") ⇒ why.Sent
    sending letter (client 0) (reader 0) (msg.ReadReq 2 0 (codes "a"))  -- 28
    ∷ deliver 28 ⇒ why.Started
    keeping kept.Turn 1 by reader 0
    sending letter (reader 0) (matchmaker 0) (msg.MatchRead (asking 0 1))  -- 29
    sending letter (reader 0) (matchmaker 1) (msg.MatchRead (asking 0 1))  -- 30
    sending letter (reader 0) (matchmaker 2) (msg.MatchRead (asking 0 1))  -- 31
    ∷ deliver 29 ⇒ why.Asked
    sending letter (matchmaker 0) (reader 0)
    (msg.MatchReadAck (asking 0 1) no_round (entry first low_row ∷ entry later high_row ∷ []))  -- 32
    ∷ deliver 30 ⇒ why.Asked
    sending letter (matchmaker 1) (reader 0)
    (msg.MatchReadAck (asking 0 1) no_round (entry first low_row ∷ entry later high_row ∷ []))  -- 33
    ∷ deliver 32 ⇒ why.Counted
    ∷ deliver 32 ⇒ why.Same
    ∷ deliver 33 ⇒ why.Asking
    sending letter (reader 0) (acceptor 0) (msg.PreRead (asking 0 1) no_round)  -- 34
    sending letter (reader 0) (acceptor 1) (msg.PreRead (asking 0 1) no_round)  -- 35
    sending letter (reader 0) (acceptor 2) (msg.PreRead (asking 0 1) no_round)  -- 36
    sending letter (reader 0) (acceptor 3) (msg.PreRead (asking 0 1) no_round)  -- 37
    ∷ deliver 33 ⇒ why.Unasked
    ∷ deliver 34 ⇒ why.Asked
    sending letter (acceptor 0) (reader 0) (msg.PreReadAck (asking 0 1) no_round 1)  -- 38
    ∷ deliver 35 ⇒ why.Asked
    sending letter (acceptor 1) (reader 0) (msg.PreReadAck (asking 0 1) no_round 0)  -- 39
    ∷ deliver 36 ⇒ why.Asked
    sending letter (acceptor 2) (reader 0) (msg.PreReadAck (asking 0 1) no_round 1)  -- 40
    ∷ deliver 37 ⇒ why.Asked
    sending letter (acceptor 3) (reader 0) (msg.PreReadAck (asking 0 1) no_round 0)  -- 41
    ∷ deliver 40 ⇒ why.Counted
    ∷ deliver 41 ⇒ why.Counted
    ∷ deliver 41 ⇒ why.Same
    ∷ deliver 38 ⇒ why.Counted
    ∷ deliver 39 ⇒ why.Sent
    sending letter (reader 0) (replica 0) (msg.Read (make_token 0 2) 1 (codes "a"))  -- 42
    ∷ deliver 39 ⇒ why.Unasked
    ∷ deliver 42 ⇒ why.Deferred
    ∷ deliver 42 ⇒ why.Same
    ∷ deliver 25 ⇒ why.Applied
    keeping kept.Log (batch_of put_a ∷ []) by replica 0
    sending letter (replica 0) (unbatcher 0) (msg.Results 0 (answered 0 1 1 Okay ∷ []))  -- 43
    sending letter (replica 0) (client 0) (msg.ReadAnswer 2 1 (Some (codes "1")))  -- 44
    ∷ deliver 25 ⇒ why.Past
    ∷ []

abbrev pub EachAnswerCountsOnce : Type 0
EachAnswerCountsOnce =
    IsRun cluster story
    (final_state (batch_of put_a ∷ []) (true ∷ [])
    (hold 1 (make_pair (codes "a") (codes "1") ∷ []) ∷ hold 0 [] ∷ []))
