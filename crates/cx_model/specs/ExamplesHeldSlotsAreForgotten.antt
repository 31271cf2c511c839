-- What f + 1 replicas hold is never lost: the leader, the proxy leader and the acceptor forget such a slot, and the next round begins
-- after it. A replica that missed a value gets it from another one.
use Rattle.std.specs.Prelude.{true, List, [], ◌∷◌, codes, Some}
use Rattle.std.proofs.Common.{lit≤}
use Rattle.cx_letter.specs.Prelude.{Cluster, Command, Okay, Round, no_round, letter}
use Rattle.cx_base.specs.declared.event.Event.TheVariants as event
use Rattle.cx_base.specs.declared.why.Why.TheVariants as why
use Rattle.cx_letter.specs.declared.kept.Record.TheVariants as kept
use Rattle.cx_letter.specs.declared.message.Msg.TheVariants as msg
use Rattle.cx_model.specs.Examples.{Line, IsRun, one_of_each, client, batcher, leader, proxy, acceptor, matchmaker, replica, unbatcher}
use Rattle.cx_model.specs.Examples.{reader, make_round, first, single, make_put, put_a, batch_of, make_vote, answered, lead, deliver}
use Rattle.cx_model.specs.Examples.{final_state, hold, make_pair, Holding, ◌⇒◌, ◌keeping◌by◌, ◌sending◌}
use Rattle.cx_model.specs.Matchmaker.{entry}
use Rattle.cx_model.specs.Reader.{asking, make_token}

abbrev pub cluster : Cluster
cluster =
    record one_of_each {
      f = 1;
      pool = 3;
      replicas = 2;
      f_fits = lit≤ tt;
      some_pool = lit≤ tt;
      pool_fits = lit≤ tt;
      some_replicas = lit≤ tt;
      replicas_fit = lit≤ tt;
    }

abbrev pub put_b : Command
put_b = make_put 0 2 (codes "b") (codes "2")

abbrev pub put_c : Command
put_c = make_put 0 3 (codes "c") (codes "3")

abbrev pub next : Round
next = make_round 2 0 0

abbrev pub story : List Line
story =
    lead 0 (single 0) ⇒ why.Started
    keeping kept.Round first (single 0) by leader 0
    sending letter (leader 0) (matchmaker 0) (msg.MatchA first (single 0))  -- 0
    sending letter (leader 0) (matchmaker 1) (msg.MatchA first (single 0))  -- 1
    sending letter (leader 0) (matchmaker 2) (msg.MatchA first (single 0))  -- 2
    ∷ deliver 0 ⇒ why.Matched
    keeping kept.Match first (single 0) by matchmaker 0
    sending letter (matchmaker 0) (leader 0) (msg.MatchB first no_round [])  -- 3
    ∷ deliver 1 ⇒ why.Matched
    keeping kept.Match first (single 0) by matchmaker 1
    sending letter (matchmaker 1) (leader 0) (msg.MatchB first no_round [])  -- 4
    ∷ deliver 3 ⇒ why.Counted
    ∷ deliver 4 ⇒ why.Leads
    sending letter (leader 0) (batcher 0) (msg.Leads first)  -- 5
    ∷ event.Write put_a 0 ⇒ why.Sent
    sending letter (client 0) (batcher 0) (msg.Submit put_a)  -- 6
    ∷ deliver 6 ⇒ why.Batched
    sending letter (batcher 0) (leader 0) (msg.Batch (put_a ∷ []))  -- 7
    ∷ deliver 7 ⇒ why.Proposed
    sending letter (leader 0) (proxy 0) (msg.Propose first (single 0) 0 0 (batch_of put_a))  -- 8
    ∷ deliver 8 ⇒ why.Asking
    sending letter (proxy 0) (acceptor 0) (msg.Phase2A first 0 0 (batch_of put_a))  -- 9
    ∷ deliver 9 ⇒ why.Voted
    keeping kept.Vote first 0 0 (batch_of put_a) by acceptor 0
    sending letter (acceptor 0) (proxy 0) (msg.Phase2B first 0)  -- 10
    ∷ deliver 10 ⇒ why.Chosen
    sending letter (proxy 0) (replica 0) (msg.Chosen 0 (batch_of put_a))  -- 11
    sending letter (proxy 0) (replica 1) (msg.Chosen 0 (batch_of put_a))  -- 12
    sending letter (proxy 0) (leader 0) (msg.ChosenIn first 0)  -- 13
    ∷ deliver 11 ⇒ why.Applied
    keeping kept.Log (batch_of put_a ∷ []) by replica 0
    sending letter (replica 0) (unbatcher 0) (msg.Results 0 (answered 0 1 1 Okay ∷ []))  -- 14
    ∷ event.Tick (replica 0) ⇒ why.Resent
    sending letter (replica 0) (leader 0) (msg.Held 1)  -- 15
    sending letter (replica 0) (replica 1) (msg.Fetch 1)  -- 16
    ∷ deliver 15 ⇒ why.Held
    ∷ deliver 15 ⇒ why.Same
    ∷ event.Tick (leader 0) ⇒ why.Resent
    sending letter (leader 0) (proxy 0) (msg.Propose first (single 0) 0 0 (batch_of put_a))  -- 17
    sending letter (leader 0) (batcher 0) (msg.Leads first)  -- 18
    ∷ deliver 12 ⇒ why.Applied
    keeping kept.Log (batch_of put_a ∷ []) by replica 1
    ∷ event.Write put_b 0 ⇒ why.Sent
    sending letter (client 0) (batcher 0) (msg.Submit put_b)  -- 19
    ∷ deliver 19 ⇒ why.Batched
    sending letter (batcher 0) (leader 0) (msg.Batch (put_b ∷ []))  -- 20
    ∷ deliver 20 ⇒ why.Proposed
    sending letter (leader 0) (proxy 0) (msg.Propose first (single 0) 1 0 (batch_of put_b))  -- 21
    ∷ deliver 21 ⇒ why.Asking
    sending letter (proxy 0) (acceptor 0) (msg.Phase2A first 1 0 (batch_of put_b))  -- 22
    ∷ event.Tick (replica 1) ⇒ why.Resent
    sending letter (replica 1) (leader 0) (msg.Held 1)  -- 23
    sending letter (replica 1) (replica 0) (msg.Fetch 1)  -- 24
    ∷ deliver 23 ⇒ why.Held
    ∷ event.Write put_c 0 ⇒ why.Sent
    sending letter (client 0) (batcher 0) (msg.Submit put_c)  -- 25
    ∷ deliver 25 ⇒ why.Batched
    sending letter (batcher 0) (leader 0) (msg.Batch (put_c ∷ []))  -- 26
    ∷ deliver 26 ⇒ why.Proposed
    sending letter (leader 0) (proxy 0) (msg.Propose first (single 0) 2 1 (batch_of put_c))  -- 27
    ∷ deliver 27 ⇒ why.Asking
    sending letter (proxy 0) (acceptor 0) (msg.Phase2A first 2 1 (batch_of put_c))  -- 28
    ∷ deliver 28 ⇒ why.Voted
    keeping kept.Vote first 2 1 (batch_of put_c) by acceptor 0
    sending letter (acceptor 0) (proxy 0) (msg.Phase2B first 2)  -- 29
    ∷ deliver 22 ⇒ why.Voted
    keeping kept.Vote first 1 0 (batch_of put_b) by acceptor 0
    sending letter (acceptor 0) (proxy 0) (msg.Phase2B first 1)  -- 30
    ∷ deliver 9 ⇒ why.Past
    ∷ deliver 10 ⇒ why.Unasked
    ∷ deliver 17 ⇒ why.Past
    ∷ deliver 13 ⇒ why.Past
    ∷ deliver 29 ⇒ why.Chosen
    sending letter (proxy 0) (replica 0) (msg.Chosen 2 (batch_of put_c))  -- 31
    sending letter (proxy 0) (replica 1) (msg.Chosen 2 (batch_of put_c))  -- 32
    sending letter (proxy 0) (leader 0) (msg.ChosenIn first 2)  -- 33
    ∷ deliver 30 ⇒ why.Chosen
    sending letter (proxy 0) (replica 0) (msg.Chosen 1 (batch_of put_b))  -- 34
    sending letter (proxy 0) (replica 1) (msg.Chosen 1 (batch_of put_b))  -- 35
    sending letter (proxy 0) (leader 0) (msg.ChosenIn first 1)  -- 36
    ∷ deliver 32 ⇒ why.Early
    ∷ deliver 35 ⇒ why.Applied
    keeping kept.Log (batch_of put_b ∷ batch_of put_c ∷ []) by replica 1
    sending letter (replica 1) (unbatcher 0) (msg.Results 1 (answered 0 2 2 Okay ∷ []))  -- 37
    ∷ deliver 24 ⇒ why.Idle
    ∷ deliver 16 ⇒ why.Fetched
    sending letter (replica 1) (replica 0) (msg.Chosen 1 (batch_of put_b))  -- 38
    ∷ deliver 38 ⇒ why.Applied
    keeping kept.Log (batch_of put_b ∷ []) by replica 0
    ∷ deliver 34 ⇒ why.Past
    ∷ event.Read 0 4 3 0 0 (codes "a") ⇒ why.Sent
    sending letter (client 0) (reader 0) (msg.ReadReq 4 0 (codes "a"))  -- 39
    ∷ deliver 39 ⇒ why.Started
    keeping kept.Turn 1 by reader 0
    sending letter (reader 0) (matchmaker 0) (msg.MatchRead (asking 0 1))  -- 40
    sending letter (reader 0) (matchmaker 1) (msg.MatchRead (asking 0 1))  -- 41
    sending letter (reader 0) (matchmaker 2) (msg.MatchRead (asking 0 1))  -- 42
    ∷ deliver 40 ⇒ why.Asked
    sending letter (matchmaker 0) (reader 0) (msg.MatchReadAck (asking 0 1) no_round (entry first (single 0) ∷ []))  -- 43
    ∷ deliver 41 ⇒ why.Asked
    sending letter (matchmaker 1) (reader 0) (msg.MatchReadAck (asking 0 1) no_round (entry first (single 0) ∷ []))  -- 44
    ∷ deliver 43 ⇒ why.Counted
    ∷ deliver 44 ⇒ why.Asking
    sending letter (reader 0) (acceptor 0) (msg.PreRead (asking 0 1) no_round)  -- 45
    ∷ deliver 45 ⇒ why.Asked
    sending letter (acceptor 0) (reader 0) (msg.PreReadAck (asking 0 1) no_round 3)  -- 46
    ∷ deliver 46 ⇒ why.Sent
    sending letter (reader 0) (replica 0) (msg.Read (make_token 0 4) 3 (codes "a"))  -- 47
    ∷ deliver 47 ⇒ why.Deferred
    ∷ deliver 31 ⇒ why.Applied
    keeping kept.Log (batch_of put_c ∷ []) by replica 0
    sending letter (replica 0) (unbatcher 0) (msg.Results 2 (answered 0 3 3 Okay ∷ []))  -- 48
    sending letter (replica 0) (client 0) (msg.ReadAnswer 4 3 (Some (codes "1")))  -- 49
    ∷ lead 0 (single 0) ⇒ why.Started
    keeping kept.Round next (single 0) by leader 0
    sending letter (leader 0) (matchmaker 0) (msg.MatchA next (single 0))  -- 50
    sending letter (leader 0) (matchmaker 1) (msg.MatchA next (single 0))  -- 51
    sending letter (leader 0) (matchmaker 2) (msg.MatchA next (single 0))  -- 52
    ∷ deliver 51 ⇒ why.Matched
    keeping kept.Match next (single 0) by matchmaker 1
    sending letter (matchmaker 1) (leader 0) (msg.MatchB next no_round (entry first (single 0) ∷ []))  -- 53
    ∷ deliver 52 ⇒ why.Matched
    keeping kept.Match next (single 0) by matchmaker 2
    sending letter (matchmaker 2) (leader 0) (msg.MatchB next no_round [])  -- 54
    ∷ deliver 53 ⇒ why.Counted
    ∷ deliver 54 ⇒ why.Phase1
    sending letter (leader 0) (acceptor 0) (msg.Phase1A next)  -- 55
    ∷ deliver 55 ⇒ why.Promised
    keeping kept.Promise next by acceptor 0
    sending letter (acceptor 0) (leader 0)
    (msg.Phase1B next 1 (make_vote first 1 (batch_of put_b) ∷ make_vote first 2 (batch_of put_c) ∷ []))  -- 56
    ∷ deliver 56 ⇒ why.Leads
    sending letter (leader 0) (proxy 0) (msg.Propose next (single 0) 1 1 (batch_of put_b))  -- 57
    sending letter (leader 0) (proxy 0) (msg.Propose next (single 0) 2 1 (batch_of put_c))  -- 58
    sending letter (leader 0) (batcher 0) (msg.Leads next)  -- 59
    ∷ event.Tick (leader 0) ⇒ why.Resent
    sending letter (leader 0) (proxy 0) (msg.Propose next (single 0) 1 1 (batch_of put_b))  -- 60
    sending letter (leader 0) (proxy 0) (msg.Propose next (single 0) 2 1 (batch_of put_c))  -- 61
    sending letter (leader 0) (batcher 0) (msg.Leads next)  -- 62
    ∷ []

-- what each replica holds at the end
abbrev pub each : Holding
each = hold 3 (make_pair (codes "a") (codes "1") ∷ make_pair (codes "b") (codes "2") ∷ make_pair (codes "c") (codes "3") ∷ [])

abbrev pub HeldSlotsAreForgotten : Type 0
HeldSlotsAreForgotten =
    IsRun cluster story
    (final_state (batch_of put_a ∷ batch_of put_b ∷ batch_of put_c ∷ []) (true ∷ true ∷ true ∷ [])
    (each ∷ each ∷ []))
