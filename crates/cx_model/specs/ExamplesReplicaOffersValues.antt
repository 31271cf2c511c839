-- A replica is ordered to send another one the values that it keeps from a slot on: the greatest slot first, none that it has
-- forgotten, and nothing where it keeps none. The other one waits with those that come before their turn, and keeps all of them in one
-- record when the first comes. One that the cluster lacks, or the replica itself, is sent nothing.
use Rattle.std.specs.Prelude.{true, ℕ, List, [], ◌∷◌, codes}
use Rattle.std.proofs.Common.{lit≤}
use Rattle.cx_letter.specs.Prelude.{Cluster, Command, Event, Okay, Whole, no_round, letter}
use Rattle.cx_base.specs.declared.event.Event.TheVariants as event
use Rattle.cx_base.specs.declared.why.Why.TheVariants as why
use Rattle.cx_letter.specs.declared.kept.Record.TheVariants as kept
use Rattle.cx_letter.specs.declared.message.Msg.TheVariants as msg
use Rattle.cx_model.specs.Examples.{Line, IsRun, one_of_each, client, batcher, leader, proxy, acceptor, matchmaker, replica, unbatcher}
use Rattle.cx_model.specs.Examples.{first, single, make_put, put_a, batch_of, answered, lead, deliver, final_state, hold, make_pair}
use Rattle.cx_model.specs.Examples.{Holding, ◌⇒◌, ◌keeping◌by◌, ◌snapping◌by◌, ◌sending◌}

abbrev pub cluster : Cluster
cluster = record one_of_each { replicas = 3; some_replicas = lit≤ tt; replicas_fit = lit≤ tt }

abbrev pub put_b : Command
put_b = make_put 0 2 (codes "b") (codes "2")

abbrev pub put_c : Command
put_c = make_put 0 3 (codes "c") (codes "3")

abbrev pub offer : ℕ → ℕ → ℕ → Event
offer from to slot = event.Offer from to slot

abbrev pub story : List Line
story =
    lead 0 (single 0) ⇒ why.Started
    keeping kept.Round first (single 0) by leader 0
    sending letter (leader 0) (matchmaker 0) (msg.MatchA first (single 0))  -- 0
    ∷ deliver 0 ⇒ why.Matched
    keeping kept.Match first (single 0) by matchmaker 0
    sending letter (matchmaker 0) (leader 0) (msg.MatchB first no_round [])  -- 1
    ∷ deliver 1 ⇒ why.Leads
    sending letter (leader 0) (batcher 0) (msg.Leads first)  -- 2
    ∷ event.Write put_a 0 ⇒ why.Sent
    sending letter (client 0) (batcher 0) (msg.Submit put_a)  -- 3
    ∷ deliver 3 ⇒ why.Batched
    sending letter (batcher 0) (leader 0) (msg.Batch (put_a ∷ []))  -- 4
    ∷ deliver 4 ⇒ why.Proposed
    sending letter (leader 0) (proxy 0) (msg.Propose first (single 0) 0 0 (batch_of put_a))  -- 5
    ∷ deliver 5 ⇒ why.Asking
    sending letter (proxy 0) (acceptor 0) (msg.Phase2A first 0 0 (batch_of put_a))  -- 6
    ∷ deliver 6 ⇒ why.Voted
    keeping kept.Vote first 0 0 (batch_of put_a) by acceptor 0
    sending letter (acceptor 0) (proxy 0) (msg.Phase2B first 0)  -- 7
    ∷ deliver 7 ⇒ why.Chosen
    sending letter (proxy 0) (replica 0) (msg.Chosen 0 (batch_of put_a))  -- 8
    sending letter (proxy 0) (replica 1) (msg.Chosen 0 (batch_of put_a))  -- 9
    sending letter (proxy 0) (replica 2) (msg.Chosen 0 (batch_of put_a))  -- 10
    sending letter (proxy 0) (leader 0) (msg.ChosenIn first 0)  -- 11
    ∷ offer 0 1 0 ⇒ why.Idle
    ∷ deliver 8 ⇒ why.Applied
    keeping kept.Log (batch_of put_a ∷ []) by replica 0
    sending letter (replica 0) (unbatcher 0) (msg.Results 0 (answered 0 1 1 Okay ∷ []))  -- 12
    ∷ deliver 10 ⇒ why.Applied
    keeping kept.Log (batch_of put_a ∷ []) by replica 2
    ∷ event.Tick (replica 2) ⇒ why.Resent
    sending letter (replica 2) (leader 0) (msg.Held 1)  -- 13
    sending letter (replica 2) (replica 0) (msg.Fetch 1)  -- 14
    ∷ deliver 14 ⇒ why.Idle
    ∷ event.Snap (replica 0) Whole ⇒ why.Snapped
    snapping 1 by replica 0
    ∷ offer 0 1 0 ⇒ why.Idle
    ∷ event.Write put_b 0 ⇒ why.Sent
    sending letter (client 0) (batcher 0) (msg.Submit put_b)  -- 15
    ∷ deliver 15 ⇒ why.Batched
    sending letter (batcher 0) (leader 0) (msg.Batch (put_b ∷ []))  -- 16
    ∷ deliver 16 ⇒ why.Proposed
    sending letter (leader 0) (proxy 0) (msg.Propose first (single 0) 1 0 (batch_of put_b))  -- 17
    ∷ deliver 17 ⇒ why.Asking
    sending letter (proxy 0) (acceptor 0) (msg.Phase2A first 1 0 (batch_of put_b))  -- 18
    ∷ deliver 18 ⇒ why.Voted
    keeping kept.Vote first 1 0 (batch_of put_b) by acceptor 0
    sending letter (acceptor 0) (proxy 0) (msg.Phase2B first 1)  -- 19
    ∷ deliver 19 ⇒ why.Chosen
    sending letter (proxy 0) (replica 0) (msg.Chosen 1 (batch_of put_b))  -- 20
    sending letter (proxy 0) (replica 1) (msg.Chosen 1 (batch_of put_b))  -- 21
    sending letter (proxy 0) (replica 2) (msg.Chosen 1 (batch_of put_b))  -- 22
    sending letter (proxy 0) (leader 0) (msg.ChosenIn first 1)  -- 23
    ∷ event.Write put_c 0 ⇒ why.Sent
    sending letter (client 0) (batcher 0) (msg.Submit put_c)  -- 24
    ∷ deliver 24 ⇒ why.Batched
    sending letter (batcher 0) (leader 0) (msg.Batch (put_c ∷ []))  -- 25
    ∷ deliver 25 ⇒ why.Proposed
    sending letter (leader 0) (proxy 0) (msg.Propose first (single 0) 2 0 (batch_of put_c))  -- 26
    ∷ deliver 26 ⇒ why.Asking
    sending letter (proxy 0) (acceptor 0) (msg.Phase2A first 2 0 (batch_of put_c))  -- 27
    ∷ deliver 27 ⇒ why.Voted
    keeping kept.Vote first 2 0 (batch_of put_c) by acceptor 0
    sending letter (acceptor 0) (proxy 0) (msg.Phase2B first 2)  -- 28
    ∷ deliver 28 ⇒ why.Chosen
    sending letter (proxy 0) (replica 0) (msg.Chosen 2 (batch_of put_c))  -- 29
    sending letter (proxy 0) (replica 1) (msg.Chosen 2 (batch_of put_c))  -- 30
    sending letter (proxy 0) (replica 2) (msg.Chosen 2 (batch_of put_c))  -- 31
    sending letter (proxy 0) (leader 0) (msg.ChosenIn first 2)  -- 32
    ∷ deliver 20 ⇒ why.Applied
    keeping kept.Log (batch_of put_b ∷ []) by replica 0
    ∷ deliver 29 ⇒ why.Applied
    keeping kept.Log (batch_of put_c ∷ []) by replica 0
    ∷ offer 0 1 0 ⇒ why.Fetched
    sending letter (replica 0) (replica 1) (msg.Chosen 2 (batch_of put_c))  -- 33
    sending letter (replica 0) (replica 1) (msg.Chosen 1 (batch_of put_b))  -- 34
    ∷ offer 0 1 2 ⇒ why.Fetched
    sending letter (replica 0) (replica 1) (msg.Chosen 2 (batch_of put_c))  -- 35
    ∷ offer 0 1 3 ⇒ why.Idle
    ∷ offer 0 0 1 ⇒ why.Stranger
    ∷ offer 0 3 1 ⇒ why.Stranger
    ∷ deliver 33 ⇒ why.Early
    ∷ deliver 34 ⇒ why.Early
    ∷ deliver 9 ⇒ why.Applied
    keeping kept.Log (batch_of put_a ∷ batch_of put_b ∷ batch_of put_c ∷ []) by replica 1
    sending letter (replica 1) (unbatcher 0) (msg.Results 1 (answered 0 2 2 Okay ∷ []))  -- 36
    ∷ event.Crash (replica 0) ⇒ why.Crashed
    ∷ offer 0 1 0 ⇒ why.Down
    ∷ []

-- what replicas 0 and 1 hold at the end
abbrev pub all_three : Holding
all_three =
    hold 3 (make_pair (codes "a") (codes "1") ∷ make_pair (codes "b") (codes "2") ∷ make_pair (codes "c") (codes "3") ∷ [])

abbrev pub ReplicaOffersValues : Type 0
ReplicaOffersValues =
    IsRun cluster story (final_state
    (batch_of put_a ∷ batch_of put_b ∷ batch_of put_c ∷ [])
    (true ∷ true ∷ true ∷ [])
    (all_three ∷ all_three ∷ hold 1 (make_pair (codes "a") (codes "1") ∷ []) ∷ []))
