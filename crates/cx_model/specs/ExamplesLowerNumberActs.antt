-- A client's second command is chosen before its first, and tells that the client isn't done with the first: both act. Later requests go
-- out by the floors that were told: one above all of them, though it is below the greatest number, and one again, whatever its floor.
use Rattle.std.specs.Prelude.{true, List, [], ◌∷◌, codes}
use Rattle.cx_letter.specs.Prelude.{Command, Okay, no_round, letter}
use Rattle.cx_base.specs.declared.event.Event.TheVariants as event
use Rattle.cx_base.specs.declared.why.Why.TheVariants as why
use Rattle.cx_letter.specs.declared.kept.Record.TheVariants as kept
use Rattle.cx_letter.specs.declared.message.Msg.TheVariants as msg
use Rattle.cx_model.specs.Examples.{Line, IsRun, one_of_each, client, batcher, leader, proxy, acceptor, matchmaker, replica, unbatcher}
use Rattle.cx_model.specs.Examples.{reader, first, single, make_put, del, command_with_floor, put_a, batch_of, answered, lead, deliver}
use Rattle.cx_model.specs.Examples.{final_state, hold, make_pair, ◌⇒◌, ◌keeping◌by◌, ◌sending◌}

-- the second command; the client isn't done with its first
abbrev pub put_second : Command
put_second = command_with_floor 0 (make_put 0 2 (codes "a") (codes "2"))

-- the client is done with all numbers up to 66
abbrev pub del_far : Command
del_far = command_with_floor 66 (del 0 70 (codes "a"))

abbrev pub put_below : Command
put_below = make_put 0 67 (codes "a") (codes "3")

abbrev pub story : List Line
story =
    lead 0 (single 0) ⇒ why.Started
    keeping kept.Round first (single 0) by leader 0
    sending letter (leader 0) (matchmaker 0) (msg.MatchA first (single 0))  -- 0
    ∷ deliver 0 ⇒ why.Matched
    keeping kept.Match first (single 0) by matchmaker 0
    sending letter (matchmaker 0) (leader 0) (msg.MatchB first no_round [])  -- 1
    ∷ deliver 1 ⇒ why.Leads
    sending letter (leader 0) (batcher 0) (msg.Leads first)  -- 2
    ∷ event.Write put_a 0 ⇒ why.Sent
    sending letter (client 0) (batcher 0) (msg.Submit put_a)  -- 3
    ∷ event.Write put_second 0 ⇒ why.Sent
    sending letter (client 0) (batcher 0) (msg.Submit put_second)  -- 4
    ∷ deliver 4 ⇒ why.Batched
    sending letter (batcher 0) (leader 0) (msg.Batch (put_second ∷ []))  -- 5
    ∷ deliver 5 ⇒ why.Proposed
    sending letter (leader 0) (proxy 0) (msg.Propose first (single 0) 0 0 (batch_of put_second))  -- 6
    ∷ deliver 3 ⇒ why.Batched
    sending letter (batcher 0) (leader 0) (msg.Batch (put_a ∷ []))  -- 7
    ∷ deliver 7 ⇒ why.Proposed
    sending letter (leader 0) (proxy 0) (msg.Propose first (single 0) 1 0 (batch_of put_a))  -- 8
    ∷ deliver 6 ⇒ why.Asking
    sending letter (proxy 0) (acceptor 0) (msg.Phase2A first 0 0 (batch_of put_second))  -- 9
    ∷ deliver 8 ⇒ why.Asking
    sending letter (proxy 0) (acceptor 0) (msg.Phase2A first 1 0 (batch_of put_a))  -- 10
    ∷ deliver 9 ⇒ why.Voted
    keeping kept.Vote first 0 0 (batch_of put_second) by acceptor 0
    sending letter (acceptor 0) (proxy 0) (msg.Phase2B first 0)  -- 11
    ∷ deliver 10 ⇒ why.Voted
    keeping kept.Vote first 1 0 (batch_of put_a) by acceptor 0
    sending letter (acceptor 0) (proxy 0) (msg.Phase2B first 1)  -- 12
    ∷ deliver 11 ⇒ why.Chosen
    sending letter (proxy 0) (replica 0) (msg.Chosen 0 (batch_of put_second))  -- 13
    sending letter (proxy 0) (leader 0) (msg.ChosenIn first 0)  -- 14
    ∷ deliver 12 ⇒ why.Chosen
    sending letter (proxy 0) (replica 0) (msg.Chosen 1 (batch_of put_a))  -- 15
    sending letter (proxy 0) (leader 0) (msg.ChosenIn first 1)  -- 16
    ∷ deliver 13 ⇒ why.Applied
    keeping kept.Log (batch_of put_second ∷ []) by replica 0
    sending letter (replica 0) (unbatcher 0) (msg.Results 0 (answered 0 2 1 Okay ∷ []))  -- 17
    ∷ deliver 15 ⇒ why.Applied
    keeping kept.Log (batch_of put_a ∷ []) by replica 0
    sending letter (replica 0) (unbatcher 0) (msg.Results 1 (answered 0 1 2 Okay ∷ []))  -- 18
    ∷ event.Write del_far 0 ⇒ why.Sent
    sending letter (client 0) (batcher 0) (msg.Submit del_far)  -- 19
    ∷ event.Write (command_with_floor 2 (del 0 66 (codes "a"))) 0 ⇒ why.Stale
    ∷ event.Write put_below 0 ⇒ why.Sent
    sending letter (client 0) (batcher 0) (msg.Submit put_below)  -- 20
    ∷ event.Read 0 72 71 0 0 (codes "a") ⇒ why.Sent
    sending letter (client 0) (reader 0) (msg.ReadReq 72 0 (codes "a"))  -- 21
    ∷ event.Write (command_with_floor 69 (del 0 71 (codes "a"))) 0 ⇒ why.Stale
    ∷ event.Read 0 72 70 0 0 (codes "a") ⇒ why.Sent
    sending letter (client 0) (reader 0) (msg.ReadReq 72 0 (codes "a"))  -- 22
    ∷ event.Write (del 0 70 (codes "a")) 0 ⇒ why.Sent
    sending letter (client 0) (batcher 0) (msg.Submit (del 0 70 (codes "a")))  -- 23
    ∷ event.Write (del 0 70 (codes "b")) 0 ⇒ why.Stale
    ∷ []

abbrev pub LowerNumberActs : Type 0
LowerNumberActs =
    IsRun one_of_each story
    (final_state (batch_of put_second ∷ batch_of put_a ∷ []) (true ∷ true ∷ [])
    (hold 2 (make_pair (codes "a") (codes "1") ∷ []) ∷ []))
