-- Two clients send a command again with another floor, one with a greater and one with a lesser one, and each is chosen in two slots. It
-- acts once, and has the same answer again. The greater floor stays told, so that the client's earlier number doesn't act any more, and has
-- no answer.
use Rattle.std.specs.Prelude.{true, false, List, [], ◌∷◌, codes}
use Rattle.std.proofs.Common.{lit≤}
use Rattle.cx_letter.specs.Prelude.{Cluster, Answered, Command, Len, no_round, letter}
use Rattle.cx_base.specs.declared.command.Value.TheVariants.{Batch}
use Rattle.cx_base.specs.declared.event.Event.TheVariants as event
use Rattle.cx_base.specs.declared.why.Why.TheVariants as why
use Rattle.cx_letter.specs.declared.kept.Record.TheVariants as kept
use Rattle.cx_letter.specs.declared.message.Msg.TheVariants as msg
use Rattle.cx_model.specs.Examples.{Line, IsRun, one_of_each, client, batcher, leader, proxy, acceptor, matchmaker, replica, unbatcher}
use Rattle.cx_model.specs.Examples.{first, single, make_put, app, command_with_floor, put_a, answered, lead, deliver, final_state, hold}
use Rattle.cx_model.specs.Examples.{make_pair, ◌⇒◌, ◌keeping◌by◌, ◌sending◌}

abbrev pub cluster : Cluster
cluster =
    record one_of_each {
      clients = 2;
      some_client = lit≤ tt;
      clients_fit = lit≤ tt;
      batch = 2;
      some_batch = lit≤ tt;
      batch_fits = lit≤ tt;
    }

-- the second commands, of clients that are done with their first
abbrev pub app_a : Command
app_a = app 0 2 (codes "a") (codes "2")

abbrev pub app_b : Command
app_b = app 1 2 (codes "b") (codes "2")

abbrev pub put_b : Command
put_b = make_put 1 1 (codes "b") (codes "1")

-- client 0 isn't done with its first number when it sends its second one first, and client 1 when it sends it again
abbrev pub once : List Command
once = command_with_floor 0 app_a ∷ app_b ∷ []

abbrev pub again : List Command
again = app_a ∷ command_with_floor 0 app_b ∷ []

abbrev pub lower_numbers : List Command
lower_numbers = put_a ∷ put_b ∷ []

abbrev pub batch_results : List Answered
batch_results = answered 0 2 1 (Len 1) ∷ answered 1 2 1 (Len 1) ∷ []

abbrev pub story : List Line
story =
    lead 0 (single 0) ⇒ why.Started
    keeping kept.Round first (single 0) by leader 0
    sending letter (leader 0) (matchmaker 0) (msg.MatchA first (single 0))  -- 0
    ∷ deliver 0 ⇒ why.Matched
    keeping kept.Match first (single 0) by matchmaker 0
    sending letter (matchmaker 0) (leader 0) (msg.MatchB first no_round [])  -- 1
    ∷ deliver 1 ⇒ why.Leads
    sending letter (leader 0) (batcher 0) (msg.Leads first)  -- 2
    ∷ event.Write put_a 0 ⇒ why.Sent
    sending letter (client 0) (batcher 0) (msg.Submit put_a)  -- 3
    ∷ event.Write (command_with_floor 0 app_a) 0 ⇒ why.Sent
    sending letter (client 0) (batcher 0) (msg.Submit (command_with_floor 0 app_a))  -- 4
    ∷ event.Write app_a 0 ⇒ why.Sent
    sending letter (client 0) (batcher 0) (msg.Submit app_a)  -- 5
    ∷ event.Write put_b 0 ⇒ why.Sent
    sending letter (client 1) (batcher 0) (msg.Submit put_b)  -- 6
    ∷ event.Write app_b 0 ⇒ why.Sent
    sending letter (client 1) (batcher 0) (msg.Submit app_b)  -- 7
    ∷ event.Write (command_with_floor 0 app_b) 0 ⇒ why.Sent
    sending letter (client 1) (batcher 0) (msg.Submit (command_with_floor 0 app_b))  -- 8
    ∷ deliver 4 ⇒ why.Held
    ∷ deliver 7 ⇒ why.Batched
    sending letter (batcher 0) (leader 0) (msg.Batch once)  -- 9
    ∷ deliver 5 ⇒ why.Held
    ∷ deliver 8 ⇒ why.Batched
    sending letter (batcher 0) (leader 0) (msg.Batch again)  -- 10
    ∷ deliver 3 ⇒ why.Held
    ∷ deliver 6 ⇒ why.Batched
    sending letter (batcher 0) (leader 0) (msg.Batch lower_numbers)  -- 11
    ∷ deliver 9 ⇒ why.Proposed
    sending letter (leader 0) (proxy 0) (msg.Propose first (single 0) 0 0 (Batch once))  -- 12
    ∷ deliver 10 ⇒ why.Proposed
    sending letter (leader 0) (proxy 0) (msg.Propose first (single 0) 1 0 (Batch again))  -- 13
    ∷ deliver 11 ⇒ why.Proposed
    sending letter (leader 0) (proxy 0) (msg.Propose first (single 0) 2 0 (Batch lower_numbers))  -- 14
    ∷ deliver 12 ⇒ why.Asking
    sending letter (proxy 0) (acceptor 0) (msg.Phase2A first 0 0 (Batch once))  -- 15
    ∷ deliver 13 ⇒ why.Asking
    sending letter (proxy 0) (acceptor 0) (msg.Phase2A first 1 0 (Batch again))  -- 16
    ∷ deliver 14 ⇒ why.Asking
    sending letter (proxy 0) (acceptor 0) (msg.Phase2A first 2 0 (Batch lower_numbers))  -- 17
    ∷ deliver 15 ⇒ why.Voted
    keeping kept.Vote first 0 0 (Batch once) by acceptor 0
    sending letter (acceptor 0) (proxy 0) (msg.Phase2B first 0)  -- 18
    ∷ deliver 16 ⇒ why.Voted
    keeping kept.Vote first 1 0 (Batch again) by acceptor 0
    sending letter (acceptor 0) (proxy 0) (msg.Phase2B first 1)  -- 19
    ∷ deliver 17 ⇒ why.Voted
    keeping kept.Vote first 2 0 (Batch lower_numbers) by acceptor 0
    sending letter (acceptor 0) (proxy 0) (msg.Phase2B first 2)  -- 20
    ∷ deliver 18 ⇒ why.Chosen
    sending letter (proxy 0) (replica 0) (msg.Chosen 0 (Batch once))  -- 21
    sending letter (proxy 0) (leader 0) (msg.ChosenIn first 0)  -- 22
    ∷ deliver 19 ⇒ why.Chosen
    sending letter (proxy 0) (replica 0) (msg.Chosen 1 (Batch again))  -- 23
    sending letter (proxy 0) (leader 0) (msg.ChosenIn first 1)  -- 24
    ∷ deliver 20 ⇒ why.Chosen
    sending letter (proxy 0) (replica 0) (msg.Chosen 2 (Batch lower_numbers))  -- 25
    sending letter (proxy 0) (leader 0) (msg.ChosenIn first 2)  -- 26
    ∷ deliver 21 ⇒ why.Applied
    keeping kept.Log (Batch once ∷ []) by replica 0
    sending letter (replica 0) (unbatcher 0) (msg.Results 0 batch_results)  -- 27
    ∷ deliver 23 ⇒ why.Applied
    keeping kept.Log (Batch again ∷ []) by replica 0
    sending letter (replica 0) (unbatcher 0) (msg.Results 1 batch_results)  -- 28
    ∷ deliver 25 ⇒ why.Applied
    keeping kept.Log (Batch lower_numbers ∷ []) by replica 0
    ∷ deliver 27 ⇒ why.Unbatched
    sending letter (unbatcher 0) (client 0) (msg.Answer 2 1 (Len 1))  -- 29
    sending letter (unbatcher 0) (client 1) (msg.Answer 2 1 (Len 1))  -- 30
    ∷ deliver 28 ⇒ why.Unbatched
    sending letter (unbatcher 0) (client 0) (msg.Answer 2 1 (Len 1))  -- 31
    sending letter (unbatcher 0) (client 1) (msg.Answer 2 1 (Len 1))  -- 32
    ∷ []

abbrev pub RepeatTellsItsFloor : Type 0
RepeatTellsItsFloor =
    IsRun cluster story
    (final_state (Batch once ∷ Batch again ∷ Batch lower_numbers ∷ []) (true ∷ true ∷ false ∷ false ∷ false ∷ false ∷ [])
    (hold 3 (make_pair (codes "a") (codes "2") ∷ make_pair (codes "b") (codes "2") ∷ []) ∷ []))
