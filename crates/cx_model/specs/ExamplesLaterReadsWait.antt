-- Two reads come while a batch of an earlier one runs: they wait. When it is done, one asking serves both.
use Rattle.std.specs.Prelude.{◌++◌, List, [], ◌∷◌, codes, None}
use Rattle.std.proofs.Common.{lit≤}
use Rattle.cx_letter.specs.Prelude.{Cluster, no_round, letter}
use Rattle.cx_base.specs.declared.event.Event.TheVariants as event
use Rattle.cx_base.specs.declared.why.Why.TheVariants as why
use Rattle.cx_letter.specs.declared.kept.Record.TheVariants as kept
use Rattle.cx_letter.specs.declared.message.Msg.TheVariants as msg
use Rattle.cx_model.specs.Examples.{Line, IsRun, one_of_each, client, matchmaker, replica, reader, deliver, final_state, hold, ◌⇒◌}
use Rattle.cx_model.specs.Examples.{◌keeping◌by◌, ◌sending◌}
use Rattle.cx_model.specs.Reader.{asking, make_token}

abbrev pub cluster : Cluster
cluster =
    record one_of_each {
      clients = 3;
      some_client = lit≤ tt;
      clients_fit = lit≤ tt;
    }

-- three clients ask for a key, and the first one's read begins a batch
abbrev pub begun : List Line
begun =
    event.Read 0 1 0 0 0 (codes "a") ⇒ why.Sent
    sending letter (client 0) (reader 0) (msg.ReadReq 1 0 (codes "a"))  -- 0
    ∷ event.Read 1 1 0 0 0 (codes "a") ⇒ why.Sent
    sending letter (client 1) (reader 0) (msg.ReadReq 1 0 (codes "a"))  -- 1
    ∷ event.Read 2 1 0 0 0 (codes "a") ⇒ why.Sent
    sending letter (client 2) (reader 0) (msg.ReadReq 1 0 (codes "a"))  -- 2
    ∷ deliver 0 ⇒ why.Started
    keeping kept.Turn 1 by reader 0
    sending letter (reader 0) (matchmaker 0) (msg.MatchRead (asking 0 1))  -- 3
    ∷ deliver 1 ⇒ why.Queued
    ∷ []

abbrev pub story : List Line
story =
    begun ++
    deliver 2 ⇒ why.Queued
    ∷ deliver 3 ⇒ why.Asked
    sending letter (matchmaker 0) (reader 0) (msg.MatchReadAck (asking 0 1) no_round [])  -- 4
    ∷ deliver 4 ⇒ why.Sent
    keeping kept.Turn 2 by reader 0
    sending letter (reader 0) (replica 0) (msg.Read (make_token 0 1) 0 (codes "a"))  -- 5
    sending letter (reader 0) (matchmaker 0) (msg.MatchRead (asking 0 2))  -- 6
    ∷ deliver 6 ⇒ why.Asked
    sending letter (matchmaker 0) (reader 0) (msg.MatchReadAck (asking 0 2) no_round [])  -- 7
    ∷ deliver 7 ⇒ why.Sent
    sending letter (reader 0) (replica 0) (msg.Read (make_token 1 1) 0 (codes "a"))  -- 8
    sending letter (reader 0) (replica 0) (msg.Read (make_token 2 1) 0 (codes "a"))  -- 9
    ∷ deliver 5 ⇒ why.Answered
    sending letter (replica 0) (client 0) (msg.ReadAnswer 1 0 None)  -- 10
    ∷ []

abbrev pub LaterReadsWait : Type 0
LaterReadsWait = IsRun cluster story (final_state [] [] (hold 0 [] ∷ []))
