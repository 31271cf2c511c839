-- Two of three matchmakers are enough, and a leader leads again with another grid and retires its round before. A matchmaker that never
-- heard of the new round forgets all earlier ones and has an entry of the new one.
use Rattle.std.specs.Prelude.{List, [], ◌∷◌, codes, None}
use Rattle.std.proofs.Common.{lit≤}
use Rattle.cx_letter.specs.Prelude.{Cluster, Round, Shape, make_grid, no_round, letter}
use Rattle.cx_base.specs.declared.event.Event.TheVariants as event
use Rattle.cx_base.specs.declared.why.Why.TheVariants as why
use Rattle.cx_field.specs.declared.parts.NackReason.TheVariants as nack
use Rattle.cx_letter.specs.declared.kept.Record.TheVariants as kept
use Rattle.cx_letter.specs.declared.message.Msg.TheVariants as msg
use Rattle.cx_model.specs.Examples.{Line, IsRun, one_of_each, client, batcher, leader, acceptor, matchmaker, replica, reader, make_round}
use Rattle.cx_model.specs.Examples.{first, single, lead, collect, deliver, final_state, hold, ◌⇒◌, ◌keeping◌by◌, ◌sending◌}
use Rattle.cx_model.specs.Matchmaker.{entry}
use Rattle.cx_model.specs.Reader.{asking, make_token}

abbrev pub cluster : Cluster
cluster =
    record one_of_each {
      f = 1;
      pool = 3;
      acceptors = 3;
      replicas = 2;
      f_fits = lit≤ tt;
      some_pool = lit≤ tt;
      pool_fits = lit≤ tt;
      some_replicas = lit≤ tt;
      some_acceptor = lit≤ tt;
      acceptors_fit = lit≤ tt;
      replicas_fit = lit≤ tt;
    }

abbrev pub next : Round
next = make_round 2 0 0

abbrev pub column : Shape
column = make_grid 2 1 (1 ∷ 2 ∷ [])

abbrev pub story : List Line
story =
    lead 0 (single 0) ⇒ why.Started
    keeping kept.Round first (single 0) by leader 0
    sending letter (leader 0) (matchmaker 0) (msg.MatchA first (single 0))  -- 0
    sending letter (leader 0) (matchmaker 1) (msg.MatchA first (single 0))  -- 1
    sending letter (leader 0) (matchmaker 2) (msg.MatchA first (single 0))  -- 2
    ∷ deliver 0 ⇒ why.Matched
    keeping kept.Match first (single 0) by matchmaker 0
    sending letter (matchmaker 0) (leader 0) (msg.MatchB first no_round [])  -- 3
    ∷ deliver 1 ⇒ why.Matched
    keeping kept.Match first (single 0) by matchmaker 1
    sending letter (matchmaker 1) (leader 0) (msg.MatchB first no_round [])  -- 4
    ∷ deliver 3 ⇒ why.Counted
    ∷ deliver 4 ⇒ why.Leads
    sending letter (leader 0) (batcher 0) (msg.Leads first)  -- 5
    ∷ lead 0 column ⇒ why.Started
    keeping kept.Round next column by leader 0
    sending letter (leader 0) (matchmaker 0) (msg.MatchA next column)  -- 6
    sending letter (leader 0) (matchmaker 1) (msg.MatchA next column)  -- 7
    sending letter (leader 0) (matchmaker 2) (msg.MatchA next column)  -- 8
    ∷ deliver 6 ⇒ why.Matched
    keeping kept.Match next column by matchmaker 0
    sending letter (matchmaker 0) (leader 0) (msg.MatchB next no_round (entry first (single 0) ∷ []))  -- 9
    ∷ deliver 7 ⇒ why.Matched
    keeping kept.Match next column by matchmaker 1
    sending letter (matchmaker 1) (leader 0) (msg.MatchB next no_round (entry first (single 0) ∷ []))  -- 10
    ∷ deliver 9 ⇒ why.Counted
    ∷ deliver 10 ⇒ why.Phase1
    sending letter (leader 0) (acceptor 0) (msg.Phase1A next)  -- 11
    ∷ deliver 11 ⇒ why.Promised
    keeping kept.Promise next by acceptor 0
    sending letter (acceptor 0) (leader 0) (msg.Phase1B next 0 [])  -- 12
    ∷ deliver 12 ⇒ why.Leads
    sending letter (leader 0) (batcher 0) (msg.Leads next)  -- 13
    ∷ collect 0 ⇒ why.Informing
    sending letter (leader 0) (acceptor 1) (msg.Inform next 0)  -- 14
    sending letter (leader 0) (acceptor 2) (msg.Inform next 0)  -- 15
    ∷ deliver 14 ⇒ why.Informed
    keeping kept.Water next 0 by acceptor 1
    sending letter (acceptor 1) (leader 0) (msg.Informed next 0)  -- 16
    ∷ deliver 16 ⇒ why.Counted
    ∷ deliver 16 ⇒ why.Same
    ∷ deliver 15 ⇒ why.Informed
    keeping kept.Water next 0 by acceptor 2
    sending letter (acceptor 2) (leader 0) (msg.Informed next 0)  -- 17
    ∷ deliver 17 ⇒ why.Collecting
    sending letter (leader 0) (matchmaker 0) (msg.GarbageA next column)  -- 18
    sending letter (leader 0) (matchmaker 1) (msg.GarbageA next column)  -- 19
    sending letter (leader 0) (matchmaker 2) (msg.GarbageA next column)  -- 20
    ∷ deliver 20 ⇒ why.Raised
    keeping kept.Garbage next column by matchmaker 2
    sending letter (matchmaker 2) (leader 0) (msg.GarbageB next)  -- 21
    ∷ deliver 18 ⇒ why.Raised
    keeping kept.Garbage next column by matchmaker 0
    sending letter (matchmaker 0) (leader 0) (msg.GarbageB next)  -- 22
    ∷ deliver 21 ⇒ why.Counted
    ∷ deliver 21 ⇒ why.Same
    ∷ deliver 22 ⇒ why.Retired
    ∷ deliver 8 ⇒ why.Same
    sending letter (matchmaker 2) (leader 0) (msg.MatchB next next [])  -- 23
    ∷ deliver 2 ⇒ why.Collected
    sending letter (matchmaker 2) (leader 0) (msg.MatchNack first nack.Collected next)  -- 24
    ∷ event.Read 0 1 0 0 0 (codes "a") ⇒ why.Sent
    sending letter (client 0) (reader 0) (msg.ReadReq 1 0 (codes "a"))  -- 25
    ∷ deliver 25 ⇒ why.Started
    keeping kept.Turn 1 by reader 0
    sending letter (reader 0) (matchmaker 0) (msg.MatchRead (asking 0 1))  -- 26
    sending letter (reader 0) (matchmaker 1) (msg.MatchRead (asking 0 1))  -- 27
    sending letter (reader 0) (matchmaker 2) (msg.MatchRead (asking 0 1))  -- 28
    ∷ deliver 28 ⇒ why.Asked
    sending letter (matchmaker 2) (reader 0) (msg.MatchReadAck (asking 0 1) next (entry next column ∷ []))  -- 29
    ∷ deliver 27 ⇒ why.Asked
    sending letter (matchmaker 1) (reader 0)
    (msg.MatchReadAck (asking 0 1) no_round (entry first (single 0) ∷ entry next column ∷ []))  -- 30
    ∷ deliver 29 ⇒ why.Counted
    ∷ deliver 30 ⇒ why.Asking
    sending letter (reader 0) (acceptor 1) (msg.PreRead (asking 0 1) next)  -- 31
    sending letter (reader 0) (acceptor 2) (msg.PreRead (asking 0 1) next)  -- 32
    ∷ deliver 31 ⇒ why.Asked
    sending letter (acceptor 1) (reader 0) (msg.PreReadAck (asking 0 1) next 0)  -- 33
    ∷ deliver 33 ⇒ why.Sent
    sending letter (reader 0) (replica 0) (msg.Read (make_token 0 1) 0 (codes "a"))  -- 34
    ∷ deliver 34 ⇒ why.Answered
    sending letter (replica 0) (client 0) (msg.ReadAnswer 1 0 None)  -- 35
    ∷ deliver 35 ⇒ why.Heard
    ∷ []

abbrev pub OwnEntryStays : Type 0
OwnEntryStays = IsRun cluster story (final_state [] [] (hold 0 [] ∷ hold 0 [] ∷ []))
