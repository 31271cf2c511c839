-- A read has one answer of a matchmaker when the reader hears of the next set: it asks that one's members under the same turn, and counts
-- their answers alone. An answer that was late, and one of a matchmaker that never heard that it was replaced, count no more.
use Rattle.std.specs.Prelude.{ℕ, List, [], ◌∷◌, codes}
use Rattle.std.proofs.Common.{lit≤}
use Rattle.cx_letter.specs.Prelude.{Cluster, no_round, letter}
use Rattle.cx_base.specs.declared.event.Event.TheVariants as event
use Rattle.cx_base.specs.declared.why.Why.TheVariants as why
use Rattle.cx_letter.specs.declared.kept.Record.TheVariants as kept
use Rattle.cx_letter.specs.declared.message.Msg.TheVariants as msg
use Rattle.cx_model.specs.Examples.{Line, IsRun, one_of_each, client, leader, matchmaker, replica, reader, replacer, first, replace}
use Rattle.cx_model.specs.Examples.{deliver, final_state, hold, ◌⇒◌, ◌keeping◌by◌, ◌sending◌}
use Rattle.cx_model.specs.Reader.{asking, make_token}

abbrev pub cluster : Cluster
cluster =
    record one_of_each {
      f = 1;
      pool = 6;
      replicas = 2;
      replacers = 1;
      f_fits = lit≤ tt;
      some_pool = lit≤ tt;
      pool_fits = lit≤ tt;
      some_replicas = lit≤ tt;
      replicas_fit = lit≤ tt;
      replacers_fit = lit≤ tt;
    }

-- the set after the first
abbrev pub next : List ℕ
next = 3 ∷ 4 ∷ 5 ∷ []

abbrev pub story : List Line
story =
    event.Read 0 1 0 0 0 (codes "a") ⇒ why.Sent
    sending letter (client 0) (reader 0) (msg.ReadReq 1 0 (codes "a"))  -- 0
    ∷ deliver 0 ⇒ why.Started
    keeping kept.Turn 1 by reader 0
    sending letter (reader 0) (matchmaker 0) (msg.MatchRead (asking 0 1))  -- 1
    sending letter (reader 0) (matchmaker 1) (msg.MatchRead (asking 0 1))  -- 2
    sending letter (reader 0) (matchmaker 2) (msg.MatchRead (asking 0 1))  -- 3
    ∷ deliver 1 ⇒ why.Asked
    sending letter (matchmaker 0) (reader 0) (msg.MatchReadAck (asking 0 1) no_round [])  -- 4
    ∷ deliver 2 ⇒ why.Asked
    sending letter (matchmaker 1) (reader 0) (msg.MatchReadAck (asking 0 1) no_round [])  -- 5
    ∷ deliver 4 ⇒ why.Counted
    ∷ replace 0 next ⇒ why.Started
    keeping kept.Ballot first by replacer 0
    sending letter (replacer 0) (matchmaker 0) (msg.StopA first)  -- 6
    sending letter (replacer 0) (matchmaker 1) (msg.StopA first)  -- 7
    sending letter (replacer 0) (matchmaker 2) (msg.StopA first)  -- 8
    ∷ deliver 6 ⇒ why.Halted
    keeping kept.Stop first by matchmaker 0
    sending letter (matchmaker 0) (replacer 0) (msg.StopB first no_round [] no_round [])  -- 9
    ∷ deliver 7 ⇒ why.Halted
    keeping kept.Stop first by matchmaker 1
    sending letter (matchmaker 1) (replacer 0) (msg.StopB first no_round [] no_round [])  -- 10
    ∷ deliver 9 ⇒ why.Counted
    ∷ deliver 10 ⇒ why.Asking
    sending letter (replacer 0) (matchmaker 0) (msg.NextA first next)  -- 11
    sending letter (replacer 0) (matchmaker 1) (msg.NextA first next)  -- 12
    sending letter (replacer 0) (matchmaker 2) (msg.NextA first next)  -- 13
    ∷ deliver 11 ⇒ why.Accepted
    keeping kept.Next first next by matchmaker 0
    sending letter (matchmaker 0) (replacer 0) (msg.NextB first)  -- 14
    ∷ deliver 12 ⇒ why.Accepted
    keeping kept.Next first next by matchmaker 1
    sending letter (matchmaker 1) (replacer 0) (msg.NextB first)  -- 15
    ∷ deliver 14 ⇒ why.Counted
    ∷ deliver 15 ⇒ why.Decided
    sending letter (replacer 0) (matchmaker 3) (msg.BootA next no_round [])  -- 16
    sending letter (replacer 0) (matchmaker 4) (msg.BootA next no_round [])  -- 17
    sending letter (replacer 0) (matchmaker 5) (msg.BootA next no_round [])  -- 18
    ∷ deliver 16 ⇒ why.Booted
    keeping kept.Boot next no_round [] by matchmaker 3
    sending letter (matchmaker 3) (replacer 0) (msg.BootB next)  -- 19
    ∷ deliver 17 ⇒ why.Booted
    keeping kept.Boot next no_round [] by matchmaker 4
    sending letter (matchmaker 4) (replacer 0) (msg.BootB next)  -- 20
    ∷ deliver 19 ⇒ why.Counted
    ∷ deliver 20 ⇒ why.Replaced
    sending letter (replacer 0) (leader 0) (msg.Sets next)  -- 21
    sending letter (replacer 0) (reader 0) (msg.Sets next)  -- 22
    ∷ deliver 22 ⇒ why.Learnt
    sending letter (reader 0) (matchmaker 3) (msg.MatchRead (asking 0 1))  -- 23
    sending letter (reader 0) (matchmaker 4) (msg.MatchRead (asking 0 1))  -- 24
    sending letter (reader 0) (matchmaker 5) (msg.MatchRead (asking 0 1))  -- 25
    ∷ deliver 22 ⇒ why.Old
    ∷ deliver 5 ⇒ why.Unasked
    ∷ deliver 3 ⇒ why.Asked
    sending letter (matchmaker 2) (reader 0) (msg.MatchReadAck (asking 0 1) no_round [])  -- 26
    ∷ deliver 26 ⇒ why.Unasked
    ∷ deliver 23 ⇒ why.Asked
    sending letter (matchmaker 3) (reader 0) (msg.MatchReadAck (asking 0 1) no_round [])  -- 27
    ∷ deliver 24 ⇒ why.Asked
    sending letter (matchmaker 4) (reader 0) (msg.MatchReadAck (asking 0 1) no_round [])  -- 28
    ∷ deliver 25 ⇒ why.New
    ∷ deliver 27 ⇒ why.Counted
    ∷ deliver 27 ⇒ why.Same
    ∷ deliver 28 ⇒ why.Sent
    sending letter (reader 0) (replica 0) (msg.Read (make_token 0 1) 0 (codes "a"))  -- 29
    ∷ []

abbrev pub ReadAsksTheNextSet : Type 0
ReadAsksTheNextSet = IsRun cluster story (final_state [] [] (hold 0 [] ∷ hold 0 [] ∷ []))
