-- Three rounds: the second retires the earlier one at one matchmaker, the third is recorded at another one. Then these two stop, and the
-- next set begins with the greatest retirement watermark and all entries from there on. Both leaders learn of it, ask it and count its
-- answers alone. The member that hasn't begun answers nothing.
use Rattle.std.specs.Prelude.{ℕ, List, [], ◌∷◌}
use Rattle.std.proofs.Common.{lit≤}
use Rattle.cx_letter.specs.Prelude.{Cluster, Round, no_round, letter}
use Rattle.cx_base.specs.declared.why.Why.TheVariants as why
use Rattle.cx_letter.specs.declared.kept.Record.TheVariants as kept
use Rattle.cx_letter.specs.declared.message.Msg.TheVariants as msg
use Rattle.cx_model.specs.Examples.{Line, IsRun, one_of_each, batcher, leader, acceptor, matchmaker, reader, replacer, make_round, first}
use Rattle.cx_model.specs.Examples.{single, lead, collect, replace, deliver, final_state, hold, ◌⇒◌, ◌keeping◌by◌, ◌sending◌}
use Rattle.cx_model.specs.Matchmaker.{entry}

abbrev pub cluster : Cluster
cluster =
    record one_of_each {
      f = 1;
      pool = 6;
      leaders = 3;
      replicas = 2;
      replacers = 1;
      f_fits = lit≤ tt;
      some_pool = lit≤ tt;
      pool_fits = lit≤ tt;
      some_leader = lit≤ tt;
      leaders_fit = lit≤ tt;
      some_replicas = lit≤ tt;
      replicas_fit = lit≤ tt;
      replacers_fit = lit≤ tt;
    }

abbrev pub second : Round
second = make_round 1 1 0

abbrev pub third : Round
third = make_round 1 2 0

-- the set after the first
abbrev pub next : List ℕ
next = 3 ∷ 4 ∷ 5 ∷ []

abbrev pub story : List Line
story =
    lead 0 (single 0) ⇒ why.Started
    keeping kept.Round first (single 0) by leader 0
    sending letter (leader 0) (matchmaker 0) (msg.MatchA first (single 0))  -- 0
    sending letter (leader 0) (matchmaker 1) (msg.MatchA first (single 0))  -- 1
    sending letter (leader 0) (matchmaker 2) (msg.MatchA first (single 0))  -- 2
    ∷ deliver 0 ⇒ why.Matched
    keeping kept.Match first (single 0) by matchmaker 0
    sending letter (matchmaker 0) (leader 0) (msg.MatchB first no_round [])  -- 3
    ∷ lead 1 (single 0) ⇒ why.Started
    keeping kept.Round second (single 0) by leader 1
    sending letter (leader 1) (matchmaker 0) (msg.MatchA second (single 0))  -- 4
    sending letter (leader 1) (matchmaker 1) (msg.MatchA second (single 0))  -- 5
    sending letter (leader 1) (matchmaker 2) (msg.MatchA second (single 0))  -- 6
    ∷ deliver 4 ⇒ why.Matched
    keeping kept.Match second (single 0) by matchmaker 0
    sending letter (matchmaker 0) (leader 1) (msg.MatchB second no_round (entry first (single 0) ∷ []))  -- 7
    ∷ deliver 5 ⇒ why.Matched
    keeping kept.Match second (single 0) by matchmaker 1
    sending letter (matchmaker 1) (leader 1) (msg.MatchB second no_round [])  -- 8
    ∷ deliver 7 ⇒ why.Counted
    ∷ deliver 8 ⇒ why.Phase1
    sending letter (leader 1) (acceptor 0) (msg.Phase1A second)  -- 9
    ∷ deliver 9 ⇒ why.Promised
    keeping kept.Promise second by acceptor 0
    sending letter (acceptor 0) (leader 1) (msg.Phase1B second 0 [])  -- 10
    ∷ deliver 10 ⇒ why.Leads
    sending letter (leader 1) (batcher 0) (msg.Leads second)  -- 11
    ∷ collect 1 ⇒ why.Informing
    sending letter (leader 1) (acceptor 0) (msg.Inform second 0)  -- 12
    ∷ deliver 12 ⇒ why.Same
    sending letter (acceptor 0) (leader 1) (msg.Informed second 0)  -- 13
    ∷ deliver 13 ⇒ why.Collecting
    sending letter (leader 1) (matchmaker 0) (msg.GarbageA second (single 0))  -- 14
    sending letter (leader 1) (matchmaker 1) (msg.GarbageA second (single 0))  -- 15
    sending letter (leader 1) (matchmaker 2) (msg.GarbageA second (single 0))  -- 16
    ∷ deliver 15 ⇒ why.Raised
    keeping kept.Garbage second (single 0) by matchmaker 1
    sending letter (matchmaker 1) (leader 1) (msg.GarbageB second)  -- 17
    ∷ lead 2 (single 0) ⇒ why.Started
    keeping kept.Round third (single 0) by leader 2
    sending letter (leader 2) (matchmaker 0) (msg.MatchA third (single 0))  -- 18
    sending letter (leader 2) (matchmaker 1) (msg.MatchA third (single 0))  -- 19
    sending letter (leader 2) (matchmaker 2) (msg.MatchA third (single 0))  -- 20
    ∷ deliver 18 ⇒ why.Matched
    keeping kept.Match third (single 0) by matchmaker 0
    sending letter (matchmaker 0) (leader 2) (msg.MatchB third no_round (entry first (single 0) ∷ entry second (single 0) ∷ []))  -- 21
    ∷ replace 0 next ⇒ why.Started
    keeping kept.Ballot first by replacer 0
    sending letter (replacer 0) (matchmaker 0) (msg.StopA first)  -- 22
    sending letter (replacer 0) (matchmaker 1) (msg.StopA first)  -- 23
    sending letter (replacer 0) (matchmaker 2) (msg.StopA first)  -- 24
    ∷ deliver 23 ⇒ why.Halted
    keeping kept.Stop first by matchmaker 1
    sending letter (matchmaker 1) (replacer 0) (msg.StopB first second (entry second (single 0) ∷ []) no_round [])  -- 25
    ∷ deliver 22 ⇒ why.Halted
    keeping kept.Stop first by matchmaker 0
    sending letter (matchmaker 0) (replacer 0)
    (msg.StopB first no_round (entry first (single 0) ∷ entry second (single 0) ∷ entry third (single 0) ∷ []) no_round [])  -- 26
    ∷ deliver 25 ⇒ why.Counted
    ∷ deliver 26 ⇒ why.Asking
    sending letter (replacer 0) (matchmaker 0) (msg.NextA first next)  -- 27
    sending letter (replacer 0) (matchmaker 1) (msg.NextA first next)  -- 28
    sending letter (replacer 0) (matchmaker 2) (msg.NextA first next)  -- 29
    ∷ deliver 27 ⇒ why.Accepted
    keeping kept.Next first next by matchmaker 0
    sending letter (matchmaker 0) (replacer 0) (msg.NextB first)  -- 30
    ∷ deliver 28 ⇒ why.Accepted
    keeping kept.Next first next by matchmaker 1
    sending letter (matchmaker 1) (replacer 0) (msg.NextB first)  -- 31
    ∷ deliver 30 ⇒ why.Counted
    ∷ deliver 31 ⇒ why.Decided
    sending letter (replacer 0) (matchmaker 3) (msg.BootA next second (entry second (single 0) ∷ entry third (single 0) ∷ []))  -- 32
    sending letter (replacer 0) (matchmaker 4) (msg.BootA next second (entry second (single 0) ∷ entry third (single 0) ∷ []))  -- 33
    sending letter (replacer 0) (matchmaker 5) (msg.BootA next second (entry second (single 0) ∷ entry third (single 0) ∷ []))  -- 34
    ∷ deliver 32 ⇒ why.Booted
    keeping kept.Boot next second (entry second (single 0) ∷ entry third (single 0) ∷ []) by matchmaker 3
    sending letter (matchmaker 3) (replacer 0) (msg.BootB next)  -- 35
    ∷ deliver 33 ⇒ why.Booted
    keeping kept.Boot next second (entry second (single 0) ∷ entry third (single 0) ∷ []) by matchmaker 4
    sending letter (matchmaker 4) (replacer 0) (msg.BootB next)  -- 36
    ∷ deliver 32 ⇒ why.Same
    sending letter (matchmaker 3) (replacer 0) (msg.BootB next)  -- 37
    ∷ deliver 35 ⇒ why.Counted
    ∷ deliver 36 ⇒ why.Replaced
    sending letter (replacer 0) (leader 0) (msg.Sets next)  -- 38
    sending letter (replacer 0) (leader 1) (msg.Sets next)  -- 39
    sending letter (replacer 0) (leader 2) (msg.Sets next)  -- 40
    sending letter (replacer 0) (reader 0) (msg.Sets next)  -- 41
    ∷ deliver 17 ⇒ why.Counted
    ∷ deliver 14 ⇒ why.Stopped
    ∷ deliver 39 ⇒ why.Learnt
    sending letter (leader 1) (matchmaker 3) (msg.GarbageA second (single 0))  -- 42
    sending letter (leader 1) (matchmaker 4) (msg.GarbageA second (single 0))  -- 43
    sending letter (leader 1) (matchmaker 5) (msg.GarbageA second (single 0))  -- 44
    ∷ deliver 17 ⇒ why.Old
    ∷ deliver 44 ⇒ why.New
    ∷ deliver 42 ⇒ why.Same
    sending letter (matchmaker 3) (leader 1) (msg.GarbageB second)  -- 45
    ∷ deliver 43 ⇒ why.Same
    sending letter (matchmaker 4) (leader 1) (msg.GarbageB second)  -- 46
    ∷ deliver 45 ⇒ why.Counted
    ∷ deliver 46 ⇒ why.Retired
    ∷ deliver 40 ⇒ why.Learnt
    sending letter (leader 2) (matchmaker 3) (msg.MatchA third (single 0))  -- 47
    sending letter (leader 2) (matchmaker 4) (msg.MatchA third (single 0))  -- 48
    sending letter (leader 2) (matchmaker 5) (msg.MatchA third (single 0))  -- 49
    ∷ deliver 21 ⇒ why.Old
    ∷ deliver 47 ⇒ why.Same
    sending letter (matchmaker 3) (leader 2) (msg.MatchB third second (entry second (single 0) ∷ []))  -- 50
    ∷ deliver 48 ⇒ why.Same
    sending letter (matchmaker 4) (leader 2) (msg.MatchB third second (entry second (single 0) ∷ []))  -- 51
    ∷ deliver 50 ⇒ why.Counted
    ∷ deliver 51 ⇒ why.Phase1
    sending letter (leader 2) (acceptor 0) (msg.Phase1A third)  -- 52
    ∷ []

abbrev pub StoppedLogsAreJoined : Type 0
StoppedLogsAreJoined = IsRun cluster story (final_state [] [] (hold 0 [] ∷ hold 0 [] ∷ []))
