-- With the key a replacer keeps the set that it comes to know: the one that replaced the matchmakers keeps it as the last of them
-- begins, and a second one as it is told. After all stopped and started the second knows it, and tells it again, though nobody asked
-- the first set. A record that was lost with a crash is learnt again.
use Rattle.std.specs.Prelude.{true, ℕ, List, [], ◌∷◌}
use Rattle.std.proofs.Common.{lit≤}
use Rattle.cx_letter.specs.Prelude.{Cluster, Torn, no_round, letter}
use Rattle.cx_base.specs.declared.event.Event.TheVariants as event
use Rattle.cx_base.specs.declared.why.Why.TheVariants as why
use Rattle.cx_letter.specs.declared.kept.Record.TheVariants as kept
use Rattle.cx_letter.specs.declared.message.Msg.TheVariants as msg
use Rattle.cx_model.specs.Examples.{Line, IsRun, one_of_each, leader, matchmaker, reader, replacer, first, replace, deliver}
use Rattle.cx_model.specs.Examples.{final_state, hold, ◌⇒◌, ◌keeping◌by◌, ◌sending◌}

abbrev pub cluster : Cluster
cluster =
    record one_of_each {
      pool = 2;
      replacers = 2;
      keep_sets = true;
      some_pool = lit≤ tt;
      pool_fits = lit≤ tt;
      replacers_fit = lit≤ tt;
    }

-- the second matchmaker
abbrev pub second : List ℕ
second = 1 ∷ []

abbrev pub story : List Line
story =
    replace 0 second ⇒ why.Started
    keeping kept.Ballot first by replacer 0
    sending letter (replacer 0) (matchmaker 0) (msg.StopA first)  -- 0
    ∷ deliver 0 ⇒ why.Halted
    keeping kept.Stop first by matchmaker 0
    sending letter (matchmaker 0) (replacer 0) (msg.StopB first no_round [] no_round [])  -- 1
    ∷ deliver 1 ⇒ why.Asking
    sending letter (replacer 0) (matchmaker 0) (msg.NextA first second)  -- 2
    ∷ deliver 2 ⇒ why.Accepted
    keeping kept.Next first second by matchmaker 0
    sending letter (matchmaker 0) (replacer 0) (msg.NextB first)  -- 3
    ∷ deliver 3 ⇒ why.Decided
    sending letter (replacer 0) (matchmaker 1) (msg.BootA second no_round [])  -- 4
    ∷ deliver 4 ⇒ why.Booted
    keeping kept.Boot second no_round [] by matchmaker 1
    sending letter (matchmaker 1) (replacer 0) (msg.BootB second)  -- 5
    ∷ deliver 5 ⇒ why.Replaced
    keeping kept.Known second by replacer 0
    sending letter (replacer 0) (leader 0) (msg.Sets second)  -- 6
    sending letter (replacer 0) (reader 0) (msg.Sets second)  -- 7
    sending letter (replacer 0) (replacer 1) (msg.Sets second)  -- 8
    ∷ event.Deliver 8 Torn ⇒ why.Torn
    ∷ event.Restart (replacer 1) ⇒ why.Opened
    ∷ event.Tick (replacer 1) ⇒ why.Idle
    ∷ deliver 8 ⇒ why.Learnt
    keeping kept.Known second by replacer 1
    ∷ deliver 8 ⇒ why.Old
    ∷ event.Crash (leader 0) ⇒ why.Crashed
    ∷ event.Crash (replacer 0) ⇒ why.Crashed
    ∷ event.Crash (replacer 1) ⇒ why.Crashed
    ∷ event.Restart (leader 0) ⇒ why.Opened
    ∷ event.Restart (replacer 1) ⇒ why.Opened
    ∷ event.Tick (replacer 1) ⇒ why.Resent
    sending letter (replacer 1) (leader 0) (msg.Sets second)  -- 9
    sending letter (replacer 1) (reader 0) (msg.Sets second)  -- 10
    sending letter (replacer 1) (replacer 0) (msg.Sets second)  -- 11
    ∷ deliver 9 ⇒ why.Learnt
    ∷ []

abbrev pub SetIsKept : Type 0
SetIsKept = IsRun cluster story (final_state [] [] (hold 0 [] ∷ []))
