-- Two replacers have a next set decided among the same three matchmakers. One matchmaker accepted the first one's set, two the other's in a
-- later ballot, which decides it. The first replacer is refused, begins anew and hears of both sets: it asks for the one of the later
-- ballot, not for the one that it was ordered.
use Rattle.std.specs.Prelude.{ℕ, List, [], ◌∷◌}
use Rattle.std.proofs.Common.{lit≤}
use Rattle.cx_letter.specs.Prelude.{Cluster, Round, no_round, letter}
use Rattle.cx_base.specs.declared.why.Why.TheVariants as why
use Rattle.cx_letter.specs.declared.kept.Record.TheVariants as kept
use Rattle.cx_letter.specs.declared.message.Msg.TheVariants as msg
use Rattle.cx_model.specs.Examples.{Line, IsRun, one_of_each, matchmaker, replacer, make_round, first, replace, deliver, final_state, hold}
use Rattle.cx_model.specs.Examples.{◌⇒◌, ◌keeping◌by◌, ◌sending◌}

abbrev pub cluster : Cluster
cluster =
    record one_of_each {
      f = 1;
      pool = 9;
      replicas = 2;
      replacers = 2;
      f_fits = lit≤ tt;
      some_pool = lit≤ tt;
      pool_fits = lit≤ tt;
      some_replicas = lit≤ tt;
      replicas_fit = lit≤ tt;
      replacers_fit = lit≤ tt;
    }

-- the ballots after the first
abbrev pub later : Round
later = make_round 1 1 0

abbrev pub last : Round
last = make_round 2 0 0

abbrev pub ordered_set : List ℕ
ordered_set = 3 ∷ 4 ∷ 5 ∷ []

abbrev pub accepted : List ℕ
accepted = 6 ∷ 7 ∷ 8 ∷ []

abbrev pub story : List Line
story =
    replace 0 ordered_set ⇒ why.Started
    keeping kept.Ballot first by replacer 0
    sending letter (replacer 0) (matchmaker 0) (msg.StopA first)  -- 0
    sending letter (replacer 0) (matchmaker 1) (msg.StopA first)  -- 1
    sending letter (replacer 0) (matchmaker 2) (msg.StopA first)  -- 2
    ∷ deliver 0 ⇒ why.Halted
    keeping kept.Stop first by matchmaker 0
    sending letter (matchmaker 0) (replacer 0) (msg.StopB first no_round [] no_round [])  -- 3
    ∷ deliver 1 ⇒ why.Halted
    keeping kept.Stop first by matchmaker 1
    sending letter (matchmaker 1) (replacer 0) (msg.StopB first no_round [] no_round [])  -- 4
    ∷ deliver 3 ⇒ why.Counted
    ∷ deliver 3 ⇒ why.Same
    ∷ deliver 4 ⇒ why.Asking
    sending letter (replacer 0) (matchmaker 0) (msg.NextA first ordered_set)  -- 5
    sending letter (replacer 0) (matchmaker 1) (msg.NextA first ordered_set)  -- 6
    sending letter (replacer 0) (matchmaker 2) (msg.NextA first ordered_set)  -- 7
    ∷ deliver 5 ⇒ why.Accepted
    keeping kept.Next first ordered_set by matchmaker 0
    sending letter (matchmaker 0) (replacer 0) (msg.NextB first)  -- 8
    ∷ replace 1 accepted ⇒ why.Started
    keeping kept.Ballot later by replacer 1
    sending letter (replacer 1) (matchmaker 0) (msg.StopA later)  -- 9
    sending letter (replacer 1) (matchmaker 1) (msg.StopA later)  -- 10
    sending letter (replacer 1) (matchmaker 2) (msg.StopA later)  -- 11
    ∷ deliver 10 ⇒ why.Halted
    keeping kept.Stop later by matchmaker 1
    sending letter (matchmaker 1) (replacer 1) (msg.StopB later no_round [] no_round [])  -- 12
    ∷ deliver 11 ⇒ why.Halted
    keeping kept.Stop later by matchmaker 2
    sending letter (matchmaker 2) (replacer 1) (msg.StopB later no_round [] no_round [])  -- 13
    ∷ deliver 12 ⇒ why.Counted
    ∷ deliver 13 ⇒ why.Asking
    sending letter (replacer 1) (matchmaker 0) (msg.NextA later accepted)  -- 14
    sending letter (replacer 1) (matchmaker 1) (msg.NextA later accepted)  -- 15
    sending letter (replacer 1) (matchmaker 2) (msg.NextA later accepted)  -- 16
    ∷ deliver 15 ⇒ why.Accepted
    keeping kept.Next later accepted by matchmaker 1
    sending letter (matchmaker 1) (replacer 1) (msg.NextB later)  -- 17
    ∷ deliver 16 ⇒ why.Accepted
    keeping kept.Next later accepted by matchmaker 2
    sending letter (matchmaker 2) (replacer 1) (msg.NextB later)  -- 18
    ∷ deliver 17 ⇒ why.Counted
    ∷ deliver 18 ⇒ why.Decided
    sending letter (replacer 1) (matchmaker 6) (msg.BootA accepted no_round [])  -- 19
    sending letter (replacer 1) (matchmaker 7) (msg.BootA accepted no_round [])  -- 20
    sending letter (replacer 1) (matchmaker 8) (msg.BootA accepted no_round [])  -- 21
    ∷ deliver 6 ⇒ why.Nack
    sending letter (matchmaker 1) (replacer 0) (msg.StopNack first later)  -- 22
    ∷ deliver 22 ⇒ why.Nacked
    ∷ replace 0 ordered_set ⇒ why.Started
    keeping kept.Ballot last by replacer 0
    sending letter (replacer 0) (matchmaker 0) (msg.StopA last)  -- 23
    sending letter (replacer 0) (matchmaker 1) (msg.StopA last)  -- 24
    sending letter (replacer 0) (matchmaker 2) (msg.StopA last)  -- 25
    ∷ deliver 23 ⇒ why.Halted
    keeping kept.Stop last by matchmaker 0
    sending letter (matchmaker 0) (replacer 0) (msg.StopB last no_round [] first ordered_set)  -- 26
    ∷ deliver 24 ⇒ why.Halted
    keeping kept.Stop last by matchmaker 1
    sending letter (matchmaker 1) (replacer 0) (msg.StopB last no_round [] later accepted)  -- 27
    ∷ deliver 26 ⇒ why.Counted
    ∷ deliver 27 ⇒ why.Asking
    sending letter (replacer 0) (matchmaker 0) (msg.NextA last accepted)  -- 28
    sending letter (replacer 0) (matchmaker 1) (msg.NextA last accepted)  -- 29
    sending letter (replacer 0) (matchmaker 2) (msg.NextA last accepted)  -- 30
    ∷ deliver 29 ⇒ why.Accepted
    keeping kept.Next last accepted by matchmaker 1
    sending letter (matchmaker 1) (replacer 0) (msg.NextB last)  -- 31
    ∷ deliver 30 ⇒ why.Accepted
    keeping kept.Next last accepted by matchmaker 2
    sending letter (matchmaker 2) (replacer 0) (msg.NextB last)  -- 32
    ∷ deliver 31 ⇒ why.Counted
    ∷ deliver 32 ⇒ why.Decided
    sending letter (replacer 0) (matchmaker 6) (msg.BootA accepted no_round [])  -- 33
    sending letter (replacer 0) (matchmaker 7) (msg.BootA accepted no_round [])  -- 34
    sending letter (replacer 0) (matchmaker 8) (msg.BootA accepted no_round [])  -- 35
    ∷ deliver 33 ⇒ why.Booted
    keeping kept.Boot accepted no_round [] by matchmaker 6
    sending letter (matchmaker 6) (replacer 0) (msg.BootB accepted)  -- 36
    ∷ []

abbrev pub AcceptedSetIsDecided : Type 0
AcceptedSetIsDecided = IsRun cluster story (final_state [] [] (hold 0 [] ∷ hold 0 [] ∷ []))
