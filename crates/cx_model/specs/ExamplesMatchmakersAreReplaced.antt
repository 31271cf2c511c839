-- The one matchmaker is stopped, the next is decided with its vote, and begins with what it recorded. The stopped one records no round any
-- more; the leader learns of the new one, asks it, and hears of the earlier round.
use Rattle.std.specs.Prelude.{ℕ, List, [], ◌∷◌}
use Rattle.std.proofs.Common.{lit≤}
use Rattle.cx_letter.specs.Prelude.{Cluster, Round, no_round, letter}
use Rattle.cx_base.specs.declared.why.Why.TheVariants as why
use Rattle.cx_letter.specs.declared.kept.Record.TheVariants as kept
use Rattle.cx_letter.specs.declared.message.Msg.TheVariants as msg
use Rattle.cx_model.specs.Examples.{Line, IsRun, one_of_each, batcher, leader, acceptor, matchmaker, reader, replacer, make_round, first}
use Rattle.cx_model.specs.Examples.{single, lead, replace, deliver, final_state, hold, ◌⇒◌, ◌keeping◌by◌, ◌sending◌}
use Rattle.cx_model.specs.Matchmaker.{entry}

abbrev pub cluster : Cluster
cluster =
    record one_of_each {
      pool = 2;
      replacers = 1;
      some_pool = lit≤ tt;
      pool_fits = lit≤ tt;
      replacers_fit = lit≤ tt;
    }

-- the second matchmaker
abbrev pub second_matchmaker : List ℕ
second_matchmaker = 1 ∷ []

abbrev pub again : Round
again = make_round 2 0 0

abbrev pub story : List Line
story =
    lead 0 (single 0) ⇒ why.Started
    keeping kept.Round first (single 0) by leader 0
    sending letter (leader 0) (matchmaker 0) (msg.MatchA first (single 0))  -- 0
    ∷ deliver 0 ⇒ why.Matched
    keeping kept.Match first (single 0) by matchmaker 0
    sending letter (matchmaker 0) (leader 0) (msg.MatchB first no_round [])  -- 1
    ∷ deliver 1 ⇒ why.Leads
    sending letter (leader 0) (batcher 0) (msg.Leads first)  -- 2
    ∷ replace 0 second_matchmaker ⇒ why.Started
    keeping kept.Ballot first by replacer 0
    sending letter (replacer 0) (matchmaker 0) (msg.StopA first)  -- 3
    ∷ deliver 3 ⇒ why.Halted
    keeping kept.Stop first by matchmaker 0
    sending letter (matchmaker 0) (replacer 0) (msg.StopB first no_round (entry first (single 0) ∷ []) no_round [])  -- 4
    ∷ deliver 4 ⇒ why.Asking
    sending letter (replacer 0) (matchmaker 0) (msg.NextA first second_matchmaker)  -- 5
    ∷ deliver 5 ⇒ why.Accepted
    keeping kept.Next first second_matchmaker by matchmaker 0
    sending letter (matchmaker 0) (replacer 0) (msg.NextB first)  -- 6
    ∷ deliver 6 ⇒ why.Decided
    sending letter (replacer 0) (matchmaker 1) (msg.BootA second_matchmaker no_round (entry first (single 0) ∷ []))  -- 7
    ∷ deliver 7 ⇒ why.Booted
    keeping kept.Boot second_matchmaker no_round (entry first (single 0) ∷ []) by matchmaker 1
    sending letter (matchmaker 1) (replacer 0) (msg.BootB second_matchmaker)  -- 8
    ∷ deliver 8 ⇒ why.Replaced
    sending letter (replacer 0) (leader 0) (msg.Sets second_matchmaker)  -- 9
    sending letter (replacer 0) (reader 0) (msg.Sets second_matchmaker)  -- 10
    ∷ deliver 0 ⇒ why.Stopped
    ∷ lead 0 (single 0) ⇒ why.Started
    keeping kept.Round again (single 0) by leader 0
    sending letter (leader 0) (matchmaker 0) (msg.MatchA again (single 0))  -- 11
    ∷ deliver 11 ⇒ why.Stopped
    ∷ deliver 9 ⇒ why.Learnt
    sending letter (leader 0) (matchmaker 1) (msg.MatchA again (single 0))  -- 12
    ∷ deliver 12 ⇒ why.Matched
    keeping kept.Match again (single 0) by matchmaker 1
    sending letter (matchmaker 1) (leader 0) (msg.MatchB again no_round (entry first (single 0) ∷ []))  -- 13
    ∷ deliver 13 ⇒ why.Phase1
    sending letter (leader 0) (acceptor 0) (msg.Phase1A again)  -- 14
    ∷ []

abbrev pub MatchmakersAreReplaced : Type 0
MatchmakersAreReplaced = IsRun cluster story (final_state [] [] (hold 0 [] ∷ []))
