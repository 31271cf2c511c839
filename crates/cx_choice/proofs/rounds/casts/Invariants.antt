use Rattle.cx_base.proofs.Common.{◌≡◌, ◌++◌, drop, All}
use Rattle.cx_choice.specs.Sorted.{IsCast, casts_in}
use Rattle.cx_choice.proofs.rounds.casts.Given as goal

abbrev pub invariant-loop-vote : goal.invariant-loop-vote
invariant-loop-vote l =
    record {
      votes : casts_in l.casts.items ++ drop l.vote-index l.votes ≡ l.votes;
      cast : All IsCast l.casts.items;
    }
