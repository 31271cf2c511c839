use Rattle.std.proofs.Common.{◌≡◌, ◌<◌, ◌+◌, true, All}
use Rattle.cx_phase1.specs.Best.{with_votes}
use Rattle.cx_phase1.proofs.best.hold_all.Given as goal

abbrev pub invariant-loop-vote : goal.invariant-loop-vote
invariant-loop-vote l = record {
  can : goal.iterator-loop-vote.can_next l.vote-iterator;
  ends : goal.iterator-loop-vote.is_finite l.vote-iterator;
  room : l.best.room ≡ true;
  high : All (λ v. v.slot < l.best.first + 32) l.vote-iterator.rest.items;
  done : with_votes l.vote-iterator.rest.items l.best ≡ with_votes l.fn.votes.items l.fn.best;
}
