use Rattle.cx_model.specs.Prelude.{◌≡◌, drop, end_told}
use Rattle.cx_phase1.proofs.planning.end_of.Given as goal

abbrev pub invariant-loop-vote : goal.invariant-loop-vote
invariant-loop-vote l = end_told l.end (drop l.vote-index l.votes) ≡ end_told l.low l.votes
