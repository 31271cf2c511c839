use Rattle.cx_model.specs.Prelude.{◌≡◌, drop, has_vote}
use Rattle.cx_choice.specs.Sorted.{casts_in}
use Rattle.cx_choice.proofs.enough.has_vote.Given as goal

abbrev pub invariant-loop-one : goal.invariant-loop-one
invariant-loop-one l =
    has_vote (casts_in (drop l.one-index l.votes)) l.acceptor l.of l.at l.wanted ≡ has_vote (casts_in l.votes) l.acceptor l.of l.at l.wanted
