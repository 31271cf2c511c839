use Rattle.cx_model.specs.Prelude.{◌≡◌, drop, is_of_round, vote_at}
use Rattle.cx_acceptor.proofs.votes.has_vote_in_round.Given as goal

abbrev pub invariant-loop-vote : goal.invariant-loop-vote
invariant-loop-vote l =
    is_of_round l.round (vote_at l.slot (drop l.vote-index l.votes)) ≡ is_of_round l.round (vote_at l.slot l.votes)
