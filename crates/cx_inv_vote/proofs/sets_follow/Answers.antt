use Rattle.cx_inv_vote.proofs.OneSet.{sets_are_a_chain}
use Rattle.cx_inv_vote.proofs.sets_follow.Goals as goal

pub returns : goal.returns
returns g = sets_are_a_chain
