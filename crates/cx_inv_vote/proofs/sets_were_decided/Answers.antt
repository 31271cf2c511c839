use Rattle.cx_inv_vote.proofs.OneSet.{sets_are_decided}
use Rattle.cx_inv_vote.proofs.sets_were_decided.Goals as goal

pub returns : goal.returns
returns g = sets_are_decided
