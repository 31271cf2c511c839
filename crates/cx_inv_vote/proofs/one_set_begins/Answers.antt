use Rattle.cx_inv_vote.proofs.OneSet.{one_begins}
use Rattle.cx_inv_vote.proofs.one_set_begins.Goals as goal

pub returns : goal.returns
returns g = one_begins
