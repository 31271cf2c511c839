use Rattle.cx_inv_vote.proofs.KeptSets.{kept_sets_are_decided}
use Rattle.cx_inv_vote.proofs.kept_sets_were_decided.Goals as goal

pub returns : goal.returns
returns g = kept_sets_are_decided
