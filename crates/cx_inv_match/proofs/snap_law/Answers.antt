use Rattle.cx_inv_match.proofs.KeepFacts.{keep_snap}
use Rattle.cx_inv_match.proofs.snap_law.Goals as goal

pub returns : goal.returns
returns g = keep_snap
