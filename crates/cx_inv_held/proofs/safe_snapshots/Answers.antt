use Rattle.cx_inv_held.proofs.Steps.{safe_snapshots}
use Rattle.cx_inv_held.proofs.safe_snapshots.Goals as goal

pub returns : goal.returns
returns g = safe_snapshots
