use Rattle.cx_inv_alive.proofs.Runs.{no_dead_ends}
use Rattle.cx_inv_alive.proofs.no_dead_ends.Goals as goal

pub returns : goal.returns
returns g = no_dead_ends
