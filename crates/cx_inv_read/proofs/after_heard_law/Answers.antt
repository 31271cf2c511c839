use Rattle.cx_inv_read.proofs.Results.{after_heard}
use Rattle.cx_inv_read.proofs.after_heard_law.Goals as goal

pub returns : goal.returns
returns g = after_heard
