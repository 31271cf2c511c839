use Rattle.cx_inv_open.proofs.Steps.{roles_reopen}
use Rattle.cx_inv_open.proofs.roles_reopen_law.Goals as goal

pub returns : goal.returns
returns c = roles_reopen
