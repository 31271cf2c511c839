use Rattle.cx_inv_alive.proofs.Uses.{first_command_is_answered}
use Rattle.cx_inv_alive.proofs.first_command_is_answered.Goals as goal

pub returns : goal.returns
returns g = first_command_is_answered
