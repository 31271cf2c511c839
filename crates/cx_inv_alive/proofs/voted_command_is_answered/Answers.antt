use Rattle.cx_inv_alive.proofs.Uses.{voted_command_is_answered}
use Rattle.cx_inv_alive.proofs.voted_command_is_answered.Goals as goal

pub returns : goal.returns
returns g = voted_command_is_answered
