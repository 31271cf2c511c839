use Rattle.cx_linear.proofs.Orders.{linearizable}
use Rattle.cx_linear.proofs.runs_are_linearizable.Goals as goal

pub returns : goal.returns
returns g = linearizable
