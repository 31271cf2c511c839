use Rattle.cx_linear.proofs.Judged.{judged}
use Rattle.cx_linear.proofs.histories_are_judged.Goals as goal

pub returns : goal.returns
returns g = judged
