use Rattle.cx_promises.proofs.Lawful.{lawful}
use Rattle.cx_promises.proofs.runs_are_lawful.Goals as goal

pub returns : goal.returns
returns g = lawful
