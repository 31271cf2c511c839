use Rattle.cx_inv_bypass.proofs.Steps.{bypassed_rounds}
use Rattle.cx_inv_bypass.proofs.bypassed_rounds_law.Goals as goal

pub returns : goal.returns
returns c = bypassed_rounds
