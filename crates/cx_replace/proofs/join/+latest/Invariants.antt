use Rattle.cx_role.proofs.Common.{length}
use Rattle.cx_replace.proofs.join.+latest.Given as goal

abbrev pub decreases-latest : goal.decreases-latest
decreases-latest l = length l.halts.now
