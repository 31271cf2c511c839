use Rattle.cx_role.proofs.Common.{length}
use Rattle.cx_replace.proofs.join.+watermark.Given as goal

abbrev pub decreases-watermark : goal.decreases-watermark
decreases-watermark l = length l.halts.now
