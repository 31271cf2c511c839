use Rattle.cx_role.proofs.Common.{length}
use Rattle.cx_reader.proofs.matched.+greatest_watermark.Given as goal

abbrev pub decreases-greatest_watermark : goal.decreases-greatest_watermark
decreases-greatest_watermark l = length l.told.now
