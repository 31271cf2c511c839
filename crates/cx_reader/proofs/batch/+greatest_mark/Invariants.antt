use Rattle.cx_role.proofs.Common.{length}
use Rattle.cx_reader.proofs.batch.+greatest_mark.Given as goal

abbrev pub decreases-greatest_mark : goal.decreases-greatest_mark
decreases-greatest_mark l = length l.acks.now
