use Rattle.std.proofs.Common.{length}
use Rattle.cx_base.proofs.same.+same_commands.Given as goal

abbrev pub decreases-same_commands : goal.decreases-same_commands
decreases-same_commands l = length l.a.now
