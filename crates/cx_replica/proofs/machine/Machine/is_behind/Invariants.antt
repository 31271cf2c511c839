use Rattle.std.proofs.Common.{◌≡◌, true}
use Rattle.cx_replica.proofs.Rises.{are_floors_below}
use Rattle.cx_replica.proofs.machine.Machine.is_behind.Given as goal

abbrev pub invariant-loop-above : goal.invariant-loop-above
invariant-loop-above l = are_floors_below l.above l.self.left.table.floors ≡ true

abbrev pub decreases-loop-above : goal.decreases-loop-above
decreases-loop-above l = l.above
