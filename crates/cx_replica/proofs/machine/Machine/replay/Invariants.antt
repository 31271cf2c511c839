use Rattle.std.proofs.Common.{◌≤◌, vec_capacity}
use Rattle.cx_replica.proofs.Progress.{IsAmong}
use Rattle.cx_replica.proofs.machine.Machine.replay.Given as goal

abbrev pub invariant-loop-index : goal.invariant-loop-index
invariant-loop-index l = IsAmong l.first l.fn.self.left l.values l.self l.index × (8 ≤ vec_capacity l.answers)
