use Rattle.cx_replica.proofs.Progress.{HasSent}
use Rattle.cx_replica.proofs.machine.Machine.execute_values.Given as goal

abbrev pub invariant-loop-index : goal.invariant-loop-index
invariant-loop-index l =
    HasSent l.cluster l.me l.first l.initial.self.left l.values l.initial.out l.self l.rooms l.out l.index
