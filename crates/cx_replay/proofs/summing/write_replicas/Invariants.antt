use Rattle.cx_base.proofs.Common.{◌-◌, map, below, numbers}
use Rattle.cx_trace.specs.Summary.{replicas_text}
use Rattle.cx_world.specs.Folded.{folded_of}
use Rattle.cx_replay.proofs.Pieces.{Writing}
use Rattle.cx_replay.proofs.summing.write_replicas.Given as goal

abbrev pub invariant-loop-replica : goal.invariant-loop-replica
invariant-loop-replica g l =
    Writing (replicas_text 0 (map (λ p. folded_of p l.world.kept) (below l.world.cluster.replicas)))
    (replicas_text l.replica (map (λ p. folded_of p l.world.kept) (numbers l.replica (l.world.cluster.replicas - l.replica))))
    (g.W.Sink.taken l.fn.out) (g.W.Sink.taken l.out) (g.W.Sink.faults l.fn.out) (g.W.Sink.faults l.out)
