use Rattle.cx_base.proofs.Common.{◌≡◌, ◌++◌, ◌-◌, map, numbers, below}
use Rattle.cx_world.specs.Folded.{folded_of}
use Rattle.cx_replay.proofs.step.folds.Given as goal

abbrev pub invariant-loop-replica : goal.invariant-loop-replica
invariant-loop-replica l =
    l.folds.items ++ map (λ p. folded_of p l.world.kept) (numbers l.replica (l.world.cluster.replicas - l.replica))
    ≡ map (λ p. folded_of p l.world.kept) (below l.world.cluster.replicas)
