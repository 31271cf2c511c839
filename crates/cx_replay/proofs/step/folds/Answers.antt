use Rattle.std.proofs.Common.{append_assoc, ap, map}
use Rattle.cx_base.specs.declared.cluster.Cluster.{Cluster}
use Rattle.cx_world.specs.Folded.{folded_of}
use Rattle.cx_replay.proofs.Numbers.{numbers_more}
use Rattle.cx_replay.proofs.step.folds.Goals as goal

pub loop-replica-preserved : goal.loop-replica-preserved
loop-replica-preserved c =
    let kept = c.args.world.now.kept in
    let cluster : Cluster = c.args.world.now.cluster in
    let below = rw c.cluster.ensures at c.loop-replica-test.true in
    let next = ap (map (λ p. folded_of p kept)) (numbers_more c.loop-replica.replica cluster.replicas below) in
    rw (c.in_ok-push.ensures.items, c.in_ok-folded.ensures, append_assoc, ← next) c.loop-replica.invariant
