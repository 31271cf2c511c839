use Rattle.cx_base.proofs.Common.{◌≡◌, ◌+◌, ◌-◌, ◌++◌, ap, map, subst, List, ℕ, OnOk, below, numbers}
use Rattle.cx_base.specs.declared.cluster.Cluster.{Cluster}
use Rattle.cx_trace.specs.Summary.{replica_text, replicas_text}
use Rattle.cx_trace.specs.declared.summary.Folded.{Folded}
use Rattle.cx_world.specs.Folded.{folded_of}
use Rattle.cx_replay.proofs.Numbers.{numbers_more}
use Rattle.cx_replay.proofs.Pieces.{Writing, writing_goes, writing_stops}
use Rattle.cx_replay.proofs.summing.write_replicas.Goals as goal

pub returns-in-Err : goal.returns-in-Err
returns-in-Err g c =
    let w = c.args.world.now in
    let n : ℕ = c.loop-replica.replica in
    let cluster : Cluster = w.cluster in
    let fold : ℕ → Folded = λ p. folded_of p w.kept in
    let inside = rw c.cluster.ensures at c.loop-replica-test.true in
    let rest : List ℕ = replicas_text (n + 1) (map fold (numbers (n + 1) (cluster.replicas - (n + 1)))) in
    let next : replicas_text n (map fold (numbers n (cluster.replicas - n))) ≡ replica_text n (fold n) ++ rest =
    ap (λ (ns : List ℕ). replicas_text n (map fold ns)) (numbers_more n cluster.replicas inside) in
    let line : OnOk c.replica_line-put.result (c.deref.result.now ≡ replica_text n (fold n)) =
    rw c.deref.ensures.value c.replica_line-put.ensures in
    writing_stops _ _ (g.W.Sink.taken c.loop-replica.out) _ _ (g.W.Sink.faults c.loop-replica.out) _ (replica_text n (fold n)) rest
    c.in-Err.status
    (subst (λ (text : List ℕ). Writing (replicas_text 0 (map fold (below cluster.replicas))) text (g.W.Sink.taken c.args.out.now)
    (g.W.Sink.taken c.loop-replica.out) (g.W.Sink.faults c.args.out.now) (g.W.Sink.faults c.loop-replica.out)) next
    c.loop-replica.invariant) (c.in-Err.ensures.written (replica_text n (fold n)) line)

pub loop-replica-preserved : goal.loop-replica-preserved
loop-replica-preserved g c =
    let w = c.args.world.now in
    let n : ℕ = c.loop-replica.replica in
    let cluster : Cluster = w.cluster in
    let fold : ℕ → Folded = λ p. folded_of p w.kept in
    let inside = rw c.cluster.ensures at c.loop-replica-test.true in
    let rest : List ℕ = replicas_text (n + 1) (map fold (numbers (n + 1) (cluster.replicas - (n + 1)))) in
    let next : replicas_text n (map fold (numbers n (cluster.replicas - n))) ≡ replica_text n (fold n) ++ rest =
    ap (λ (ns : List ℕ). replicas_text n (map fold ns)) (numbers_more n cluster.replicas inside) in
    let line : OnOk c.replica_line-put.result (c.deref.result.now ≡ replica_text n (fold n)) =
    rw c.deref.ensures.value c.replica_line-put.ensures in
    writing_goes _ _ (g.W.Sink.taken c.loop-replica.out) _ _ (g.W.Sink.faults c.loop-replica.out) _ (replica_text n (fold n)) rest
    c.in_default.field-0
    (subst (λ (text : List ℕ). Writing (replicas_text 0 (map fold (below cluster.replicas))) text (g.W.Sink.taken c.args.out.now)
    (g.W.Sink.taken c.loop-replica.out) (g.W.Sink.faults c.args.out.now) (g.W.Sink.faults c.loop-replica.out)) next
    c.loop-replica.invariant) (c.in_default.ensures.written (replica_text n (fold n)) line)
