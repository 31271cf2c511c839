use Rattle.std.proofs.Common.{◌≡◌}
use Rattle.cx_node.proofs.remarking.remark_all.Given as goal

abbrev pub invariant-loop-seat : goal.invariant-loop-seat
invariant-loop-seat g l = record {
  taken : g.W.Sink.taken l.out ≡ g.W.Sink.taken l.fn.out;
  still : g.W.Sink.faults l.out ≡ g.W.Sink.faults l.fn.out;
}
