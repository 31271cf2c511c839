use Rattle.cx_base.proofs.Common.{◌≡◌, ◌≤◌, ◌-◌, length, take, Appends}
use Rattle.cx_edge.proofs.sink.write_all.Given as goal

abbrev pub invariant-loop-done : goal.invariant-loop-done
invariant-loop-done g l = record {
  bytes : Appends (g.W.Sink.taken l.fn.sink) (g.W.Sink.taken l.sink) (take l.done l.bytes);
  fits : l.done ≤ length l.bytes;
  still : g.W.Sink.faults l.sink ≡ g.W.Sink.faults l.fn.sink;
}

abbrev pub decreases-loop-done : goal.decreases-loop-done
decreases-loop-done g l = length l.bytes - l.done
