use Rattle.std.proofs.Common.{[], drop}
use Rattle.cx_trace.specs.Summary.{slots_text}
use Rattle.cx_replay.proofs.Pieces.{Writing}
use Rattle.cx_replay.proofs.summing.write_slots.Given as goal

abbrev pub invariant-loop-slot : goal.invariant-loop-slot
invariant-loop-slot g l = Writing (slots_text 0 [] l.chosen) (slots_text l.slot l.before (drop l.slot l.chosen)) (g.W.Sink.taken l.fn.out)
    (g.W.Sink.taken l.out) (g.W.Sink.faults l.fn.out) (g.W.Sink.faults l.out)
