use Rattle.std.proofs.Common.{◌≡◌, ◌≤◌, ◌-◌, ℕ, List, Option, false}
use Rattle.cx_world.specs.World.{world_of}
use Rattle.cx_replay.specs.Streamed.{StandsBehind}
use Rattle.cx_replay.proofs.Along.{Along}
use Rattle.cx_replay.proofs.running.run_each.Given as goal

abbrev pub invariant-loop-lines : goal.invariant-loop-lines
invariant-loop-lines g l = record {
  along : (left : Option (List ℕ)) → StandsBehind left (g.S.Source.left l.fn.input) l.fn.lines.buffered l.cluster → Along l.cluster left
      (g.S.Source.left l.input) l.lines.buffered l.number (world_of l.world) (g.W.Sink.taken l.fn.out) (g.W.Sink.taken l.out) l.text.items
      (g.W.Sink.faults l.fn.out) (g.W.Sink.faults l.out);
  running : l.world.spent ≡ false;
  count : l.number ≤ 65535;
  read : g.S.Source.faults l.input ≡ g.S.Source.faults l.fn.input;
}

abbrev pub decreases-loop-lines : goal.decreases-loop-lines
decreases-loop-lines g l = 65536 - l.number
