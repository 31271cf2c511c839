use Rattle.std.proofs.Common.{◌≡◌, ◌-◌, length}
use Rattle.cx_replay.proofs.HeaderLines.{InHeader}
use Rattle.cx_replay.proofs.header.read_header.Given as goal

abbrev pub invariant-loop-text : goal.invariant-loop-text
invariant-loop-text g l = record {
  header : InHeader (g.S.Source.left l.fn.input) (g.S.Source.left l.input) l.lines.buffered l.text.items;
  still : g.S.Source.faults l.input ≡ g.S.Source.faults l.fn.input;
}

abbrev pub decreases-loop-text : goal.decreases-loop-text
decreases-loop-text g l = 16385 - length l.text.items
