use Rattle.std.proofs.Common.{◌≡◌, ◌≤◌, ◌+◌, length}
use Rattle.cx_script.specs.Lines.{lines_of}
use Rattle.cx_script.specs.Unended.{lines_text}
use Rattle.cx_script.proofs.unended.is_long_header.Given as goal

abbrev pub invariant-loop-line : goal.invariant-loop-line
invariant-loop-line l = record {
  room : l.room ≤ 16384;
  left : l.room + length (lines_text (lines_of l.bytes)) ≡ 16384 + length (lines_text (lines_of l.rest));
}

abbrev pub decreases-loop-line : goal.decreases-loop-line
decreases-loop-line l = length l.rest
