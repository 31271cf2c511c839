use Rattle.cx_base.proofs.Common.{◌≡◌, ◌≤◌, ◌+◌, length}
use Rattle.cx_script.specs.Lines.{lines_of}
use Rattle.cx_explain.proofs.lines.count_lines.Given as goal

abbrev pub invariant-loop-behind : goal.invariant-loop-behind
invariant-loop-behind l = record {
  so_far : l.count + length (lines_of l.rest) ≡ length (lines_of l.bytes);
  room : l.count + length l.rest ≤ length l.bytes;
}

abbrev pub decreases-loop-behind : goal.decreases-loop-behind
decreases-loop-behind l = length l.rest
