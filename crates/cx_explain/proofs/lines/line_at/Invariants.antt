use Rattle.cx_base.proofs.Common.{◌≡◌, [], length, get_or}
use Rattle.cx_script.specs.Lines.{lines_of}
use Rattle.cx_explain.proofs.lines.line_at.Given as goal

abbrev pub invariant-loop-line : goal.invariant-loop-line
invariant-loop-line l = get_or (lines_of l.rest) l.left [] ≡ get_or (lines_of l.bytes) l.place []

abbrev pub decreases-loop-line : goal.decreases-loop-line
decreases-loop-line l = length l.rest
