use Rattle.cx_base.proofs.Common.{◌≡◌, ◌≤◌, ◌+◌, length}
use Rattle.cx_script.specs.Lines.{lines_of, spelled_from}
use Rattle.cx_explain.proofs.finding.first_bad_line.Given as goal

abbrev pub invariant-loop-text : goal.invariant-loop-text
invariant-loop-text l = record {
  so_far : (spelled_from l.cluster (l.number + 1) (lines_of l.rest)).bad ≡ (spelled_from l.cluster 1 (lines_of l.bytes)).bad;
  counted : l.number ≤ 65535;
}

abbrev pub decreases-loop-text : goal.decreases-loop-text
decreases-loop-text l = length l.rest
