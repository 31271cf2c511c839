use Rattle.cx_base.proofs.Common.{◌≡◌, ◌≤◌, ◌+◌, length}
use Rattle.std.specs.List.{position_or_len}
use Rattle.cx_cluster.specs.Reading.{header_cluster}
use Rattle.cx_explain.specs.Header.{is_toml_fault}
use Rattle.cx_script.specs.Lines.{lines_of}
use Rattle.cx_explain.proofs.header.line_of_toml.Given as goal

abbrev pub invariant-loop-line : goal.invariant-loop-line
invariant-loop-line l = record {
  so_far : l.place + position_or_len (λ line. is_toml_fault (header_cluster line)) (lines_of l.rest)
      ≡ position_or_len (λ line. is_toml_fault (header_cluster line)) (lines_of l.header);
  room : l.place + length l.rest ≤ length l.header;
}

abbrev pub decreases-loop-line : goal.decreases-loop-line
decreases-loop-line l = length l.rest
