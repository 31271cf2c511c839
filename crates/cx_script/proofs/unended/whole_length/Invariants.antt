use Rattle.cx_base.proofs.Common.{◌≡◌, ◌≤◌, ◌==◌, ◌-◌, ◌++◌, length, take, drop, slice_split}
use Rattle.cx_script.specs.Unended.{last_part, but_last, lines_text, whole_lines, unended}
use Rattle.cx_script.proofs.unended.whole_length.Given as goal

abbrev pub invariant-loop-place : goal.invariant-loop-place
invariant-loop-place l = record {
  within : l.start ≤ length l.bytes;
  whole : take l.start l.bytes ++ lines_text (but_last (slice_split (λ b. b == 10) (drop l.start l.bytes))) ≡ whole_lines l.bytes;
  last : last_part (slice_split (λ b. b == 10) (drop l.start l.bytes)) ≡ unended l.bytes;
}

abbrev pub decreases-loop-place : goal.decreases-loop-place
decreases-loop-place l = length l.bytes - l.start
