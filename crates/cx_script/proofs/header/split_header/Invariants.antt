use Rattle.cx_base.proofs.Common.{◌≡◌, ◌≤◌, ◌==◌, ◌++◌, option_map, length, slice_split, option_copied}
use Rattle.cx_script.proofs.Members.{size}
use Rattle.cx_script.specs.Header.{header_in}
use Rattle.cx_script.specs.Words.{parts_of}
use Rattle.cx_script.proofs.header.split_header.Given as goal

abbrev pub invariant-loop-rest : goal.invariant-loop-rest
invariant-loop-rest l = record {
  so_far : option_map (λ (header, behind). (l.header.items ++ header, behind)) (header_in (parts_of 10 (option_copied l.rest)))
      ≡ header_in (slice_split (λ b. b == 10) l.bytes);
  room : length l.header.items ≤ 16384;
}

abbrev pub decreases-loop-rest : goal.decreases-loop-rest
decreases-loop-rest l = size (option_copied l.rest)
