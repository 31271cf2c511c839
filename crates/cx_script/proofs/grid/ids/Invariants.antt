use Rattle.cx_base.proofs.Common.{◌≡◌, ◌++◌, ◌==◌, option_map, slice_split, option_copied}
use Rattle.cx_script.proofs.Members.{size}
use Rattle.cx_script.specs.Places.{ids_of}
use Rattle.cx_script.specs.Words.{parts_of}
use Rattle.cx_script.proofs.grid.ids.Given as goal

abbrev pub invariant-loop-rest : goal.invariant-loop-rest
invariant-loop-rest l = option_map (λ ids. l.ids.items ++ ids) (ids_of l.count (parts_of 44 (option_copied l.rest)))
    ≡ ids_of l.count (slice_split (λ b. b == 44) l.word)

abbrev pub decreases-loop-rest : goal.decreases-loop-rest
decreases-loop-rest l = size (option_copied l.rest)
