use Rattle.cx_base.proofs.Common.{◌≡◌, ◌-◌, ◌+◌, length, below, numbers}
use Rattle.std.specs.Prelude.{find}
use Rattle.cx_explain.specs.Spots.{is_free_from}
use Rattle.cx_explain.proofs.spot.word_start.Given as goal

abbrev pub invariant-loop-place : goal.invariant-loop-place
invariant-loop-place l = find (λ place. is_free_from l.front place) (numbers l.place ((length l.front + 1) - l.place))
    ≡ find (λ place. is_free_from l.front place) (below (length l.front + 1))
