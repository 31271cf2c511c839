use Rattle.cx_base.proofs.Common.{◌≡◌, ◌-◌, ◌+◌, length, below, numbers}
use Rattle.std.specs.Prelude.{find}
use Rattle.cx_explain.specs.Spots.{ends_spoilt}
use Rattle.cx_explain.proofs.spot.spoilt_end.Given as goal

abbrev pub invariant-loop-place : goal.invariant-loop-place
invariant-loop-place l = find (λ place. ends_spoilt l.cluster l.line place) (numbers l.place ((length l.line + 1) - l.place))
    ≡ find (λ place. ends_spoilt l.cluster l.line place) (below (length l.line + 1))
