use Rattle.cx_base.proofs.Common.{◌≡◌, drop, is_rising}
use Rattle.cx_base.proofs.set.is_rising.Given as goal

abbrev pub invariant-loop-place : goal.invariant-loop-place
invariant-loop-place l = is_rising (drop l.place l.ids) ≡ is_rising l.ids
