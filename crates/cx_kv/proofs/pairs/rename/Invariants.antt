use Rattle.std.proofs.Common.{◌≡◌, ◌++◌, map, take, drop}
use Rattle.cx_kv.specs.Picked.{renamed}
use Rattle.cx_kv.proofs.pairs.rename.Given as goal

abbrev pub invariant-loop-place : goal.invariant-loop-place
invariant-loop-place l = map (renamed l.last l.gap) (take l.place-index l.fn.order) ++ drop l.place-index l.fn.order ≡ l.order
