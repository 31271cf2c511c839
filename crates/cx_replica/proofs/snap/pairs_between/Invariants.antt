use Rattle.std.proofs.Common.{◌≡◌, ◌≤◌, ◌-◌, true, take, drop}
use Rattle.cx_replica.specs.Sound.{are_pairs}
use Rattle.cx_replica.proofs.snap.pairs_between.Given as goal

abbrev pub invariant-loop-place : goal.invariant-loop-place
invariant-loop-place l = record {
  order : l.from ≤ l.place;
  items : l.pairs.items ≡ take (l.place - l.from) (drop l.from l.machine.left.map);
  fit : are_pairs l.pairs.items ≡ true;
}
