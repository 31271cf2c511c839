use Rattle.std.proofs.Common.{◌≡◌, ◌≤◌, ◌-◌, take, drop}
use Rattle.cx_replica.proofs.snap.values_between.Given as goal

abbrev pub invariant-loop-at : goal.invariant-loop-at
invariant-loop-at l = record {
  order : l.slot ≤ l.at;
  items : l.values.items ≡ take (l.at - l.slot) (drop (l.slot - l.log.first) l.log.list);
}
