use Rattle.cx_role.proofs.Common.{◌≡◌, ◌≤◌, ◌++◌, ◌-◌, true, map, drop, all_fit, pieces}
use Rattle.cx_letter.specs.declared.kept.Record.TheVariants as kept
use Rattle.cx_replica.proofs.snap.push_pairs.Given as goal

abbrev pub invariant-loop-left : goal.invariant-loop-left
invariant-loop-left l = record {
  within : l.left ≤ l.count;
  items : l.records.items ++ map (λ ps. kept.Pairs ps) (pieces 255 (drop (l.count - l.left) l.machine.left.map))
      ≡ l.fn.records.items ++ map (λ ps. kept.Pairs ps) (pieces 255 l.machine.left.map);
  fit : all_fit l.records.items ≡ true;
}

abbrev pub decreases-loop-left : goal.decreases-loop-left
decreases-loop-left l = l.left
