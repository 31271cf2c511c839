use Rattle.cx_role.proofs.Common.{◌≡◌, ◌≤◌, ◌++◌, ◌-◌, length, true, map, drop, all_fit, pieces}
use Rattle.cx_letter.specs.declared.kept.Record.TheVariants as kept
use Rattle.cx_replica.proofs.snap.push_tail.Given as goal

abbrev pub invariant-loop-left : goal.invariant-loop-left
invariant-loop-left l = record {
  within : l.left ≤ length l.log.list;
  items : l.records.items ++ map (λ vs. kept.Tail vs) (pieces 32 (drop (length l.log.list - l.left) l.log.list))
      ≡ l.fn.records.items ++ map (λ vs. kept.Tail vs) (pieces 32 l.log.list);
  fit : all_fit l.records.items ≡ true;
}

abbrev pub decreases-loop-left : goal.decreases-loop-left
decreases-loop-left l = l.left
