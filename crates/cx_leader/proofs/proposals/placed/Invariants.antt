use Rattle.cx_model.specs.Prelude.{◌≡◌, ◌+◌, ◌++◌, true, drop, map, Placed, numbers, placed_from}
use Rattle.cx_leader.proofs.proposals.placed.Given as goal

abbrev pub invariant-loop-value : goal.invariant-loop-value
invariant-loop-value l = record {
  list : l.list.items ++ placed_from l.slot (drop l.value-index l.values) ≡ placed_from l.first l.values;
  slots : map (λ (x : Placed). x.slot) l.list.items ≡ numbers l.first l.value-index;
  first : l.list.first ≡ l.first;
  room : l.list.room ≡ true;
  slot : l.slot ≡ l.first + l.value-index;
}
