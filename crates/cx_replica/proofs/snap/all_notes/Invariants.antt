use Rattle.cx_role.specs.Prelude.{◌≡◌, ◌≤◌, ◌++◌, length, true, map, all_fit, notes_of}
use Rattle.cx_replica.proofs.Snapping.{floors_from}
use Rattle.cx_replica.proofs.snap.all_notes.Given as goal

abbrev pub invariant-loop-client : goal.invariant-loop-client
invariant-loop-client l = record {
  items : l.records.items ++ map (notes_of l.machine.left.table) (floors_from l.client l.machine.left.table.floors)
      ≡ map (notes_of l.machine.left.table) l.machine.left.table.floors;
  few : length l.records.items ≤ l.client;
  fit : all_fit l.records.items ≡ true;
}
