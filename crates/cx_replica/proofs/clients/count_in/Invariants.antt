use Rattle.cx_letter.specs.Prelude.{◌≡◌, ◌+◌, ◌*◌, ◌≤◌, drop, command_list}
use Rattle.cx_replica.specs.Room.{command_count_of}
use Rattle.cx_replica.proofs.clients.count_in.Given as goal

abbrev pub invariant-loop-value : goal.invariant-loop-value
invariant-loop-value l = record {
  count : l.count + command_count_of l.client (command_list (drop l.value-index l.values))
      ≡ command_count_of l.client (command_list l.values);
  bound : l.count ≤ 8 * l.value-index;
}
