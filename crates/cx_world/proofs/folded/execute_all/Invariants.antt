use Rattle.cx_letter.specs.Prelude.{◌≡◌, ◌++◌, drop, command_list, map_behind}
use Rattle.cx_world.proofs.folded.execute_all.Given as goal

abbrev pub invariant-loop-value : goal.invariant-loop-value
invariant-loop-value l =
    record {
      store : map_behind l.before l.store (command_list (drop l.value-index l.values))
          ≡ map_behind l.fn.before l.fn.store (command_list l.values);
      before : l.before ++ command_list (drop l.value-index l.values) ≡ l.fn.before ++ command_list l.values;
    }
