use Rattle.std.proofs.Common.{◌+◌, arith}
use Rattle.cx_replica.proofs.Executing.{eight_at_most, next_fits, slot_below}
use Rattle.cx_replica.proofs.Values.{commands_in}
use Rattle.cx_replica.proofs.machine.Machine.execute_value.Goals as goal

pub overflow_add-slot : goal.overflow_add-slot
overflow_add-slot c = let below = slot_below c.args.slot c.requires.slot in omega arith

pub execute_all-requires-clause-at : goal.execute_all-requires-clause-at
execute_all-requires-clause-at c = next_fits c.args.slot c.requires.slot

pub execute_all-requires-clause-commands : goal.execute_all-requires-clause-commands
execute_all-requires-clause-commands c =
    rw c.as_slice.ensures.items (commands_in c.in-Batch.commands (rw c.in-Batch.is at c.requires.value))

pub returns-in-Batch-clause-few : goal.returns-in-Batch-clause-few
returns-in-Batch-clause-few c =
    eight_at_most c.execute_all.new.answers.items (c.args.slot + 1) c.args.self.now.left c.as_slice.result.now
    c.execute_all.ensures.answers (rw c.as_slice.ensures.items c.as_slice.ensures.room)
