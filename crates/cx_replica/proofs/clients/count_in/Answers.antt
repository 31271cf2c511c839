use Rattle.std.proofs.Common.{◌∙◌, ap, arith}
use Rattle.cx_replica.specs.Room.{command_count_of}
use Rattle.cx_replica.proofs.Roomy.{counted_on}
use Rattle.cx_replica.proofs.clients.count_in.Goals as goal

pub loop-value-preserved : goal.loop-value-preserved
loop-value-preserved c =
    let loop = c.loop-value in record {
      count = counted_on c.args.values.now loop.value-index c.value-item.result c.loop-value-test.true c.value-item.is
          c.args.client loop.count c.command_count_of-count.result _ (c.command_count_of-count.ensures.count
          ∙ ap (command_count_of c.args.client) c.commands_of.ensures.commands) loop.invariant.count;
      bound = omega (arith, c.command_count_of-count.ensures.bound, c.commands_of.ensures.few, loop.invariant.bound);
    }
