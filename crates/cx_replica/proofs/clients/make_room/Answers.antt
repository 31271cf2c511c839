use Rattle.std.proofs.Common.{◌∙◌}
use Rattle.cx_replica.proofs.Roomy.{few_on, room_for_more}
use Rattle.cx_replica.proofs.clients.make_room.Goals as goal

pub loop-index-preserved : goal.loop-index-preserved
loop-index-preserved c =
    let loop = c.loop-index in
    let value = c.index-values-index in
    let commands = c.commands_of in record {
      table = c.make_room_beside.ensures.table ∙ loop.invariant.table;
      room = room_for_more c.args.values.now loop.index value.result c.loop-index-test.true value.is
          c.make_room_beside.new.table.rooms commands.result.now commands.ensures.commands
          c.in_ok-make_room_beside.ensures.room;
      few = few_on c.args.values.now loop.index value.result c.loop-index-test.true value.is
          commands.result.now commands.ensures.commands commands.ensures.few loop.invariant.few;
    }
