use Rattle.std.proofs.Common.{◌∙◌}
use Rattle.cx_replica.proofs.Roomy.{room_on}
use Rattle.cx_replica.proofs.clients.make_room_beside.Goals as goal

pub loop-index-preserved : goal.loop-index-preserved
loop-index-preserved c =
    let loop = c.loop-index in
    let command = c.index-commands-index in record {
      table = c.make_room.ensures.table ∙ loop.invariant.table;
      room = room_on c.args.commands.now loop.index command.result c.loop-index-test.true command.is
          loop.table.rooms c.make_room.new.self.rooms c.args.earlier.now loop.invariant.room c.make_room.ensures.grows
          c.count_in.result c.command_count_of.result c.count_in.ensures.count c.command_count_of.ensures.count
          c.in_ok-make_room.ensures.room;
    }
