use Rattle.std.proofs.Common.{arith}
use Rattle.cx_replica.proofs.Progress.{among_on}
use Rattle.cx_replica.proofs.Roomy.{value_room}
use Rattle.cx_replica.proofs.machine.Machine.replay.Goals as goal

pub execute_value-requires-clause-room : goal.execute_value-requires-clause-room
execute_value-requires-clause-room c =
    let loop = c.loop-index in
    let value = c.index-values-index in
    value_room c.args.values.now loop.index value.result c.loop-index-test.true value.is loop.self loop.invariant.0.room

pub loop-index-preserved : goal.loop-index-preserved
loop-index-preserved c =
    let loop = c.loop-index in
    let value = c.index-values-index in
    let ran = c.execute_value in (
      among_on c.args.first c.args.values.now loop.index value.result c.loop-index-test.true value.is
          c.args.self.now.left loop.self ran.new.self ran.ensures.machine ran.ensures.room loop.invariant.0,
      omega arith,
    )
