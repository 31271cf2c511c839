use Rattle.std.proofs.Common.{arith}
use Rattle.cx_replica.proofs.Progress.{among_on, sends_on}
use Rattle.cx_replica.proofs.Roomy.{value_room}
use Rattle.cx_replica.proofs.machine.Machine.execute_values.Goals as goal

pub execute_value-requires-clause-room : goal.execute_value-requires-clause-room
execute_value-requires-clause-room c =
    let loop = c.loop-index in
    let value = c.index-values-index in
    value_room c.args.values.now loop.index value.result c.loop-index-test.true value.is loop.self loop.invariant.among.room

pub loop-index-preserved : goal.loop-index-preserved
loop-index-preserved c =
    let loop = c.loop-index in
    let value = c.index-values-index in
    let ran = c.execute_value in record {
      among = among_on c.args.first c.args.values.now loop.index value.result c.loop-index-test.true value.is
          c.args.self.now.left loop.self ran.new.self ran.ensures.machine ran.ensures.room loop.invariant.among;
      sends = sends_on c.args.first c.args.values.now loop.index value.result c.loop-index-test.true value.is
          c.args.cluster.now c.args.me loop.self.left ran.new.self.left loop.out.list c.send_results.new.out.list _
          ran.new.answers.items ran.ensures.machine ran.ensures.answers c.send_results.ensures.list loop.invariant.sends;
      rooms = omega arith;
      spare = omega arith;
      grown = omega arith;
    }
