use Rattle.std.proofs.Common.{arith}
use Rattle.cx_replica.proofs.Letters.{held_step}
use Rattle.cx_replica.proofs.sending.tell_held.Goals as goal

pub loop-leader-preserved : goal.loop-leader-preserved
loop-leader-preserved c =
    let loop = c.loop-leader in record {
      list = held_step c.args.me c.args.mark loop.leader c.args.cluster.now.leaders loop.out.list c.push.new.self.list _
          c.held.result c.loop-leader-test.true c.requires.kind c.held.ensures c.push.ensures.list loop.invariant.list;
      spare = omega arith;
    }
