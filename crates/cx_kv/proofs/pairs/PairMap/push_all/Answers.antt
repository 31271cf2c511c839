use Rattle.std.proofs.Common.{◌++◌, ◌+◌, drop, arith}
use Rattle.cx_kv.proofs.Pushing.{first_left, put_on}
use Rattle.cx_kv.proofs.pairs.PairMap.push_all.Goals as goal

pub loop-pair-preserved : goal.loop-pair-preserved
loop-pair-preserved c =
    let pairs = c.args.pairs.now in
    let loop = c.loop-pair in
    let pair = c.pair-item in
    record {
      pairs = put_on (c.make_room.new.self.pairs ++ pairs) loop.self.pairs c.put.new.self.pairs pairs (drop (loop.pair-index + 1) pairs)
          (drop loop.pair-index pairs) pair.result (first_left pairs loop.pair-index pair.result c.loop-pair-test.true pair.is)
          (rw c.make_room.ensures.pairs c.requires) loop.invariant.pairs c.put.ensures.pairs;
      room = omega arith;
    }
