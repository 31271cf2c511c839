use Rattle.std.proofs.Common.{◌≡◌, true, rules}
use Rattle.cx_kv.specs.Rising.{has_lower_key}
use Rattle.cx_replica.proofs.Rises.{keys_on}
use Rattle.cx_replica.proofs.Roomy.{next_one}
use Rattle.cx_replica.proofs.orders.rise_behind.Goals as goal

pub loop-pair-preserved : goal.loop-pair-preserved
loop-pair-preserved c =
    let loop = c.loop-pair in
    let pair = c.pair-item.result in
    let less : has_lower_key loop.last pair ≡ true = search rules in
    keys_on loop.last pair _ _ _ (next_one c.args.pairs.now loop.pair-index pair c.loop-pair-test.true c.pair-item.is) less loop.invariant
