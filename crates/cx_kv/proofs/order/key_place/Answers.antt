use Rattle.cx_base.proofs.Common.{rules, slice_get, IsPartitionPoint-from_clause}
use Rattle.cx_kv.specs.Picked.{is_pair_before}
use Rattle.cx_kv.proofs.Picking.{order_parted, order_place}
use Rattle.cx_kv.proofs.order.key_place.Goals as goal

pub returns : goal.returns
returns c =
    let list = c.args.list.now in
    let order = c.args.order.now in
    let key = c.args.key.now in
    let parted = order_parted list order key c.requires.rising c.requires.below in
    let point = IsPartitionPoint-from_clause (λ i. is_pair_before key (slice_get list i)) order _ c.partition_point.ensures.partitioned
    parted (λ a r q k. search rules) in
    order_place list order key _ c.requires.below c.partition_point.ensures.bound point
