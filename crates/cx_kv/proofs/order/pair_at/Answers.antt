use Rattle.std.proofs.Common.{length}
use Rattle.cx_kv.proofs.Picking.{picked_is}
use Rattle.cx_kv.proofs.order.pair_at.Goals as goal

pub bounds-list-index : goal.bounds-list-index
bounds-list-index c = c.index_at-index.ensures.inside (length c.args.list.now) c.requires.ordered.below

pub returns : goal.returns
returns c = λ d.
    let within = c.index_at-index.ensures.inside (length c.args.list.now) c.requires.ordered.below in
    picked_is c.args.list.now c.args.order.now c.args.place c.index_at-index.result 0 c.index-list-index.result d
    c.index_at-index.ensures.index within c.requires.inside c.index-list-index.is
