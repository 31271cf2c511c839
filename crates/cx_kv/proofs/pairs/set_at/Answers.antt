use Rattle.std.proofs.Common.{length}
use Rattle.cx_kv.proofs.pairs.set_at.Goals as goal

pub index_mut-requires : goal.index_mut-requires
index_mut-requires c = rw c.args.list.now.ok.0 (c.index_at-index.ensures.inside (length c.args.list.now.items) c.requires.ordered.below)
