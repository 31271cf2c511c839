use Rattle.std.proofs.Common.{◌∙◌, refl}
use Rattle.cx_kv.proofs.Keys.{is_less_by_cmp}
use Rattle.cx_replica.proofs.orders.is_less.Goals as goal

pub returns : goal.returns
returns c = c.lt.ensures ∙ is_less_by_cmp c.args.one.now c.args.other.now _ refl
