use Rattle.cx_replace.proofs.Opened.{idle_is}
use Rattle.cx_replace.proofs.replacer.Replacer.with_kept.Goals as goal

pub invariant_of-result : goal.invariant_of-result
invariant_of-result c =
    rw (c.new.ensures.items, c.new-2.ensures, c.from_vec.ensures, c.new-3.ensures.items)
    (idle_is c.args.cluster.now c.args.index c.args.own c.requires)
