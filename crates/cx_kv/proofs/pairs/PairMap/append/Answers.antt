use Rattle.cx_base.proofs.Common.{◌≡◌, Some, rules, arith, text_at}
use Rattle.cx_kv.proofs.Maps.{map_appended_full}
use Rattle.cx_kv.proofs.pairs.PairMap.append.Goals as goal

pub returns-then-length-gt-LONGEST-clause-pairs : goal.returns-then-length-gt-LONGEST-clause-pairs
returns-then-length-gt-LONGEST-clause-pairs c =
    let pairs = c.args.self.now.pairs in
    let placed : text_at c.args.key.now pairs ≡ Some c.in-Some.old = search rules in
    map_appended_full pairs c.args.key.now c.args.more.now c.in-Some.old c.get.ensures.rising placed (search (arith, rules))
