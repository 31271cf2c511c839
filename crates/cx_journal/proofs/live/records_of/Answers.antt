use Rattle.std.proofs.Common.{◌≡◌, length, arith}
use Rattle.cx_journal.proofs.Images.{first_found, counted, counted_from}
use Rattle.cx_journal.proofs.live.records_of.Goals as goal

pub returns-in-Ok-clause-found : goal.returns-in-Ok-clause-found
returns-in-Ok-clause-found c = λ gen one.
    let short : length c.args.bytes.now ≡ 1 = omega (arith, c.requires.some, c.if-bytes-lt2.true) in
    first_found c.args.kind c.args.bytes.now c.in-Ok.found (one short) c.in-Ok.ensures.none c.in-Ok.ensures.gates c.in-Ok.ensures.gate

pub returns-then-is_generational-clause-gates : goal.returns-then-is_generational-clause-gates
returns-then-is_generational-clause-gates c = counted_from c.args.kind 2 c.args.bytes.now c.found_after.result c.found_after.ensures.found

pub returns-clause-gates : goal.returns-clause-gates
returns-clause-gates c = counted c.args.kind c.args.bytes.now c.found_in.result c.found_in.ensures.found
