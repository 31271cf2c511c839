use Rattle.cx_base.proofs.Common.{◌≡◌, true, arith, nat_tests}
use Rattle.cx_table.specs.Entries.{has_lower}
use Rattle.cx_replica.proofs.Rises.{numbers_on}
use Rattle.cx_replica.proofs.Roomy.{next_one}
use Rattle.cx_replica.proofs.orders.numbers_behind.Goals as goal

pub loop-note-preserved : goal.loop-note-preserved
loop-note-preserved c =
    let loop = c.loop-note in
    let note = c.note-item.result in
    let above = c.if-note-last.false in
    let less : has_lower loop.last note ≡ true = grind (arith, nat_tests, above) in
    numbers_on loop.last note _ _ _ (next_one c.args.notes.now loop.note-index note c.loop-note-test.true c.note-item.is) less
    loop.invariant
