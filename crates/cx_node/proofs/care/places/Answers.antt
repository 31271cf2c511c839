use Rattle.std.proofs.Common.{◌≡◌, ◌-◌, Ok, arith, refl, ◌∙◌}
use Rattle.std.proofs.lemmas.Iterator.{YieldsList-from_range, items_from_collect}
use Rattle.cx_node.proofs.Places.{range_numbers}
use Rattle.cx_node.proofs.care.places.Goals as goal

pub returns : goal.returns
returns c =
    let n = c.args.count in
    let whole : n - 0 ≡ n = omega arith in
    items_from_collect {E = Unit {0}} (Ok c.in_ok-places.places) c.in_ok-places.ensures.ran
    (YieldsList-from_range 0 n n refl whole)
    ∙ range_numbers 0 n
