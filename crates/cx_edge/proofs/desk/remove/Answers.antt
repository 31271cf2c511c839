use Rattle.cx_base.proofs.Common.{ap, sym, ◌∙◌, position, position-Some}
use Rattle.cx_edge.specs.Shelf.{same_shelf}
use Rattle.cx_edge.proofs.DeskLaws.{without_at, without_nowhere}
use Rattle.cx_edge.proofs.desk.remove.Goals as goal

pub returns-in-Some : goal.returns-in-Some
returns-in-Some c =
    let place = c.args.place in
    let places = c.args.places.now.items in
    let found = ap (position (same_shelf place)) (sym c.deref.ensures.value) ∙ sym c.index_of.ensures ∙ c.in-Some.is in
    let at = position-Some (same_shelf place) places c.in-Some.at c.remove.result found in
    c.remove.ensures.items ∙ without_at place places c.in-Some.at c.remove.result at.0 at.1 at.2

pub returns-in-None : goal.returns-in-None
returns-in-None c =
    let place = c.args.place in
    sym (without_nowhere place c.args.places.now.items
    (ap (position (same_shelf place)) (sym c.deref.ensures.value) ∙ sym c.index_of.ensures ∙ c.in-None.is))
