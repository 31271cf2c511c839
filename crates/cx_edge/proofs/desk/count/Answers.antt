use Rattle.cx_base.proofs.Common.{ap, sym, slice_set, ◌∙◌, position, position-Some}
use Rattle.cx_edge.specs.declared.rows.CountRow.{CountRow}
use Rattle.cx_edge.specs.Desk.{of_role, plus}
use Rattle.cx_edge.proofs.DeskLaws.{counted_at, counted_nowhere}
use Rattle.cx_edge.proofs.desk.count.Goals as goal

pub returns-in-Some : goal.returns-in-Some
returns-in-Some c =
    let role = c.args.role in
    let rows = c.args.rows.now.items in
    let i = c.in-Some.at in
    let d = c.index.result.now in
    let at = position-Some (of_role role) rows i d
    (ap (position (of_role role)) (sym c.deref.ensures.value) ∙ sym c.row_of.ensures ∙ c.in-Some.is) in
    ap (slice_set rows i) (c.added.ensures ∙ ap (λ (r : CountRow). record r { count = plus r.count c.args.faults }) c.index.ensures)
    ∙ counted_at role c.args.faults rows i d at.0 at.1 at.2

pub returns-in-None : goal.returns-in-None
returns-in-None c =
    let role = c.args.role in
    sym (counted_nowhere role c.args.faults c.args.rows.now.items
    (ap (position (of_role role)) (sym c.deref.ensures.value) ∙ sym c.row_of.ensures ∙ c.in-None.is))
