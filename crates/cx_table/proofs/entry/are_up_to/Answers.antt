use Rattle.cx_base.proofs.Common.{◌≡◌, sym, ◌∙◌, ap, ◌-◌, Some, length, slice_get}
use Rattle.cx_table.proofs.Notes.{ends_at_most, up_to}
use Rattle.cx_table.proofs.entry.are_up_to.Goals as goal

pub returns-in-Some : goal.returns-in-Some
returns-in-Some c =
    let last : Some c.in-Some.note.now ≡ slice_get c.args.notes.now (length c.args.notes.now - 1) = c.in-Some.ensures.value in
    ap (ends_at_most c.args.floor) last ∙ sym (up_to c.args.floor c.args.notes.now c.requires)
