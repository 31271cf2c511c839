use Rattle.cx_base.proofs.Common.{◌≡◌, false, sym, ◌∙◌, ap, arith, ◌==◌, Option, None, Some, slice_get, eq-eqb, nat_tests, noted_for}
use Rattle.cx_base.specs.declared.command.Answered.{Answered}
use Rattle.cx_table.proofs.Notes.{answer_at, found}
use Rattle.cx_table.proofs.entry.find.Goals as goal
use Rattle.cx_table.proofs.entry.find.Goals.{After-note_at}

noted : (c : After-note_at) (o : Option Answered) → o ≡ slice_get c.args.notes.now c.place_of.result
    → answer_at c.args.seq o ≡ noted_for c.args.client c.args.seq c.args.notes.now
noted c o is = ap (answer_at c.args.seq) is
    ∙ sym (found c.args.client c.args.seq c.args.notes.now c.place_of.result c.requires.own c.requires.rise c.place_of.ensures.place)

pub returns-in_err-note : goal.returns-in_err-note
returns-in_err-note c = rw c.from_residual.ensures (noted (goal.at.returns-in_err-note c).After-note_at None (c.in_err-note.ensures))

pub returns-then-note-seq : goal.returns-then-note-seq
returns-then-note-seq c = rw (eq-eqb c.in_ok-note.note.now.seq c.args.seq c.if-note-seq.true) at
    (noted (goal.at.returns-then-note-seq c).After-note_at (Some c.in_ok-note.note.now) (c.in_ok-note.ensures))

pub returns-else-note-seq : goal.returns-else-note-seq
returns-else-note-seq c =
    let other : (c.in_ok-note.note.now.seq == c.args.seq) ≡ false = grind (arith, nat_tests, c.if-note-seq.false) in
    rw other at (noted (goal.at.returns-else-note-seq c).After-note_at (Some c.in_ok-note.note.now) (c.in_ok-note.ensures))
