use Rattle.cx_base.proofs.Common.{◌≡◌, true, false, ◌∙◌, sym, ap, arith, ◌==◌, nat_lt, nat_tests, with_note}
use Rattle.cx_base.specs.declared.command.Answered.{Answered}
use Rattle.cx_table.specs.Entries.{is_lower}
use Rattle.cx_table.proofs.Notes.{rise_by_number}
use Rattle.cx_table.proofs.Rising.{all_left, left_with, none_noted_left, rise_left}
use Rattle.cx_table.proofs.entry.note.Goals as goal

pub insert-requires-clause-own : goal.insert-requires-clause-own
insert-requires-clause-own c = rw c.tell.ensures.notes (all_left (λ (a : Answered). a.client == c.args.answer.now.client)
    (λ (a : Answered). nat_lt c.args.floor a.seq) c.args.entry.now.notes.items c.requires.own)

pub insert-requires-clause-rise : goal.insert-requires-clause-rise
insert-requires-clause-rise c =
    rw c.tell.ensures.notes (rise_left is_lower (λ (a : Answered). nat_lt c.args.floor a.seq) c.args.entry.now.notes.items c.requires.rise)

pub insert-requires-clause-new : goal.insert-requires-clause-new
insert-requires-clause-new c = rw c.tell.ensures.notes (none_noted_left c.args.answer.now.client c.args.answer.now.seq
    (λ (a : Answered). nat_lt c.args.floor a.seq) c.args.entry.now.notes.items c.requires.new)

pub returns-then-answer-floor-clause-notes : goal.returns-then-answer-floor-clause-notes
returns-then-answer-floor-clause-notes c =
    let above : nat_lt c.args.floor c.args.answer.now.seq ≡ true = grind (arith, nat_tests, c.if-answer-floor.true) in
    let left = rw above at (left_with (λ (a : Answered). nat_lt c.args.floor a.seq) c.args.answer.now c.args.entry.now.notes.items
    (rise_by_number c.args.answer.now.client c.args.entry.now.notes.items c.requires.own ∙ c.requires.rise)) in
    c.insert.ensures.items ∙ ap (with_note c.args.answer.now) c.tell.ensures.notes ∙ sym left

pub returns-else-answer-floor-clause-notes : goal.returns-else-answer-floor-clause-notes
returns-else-answer-floor-clause-notes c =
    let under : nat_lt c.args.floor c.args.answer.now.seq ≡ false = grind (arith, nat_tests, c.if-answer-floor.false) in
    let left = rw under at (left_with (λ (a : Answered). nat_lt c.args.floor a.seq) c.args.answer.now c.args.entry.now.notes.items
    (rise_by_number c.args.answer.now.client c.args.entry.now.notes.items c.requires.own ∙ c.requires.rise)) in
    c.tell.ensures.notes ∙ sym left
