use Rattle.cx_base.proofs.Common.{◌≡◌, true, length, arith, ◌∙◌, sym, subst, List, ap, nat_le, list_all}
use Rattle.cx_base.specs.declared.command.Answered.{Answered}
use Rattle.cx_table.specs.Entries.{IsPlace}
use Rattle.cx_table.proofs.Notes.{at_end, put_in}
use Rattle.cx_table.proofs.entry.insert.Goals as goal

pub returns-then-are_up_to-clause-items : goal.returns-then-are_up_to-clause-items
returns-then-are_up_to-clause-items c =
    let a = c.args.answer.now in
    let all : list_all (λ (x : Answered). nat_le x.seq a.seq) c.args.notes.now.items ≡ true =
    ap (λ (l : List Answered). list_all (λ (x : Answered). nat_le x.seq a.seq) l) (sym c.as_slice.ensures.value) ∙ sym c.are_up_to.ensures
    ∙ c.if-are_up_to.true in
    c.push_reserved.ensures.items ∙ at_end a c.args.notes.now.items c.requires.own c.requires.new all

pub returns-clause-items : goal.returns-clause-items
returns-clause-items c =
    let place = c.place_of-place.result in
    let notes = c.args.notes.now.items in
    let a = c.args.answer.now in
    let is : IsPlace a.seq notes place =
    subst (λ (l : List Answered). IsPlace a.seq l place) c.as_slice-2.ensures.value c.place_of-place.ensures.place in
    c.in-Ok.ensures.items ∙ put_in a notes place c.requires.own c.requires.new is (omega (arith, ap length c.as_slice-2.ensures.value))
