use Rattle.cx_base.proofs.Common.{◌≡◌, true, rules, ap, sym, ◌∙◌, List, nat_le, list_all, filter_same}
use Rattle.cx_base.specs.declared.command.Answered.{Answered}
use Rattle.cx_table.proofs.Notes.{none_left}
use Rattle.cx_table.proofs.entry.drop_settled.Goals as goal

pub returns-then-are_up_to-clause-items : goal.returns-then-are_up_to-clause-items
returns-then-are_up_to-clause-items c =
    let all : list_all (λ (a : Answered). nat_le a.seq c.args.floor) c.args.notes.now.items ≡ true =
    ap (λ (l : List Answered). list_all (λ (a : Answered). nat_le a.seq c.args.floor) l) (sym c.as_slice.ensures.value)
    ∙ sym c.are_up_to.ensures ∙ c.if-are_up_to.true in
    c.clear.ensures.items ∙ sym (none_left c.args.floor c.args.notes.now.items all)

pub returns-clause-items : goal.returns-clause-items
returns-clause-items c = filter_same _ _ _ (λ x b f k. search rules) _ _ c.retain.ensures.filtered
