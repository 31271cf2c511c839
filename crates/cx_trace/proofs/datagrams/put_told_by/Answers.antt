use Rattle.cx_base.proofs.Common.{◌≡◌, ◌++◌, ◌∙◌, List, ℕ, false, ap, sym, subst, append-nil}
use Rattle.cx_letter.specs.Names.{name_of_message}
use Rattle.cx_trace.specs.Trace.{is_answer_name}
use Rattle.cx_trace.proofs.Telling.{tells_nothing}
use Rattle.cx_trace.proofs.datagrams.put_told_by.Goals as goal

pub returns-then-not-is_answer_name-clause-ok : goal.returns-then-not-is_answer_name-clause-ok
returns-then-not-is_answer_name-clause-ok c =
    let d = c.args.spelled.now in
    let text = c.args.text.now.items in
    let name : is_answer_name (name_of_message d.msg) ≡ false =
    sym (c.is_answer_name.ensures ∙ ap is_answer_name c.name.ensures) ∙ c.if-not-is_answer_name.true in
    subst (λ (printed : List ℕ). text ≡ text ++ printed) (sym (tells_nothing d name)) (sym (append-nil text))
