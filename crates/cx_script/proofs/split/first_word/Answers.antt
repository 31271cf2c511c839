use Rattle.cx_base.proofs.Common.{◌∙◌, sym, take_rest}
use Rattle.cx_script.proofs.Splitting.{before_blank, without_blank}
use Rattle.cx_script.proofs.split.first_word.Goals as goal

pub returns-in-Some-clause-some : goal.returns-in-Some-clause-some
returns-in-Some-clause-some c =
    let from = c.in_ok-from.from.now in
    rw (take_rest from c.in-Some.end)
    (sym c.in_ok-from.ensures.same ∙ before_blank from c.in-Some.end c.in_ok-from.ensures.letter (sym c.in-Some.ensures))

pub returns-in-None-clause-some : goal.returns-in-None-clause-some
returns-in-None-clause-some c =
    let from = c.in_ok-from.from.now in
    sym c.in_ok-from.ensures.same ∙ without_blank from c.in_ok-from.ensures.some (sym c.in-None.ensures)
