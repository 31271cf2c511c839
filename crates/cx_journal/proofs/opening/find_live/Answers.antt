use Rattle.std.proofs.Common.{rules, true, false}
use Rattle.cx_journal.proofs.Prepared.{chosen_so}
use Rattle.cx_journal.proofs.opening.find_live.Goals as goal

pub returns-then-is_second-clause-chosen : goal.returns-then-is_second-clause-chosen
returns-then-is_second-clause-chosen g c = λ a b first_told second_told.
    let v = c.in-Ok.ensures.values a b first_told second_told in
    chosen_so a b c.in-Ok.both.0 c.in-Ok.both.1 v.0 v.1 c.in-Ok-choose.is_second true (search rules) (search rules) c.in-Ok.both.1 v.1

pub returns-clause-chosen : goal.returns-clause-chosen
returns-clause-chosen g c = λ a b first_told second_told.
    let v = c.in-Ok.ensures.values a b first_told second_told in
    chosen_so a b c.in-Ok.both.0 c.in-Ok.both.1 v.0 v.1 c.in-Ok-choose.is_second false (search rules) (search rules) c.in-Ok.both.0 v.0
