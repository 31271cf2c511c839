use Rattle.cx_node.proofs.Common.{◌≡◌, [], refl, sym, subst, IfOk, hosted_in}
use Rattle.cx_course.specs.Tending.{first_care}
use Rattle.cx_node.proofs.node.Node.first_care.Goals as goal

pub returns-in-None : goal.returns-in-None
returns-in-None g c =
    subst (λ t. IfOk c.new-in-None.result (λ k. k ≡ first_care t (hosted_in c.args.self.now.guests)))
    (sym c.in-None.is) (c.new-in-None.ensures [] refl)
