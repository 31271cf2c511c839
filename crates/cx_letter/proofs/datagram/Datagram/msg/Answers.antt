use Rattle.std.proofs.Common.{subst}
use Rattle.cx_letter.specs.Prelude.{Letter, PartsFit}
use Rattle.cx_letter.proofs.PartsLaws.{parts}
use Rattle.cx_letter.proofs.datagram.Datagram.msg.Goals as goal

pub returns-clause-parts : goal.returns-clause-parts
returns-clause-parts c =
    let here = c.self.inside in
    subst (λ (d : Letter). PartsFit d.from d.to here.msg) c.self.view_is (parts here.from here.to here.msg c.self.invariant)
