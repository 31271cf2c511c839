use Rattle.cx_role.proofs.Common.{refl}
use Rattle.cx_replace.proofs.CountLaws.{one_longer}
use Rattle.cx_replace.proofs.counted.Counted.add.Goals as goal

pub invariant_of-self : goal.invariant_of-self
invariant_of-self c =
    let new = rw (← c.self.view_is) at c.requires.new in
    rw (c.add.ensures.marks, one_longer c.args.id c.self.inside.marks new, c.self.invariant) refl
