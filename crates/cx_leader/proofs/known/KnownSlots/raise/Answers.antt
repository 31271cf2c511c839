use Rattle.cx_role.proofs.Common.{max}
use Rattle.cx_leader.proofs.Knows.{same_from}
use Rattle.cx_leader.proofs.known.KnownSlots.raise.Goals as goal

pub invariant_of-self : goal.invariant_of-self
invariant_of-self c =
    let k = c.self.inside in
    rw (c.of.ensures, c.first-first.ensures.first, c.raise.ensures)
    (same_from (max k.slots.first c.args.first) k.slots.items k.noted.items c.self.invariant)
