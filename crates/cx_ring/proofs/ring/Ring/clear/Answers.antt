use Rattle.cx_ring.proofs.Steps.{without}
use Rattle.cx_ring.proofs.ring.Ring.clear.Goals as goal

pub invariant_of-self : goal.invariant_of-self
invariant_of-self g c = rw (c.empty.ensures, c.none.ensures)
    (without g.S.Slotted.at c.self.inside.first c.self.inside.places.items c.self.inside.values.items c.self.invariant)
