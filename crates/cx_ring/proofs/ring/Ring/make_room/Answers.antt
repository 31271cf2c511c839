use Rattle.std.proofs.Common.{rules, ◌≡◌, length}
use Rattle.cx_ring.proofs.Steps.{with_room}
use Rattle.cx_ring.proofs.ring.Ring.make_room.Goals as goal

pub invariant_of-self : goal.invariant_of-self
invariant_of-self g c =
    let none : length c.self.inside.places.items ≡ 0 = search rules in
    with_room g.S.Slotted.at c.self.inside.first c.self.inside.places.items c.in_ok-self-inside.field-0.items c.self.inside.values.items
    c.self.invariant none c.in_ok-self-inside.ensures
