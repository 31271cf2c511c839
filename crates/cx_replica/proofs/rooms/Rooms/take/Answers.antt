use Rattle.cx_replica.proofs.Vacant.{rooms_less}
use Rattle.cx_replica.proofs.rooms.Rooms.take.Goals as goal

pub returns-clause-empty : goal.returns-clause-empty
returns-clause-empty c =
    (rooms_less c.self.inside.list.items c.pop.new.self.items c.in-Some.room c.in-Some.ensures.items c.self.invariant).1.empty

pub returns-clause-room : goal.returns-clause-room
returns-clause-room c =
    (rooms_less c.self.inside.list.items c.pop.new.self.items c.in-Some.room c.in-Some.ensures.items c.self.invariant).1.wide

pub invariant_of-self : goal.invariant_of-self
invariant_of-self c =
    (rooms_less c.self.inside.list.items c.pop.new.self.items c.in-Some.room c.in-Some.ensures.items c.self.invariant).0
