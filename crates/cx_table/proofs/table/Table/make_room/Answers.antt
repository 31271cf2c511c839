use Rattle.cx_table.proofs.Held.{room_found}
use Rattle.cx_table.proofs.table.Table.make_room.Goals as goal

pub invariant_of-self : goal.invariant_of-self
invariant_of-self c = c.room_at.ensures.still _ c.self.invariant

pub invariant_of-self-2 : goal.invariant_of-self-2
invariant_of-self-2 c = c.room_at.ensures.still _ c.self.invariant

pub returns-clause-room : goal.returns-clause-room
returns-clause-room c =
    room_found c.args.client c.args.count c.room_at.new.entries.entries c.in_ok-room_at.field-0 c.in_ok-room_at.ensures.place
