use Rattle.cx_letter.specs.Prelude.{◌≡◌, ◌++◌, take, command_list}
use Rattle.cx_replica.specs.Room.{IsRoomFor}
use Rattle.cx_replica.proofs.clients.make_room_beside.Given as goal

abbrev pub invariant-loop-index : goal.invariant-loop-index
invariant-loop-index l = record {
  table : l.table.table ≡ l.initial.table.table;
  room : IsRoomFor l.table.rooms (command_list l.earlier ++ take l.index l.commands);
}
