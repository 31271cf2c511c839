use Rattle.cx_base.proofs.Common.{◌≡◌, vec_len, All}
use Rattle.cx_replica.specs.Room.{IsVacant}
use Rattle.cx_replica.proofs.rooms.Rooms.new.Given as goal

abbrev pub invariant-loop-number : goal.invariant-loop-number
invariant-loop-number l = All IsVacant l.list.items × (vec_len l.list ≡ l._number)
