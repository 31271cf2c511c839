use Rattle.std.proofs.Common.{◌≡◌}
use Rattle.cx_seat.proofs.StoresBack.{GiveBack, shown_by}
use Rattle.cx_seat.specs.Opening.{disks_in, lent_to}
use Rattle.cx_seat.proofs.closing.close_seats.Given as goal

abbrev pub invariant-loop-seat : goal.invariant-loop-seat
invariant-loop-seat g l = record {
  can : (goal.iterator-loop-seat g).can_next l.seat-iterator;
  ends : (goal.iterator-loop-seat g).is_finite l.seat-iterator;
  out : g.D.Depot.out l.depot ≡ lent_to l.seat-iterator.rest.items;
  back : (end : g.row.D.Denot)
      → GiveBack (shown_by g.D.Depot g.D.Store.Disk) (disks_in l.seat-iterator.rest.items) l.depot end
      → GiveBack (shown_by g.D.Depot g.D.Store.Disk) (disks_in l.fn.seats.items) l.fn.depot end;
}
