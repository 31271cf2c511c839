use Rattle.cx_letter.specs.Prelude.{◌≡◌, length, RoleId}
use Rattle.cx_seat.specs.Prelude.{Shelf, AreOpened, lent_to, files_of}
use Rattle.cx_seat.proofs.opening.open_seats.Given as goal

abbrev pub invariant-loop-role : goal.invariant-loop-role
invariant-loop-role g l = record {
  opened : AreOpened g.D.Store.Disk.seen g.D.Store.Disk.faults l.cluster l.options l.events
      (g.D.Depot.tells l.fn.depot) (files_of (g.D.Depot.stored l.fn.depot)) l.roles l.seats.items;
  size : length l.seats.items ≡ l.role-index;
  out : g.D.Depot.out l.depot ≡ lent_to l.seats.items;
  tells_same : g.D.Depot.tells l.depot ≡ g.D.Depot.tells l.fn.depot;
  stored : (place : Shelf) → g.D.Depot.stored l.depot place ≡ g.D.Depot.stored l.fn.depot place;
  still : (who : RoleId) → g.D.Depot.faults l.depot who ≡ g.D.Depot.faults l.fn.depot who;
}
