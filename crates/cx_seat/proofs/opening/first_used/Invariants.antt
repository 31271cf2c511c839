use Rattle.std.proofs.Common.{◌≡◌, drop}
use Rattle.cx_seat.specs.Opening.{first_holding}
use Rattle.cx_seat.proofs.opening.first_used.Given as goal

abbrev pub invariant-loop-seat : goal.invariant-loop-seat
invariant-loop-seat g l = first_holding (drop l.seat-index l.seats) ≡ first_holding l.seats
