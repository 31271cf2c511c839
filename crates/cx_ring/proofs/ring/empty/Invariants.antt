use Rattle.std.proofs.Common.{◌≡◌, ◌-◌}
use Rattle.cx_ring.specs.Places.{emptied}
use Rattle.cx_ring.proofs.ring.empty.Given as goal

abbrev pub invariant-loop-slot : goal.invariant-loop-slot
invariant-loop-slot g l = l.places.items ≡ emptied l.first (l.slot - l.first) l.fn.places.items
