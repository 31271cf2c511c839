use Rattle.std.proofs.Common.{◌≡◌, take}
use Rattle.cx_ring.proofs.ring.copy_places.Given as goal

abbrev pub invariant-loop-place : goal.invariant-loop-place
invariant-loop-place g l = l.copied.items ≡ take l.place-index l.places
