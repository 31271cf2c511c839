use Rattle.std.proofs.Common.{◌≡◌, ◌<◌, ◌≤◌, ℕ, None}
use Rattle.cx_ring.specs.Ring.{value_at}
use Rattle.cx_ring.proofs.ring.Ring.is_empty.Given as goal

abbrev pub invariant-loop-slot : goal.invariant-loop-slot
invariant-loop-slot g l = (s : ℕ) → l.self.first ≤ s → s < l.slot → value_at g.S.Slotted.at s l.self.items ≡ None
