use Rattle.std.proofs.Common.{◌≡◌, ◌++◌, map}
use Rattle.cx_edge.specs.Held.{store_of}
use Rattle.cx_edge.specs.Slot.{slot_held}
use Rattle.cx_edge.proofs.slots.slots_for.Given as goal

abbrev pub invariant-loop-place : goal.invariant-loop-place
invariant-loop-place l = map slot_held l.slots.items ++ map store_of l.place-iterator.rest.items ≡ map store_of l.fn.stores.items
