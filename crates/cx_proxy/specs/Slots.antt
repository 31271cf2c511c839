-- At which slot a value is pending, and a ring with one value more.
use Rattle.cx_role.specs.Prelude.{ℕ, Pending}
use Rattle.cx_model.specs.Proxy.{with_pending}
use Rattle.cx_ring.specs.Ring.{RingState}

abbrev pub slot_of : Pending → ℕ
slot_of p = p.slot

-- one value more, in the place of the earlier one of its slot, or at the end
abbrev pub ring_with : Pending → RingState Pending → RingState Pending
ring_with one ring = record ring { items = with_pending one ring.items }
