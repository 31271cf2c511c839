-- What a proxy leader holds.
use Rattle.std.specs.Prelude.{◌≡◌, ℕ, Bool, true, All, IsTrue}
use Rattle.cx_role.specs.Prelude.{Cluster, RoleId, Pending, Running, in_window, Proxy, ProxyVolatile}
use Rattle.cx_field.specs.Fields as field
use Rattle.cx_ring.specs.Ring.{RingState, IsNear}

-- a pending value whose parts are in their ranges
pub record IsPendingInRange (p : Pending) : Type 0 where
  pub round : IsTrue (field.round.fits p.round)
  pub slot : IsTrue (field.slot.fits p.slot)
  pub cw : IsTrue (field.mark.fits p.cw)
  pub window : IsTrue (in_window p.cw p.slot)
  pub value : IsTrue (field.value.fits p.value)

-- a value that is in a ring, where another can take its place
pub record StandsInRing (first : ℕ) (room : Bool) (p : Pending) : Type 0 where
  pub parts : IsPendingInRange p
  pub near : IsNear first p.slot
  pub roomy : room ≡ true

-- a proxy leader with the ring of its pending values
pub record HasPendingRing (me : RoleId) (ring : RingState Pending) : Type 0 where
  pub kind : me.kind ≡ Proxy
  pub pending : All (StandsInRing ring.first ring.room) ring.items

-- which state it is in
abbrev pub proxy_view : Cluster → RoleId → Bool → RingState Pending → Running (Unit {0}) ProxyVolatile
proxy_view c me live ring = record {
  cluster = c;
  me = me;
  live = live;
  durable = tt;
  volatile = record { known = ring.first; pending = ring.items };
}
