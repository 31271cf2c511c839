use Rattle.std.proofs.Common.{◌≡◌, ◌%◌, None, get_or, inl, inr, refl, sym, ◌∙◌, arith}
use Rattle.cx_ring.proofs.Window.{outside}
use Rattle.cx_ring.proofs.ring.Ring.get.Goals as goal
use Rattle.cx_ring.proofs.ring.Ring.get.Goals.{then-slot-self-via-then-slot-self}
use Rattle.cx_ring.proofs.ring.Ring.get.Goals.{then-slot-self-via-else-slot-self+then-slot-self-ge-WINDOW}

pub returns-then-slot-self : goal.returns-then-slot-self
returns-then-slot-self g c =
    let inside = c.self.inside in
    elim c.then-slot-self.branch [
      | then-slot-self-via-then-slot-self w ↦ rw (sym c.self.view_is)
          (sym (outside g.S.Slotted.at inside.first c.args.slot inside.values.items c.self.invariant.near (inl w.if-slot-self.true)))
      | then-slot-self-via-else-slot-self+then-slot-self-ge-WINDOW w ↦ rw (sym c.self.view_is) (sym (outside g.S.Slotted.at inside.first
          c.args.slot inside.values.items c.self.invariant.near (inr (omega (arith, w.if-slot-self.false, w.if-slot-self-ge-WINDOW.true)))))
    ]

pub returns : goal.returns
returns g c =
    let is : get_or c.deref.result.now c.place_of.result None ≡ get_or c.self.inside.places.items (c.args.slot % 32) None =
    rw (c.deref.ensures.value, c.place_of.ensures) refl in
    rw (sym c.self.view_is) (c.value_of.ensures ∙ is ∙ c.self.invariant.found c.args.slot
    (record { low = omega (arith, c.if-slot-self.false); high = omega (arith, c.if-slot-self-ge-WINDOW.false, c.if-slot-self.false) }))
