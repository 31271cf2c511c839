use Rattle.std.proofs.Common.{◌≡◌, ◌≤◌, ◌^◌, arith, refl, ap, sym, ◌∙◌, length, vec_len}
use Rattle.cx_ring.proofs.Window.{length-emptied}
use Rattle.cx_ring.proofs.Steps.{from_later}
use Rattle.cx_ring.proofs.ring.Ring.raise.Goals as goal

pub invariant_of-self : goal.invariant_of-self
invariant_of-self g c =
    let more : c.self.inside.first ≤ c.max-first.result = omega (arith, c.max-first.ensures) in
    let limit : c.max-first.result ≤ 2 ^ 40 = omega (arith, c.max-first.ensures, c.self.invariant.limit, c.requires) in
    rw (c.empty.ensures, c.from.ensures) (from_later g.S.Slotted.at c.self.inside.first c.self.inside.places.items
    c.self.inside.values.items c.self.invariant c.max-first.result c.min-count.result more limit c.min-count.ensures)

pub returns : goal.returns
returns g c =
    let size : vec_len c.empty.new.places ≡ vec_len c.self.inside.places = omega (
      arith,
      c.empty.new.places.ok.0,
      c.self.inside.places.ok.0,
      ap length c.empty.ensures ∙ length-emptied c.self.inside.first c.min-count.result c.self.inside.places.items,
    ) in
    rw (sym c.self.view_is) (rw (size, c.from.ensures, c.max-first.ensures) refl)
