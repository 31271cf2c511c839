use Rattle.std.proofs.Common.{◌≡◌, ◌+◌, ◌<◌, ◌≤◌, ℕ, None, sym, ap, arith}
use Rattle.cx_ring.specs.Ring.{value_at}
use Rattle.cx_ring.proofs.Steps.{nothing_left}
use Rattle.cx_ring.proofs.ring.Ring.is_empty.Goals as goal

pub returns : goal.returns
returns g c =
    let inside = c.self.inside in
    let first : inside.first ≡ c.args.self.now.first = ap (λ r. r.first) c.self.view_is in
    let items : inside.values.items ≡ c.args.self.now.items = ap (λ r. r.items) c.self.view_is in
    let none : (s : ℕ) → inside.first ≤ s → s < inside.first + 32 → value_at g.S.Slotted.at s inside.values.items ≡ None =
    (λ s l h. rw items (c.loop-slot.invariant s (omega (arith, l, first)) (omega (arith, h, c.loop-slot-test.false)))) in
    rw (sym items) (sym (nothing_left g.S.Slotted.at inside.first inside.values.items c.self.invariant.near none))
