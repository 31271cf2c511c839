use Rattle.cx_base.proofs.Common.{◌≡◌, ◌+◌, ◌-◌, ◌∙◌, ap, arith, sym, slice_get}
use Rattle.cx_replica.proofs.Snapping.{take_next}
use Rattle.cx_replica.proofs.snap.values_between.Goals as goal

pub loop-at-preserved : goal.loop-at-preserved
loop-at-preserved c =
    let log = c.args.log.now in
    let loop = c.loop-at in
    let one = c.in_ok-value_at.field-0 in
    let place : c.args.slot - log.first + (loop.at - c.args.slot) ≡ loop.at - log.first =
    omega (arith, c.requires.first, loop.invariant.order) in
    let next : loop.at + 1 - c.args.slot ≡ loop.at - c.args.slot + 1 = omega (arith, loop.invariant.order) in
    record {
      order = omega (arith, loop.invariant.order);
      items = rw (c.in_ok-push.ensures.items, next, loop.invariant.items)
          (sym (take_next (c.args.slot - log.first) (loop.at - c.args.slot) log.list one
          (ap (λ k. slice_get log.list k) place ∙ c.in_ok-value_at.ensures)));
    }
