use Rattle.cx_base.proofs.Common.{◌≡◌, ◌+◌, ◌-◌, ◌∙◌, ◌<◌, length, ap, arith, sym, slice_index_or}
use Rattle.cx_replica.proofs.Snapping.{pairs_more, take_next_at}
use Rattle.cx_replica.proofs.snap.pairs_between.Goals as goal

pub loop-place-preserved : goal.loop-place-preserved
loop-place-preserved c =
    let map = c.args.machine.now.left.map in
    let from = c.args.from in
    let loop = c.loop-place in
    let pair = c.pair_at-pair.result.now in
    let here : from + (loop.place - from) ≡ loop.place = omega (arith, loop.invariant.order) in
    let next : loop.place + 1 - from ≡ loop.place - from + 1 = omega (arith, loop.invariant.order) in
    let inside : from + (loop.place - from) < length map = omega (arith, here, c.loop-place-test.true, c.requires.within) in
    let at : slice_index_or map (from + (loop.place - from)) pair ≡ pair =
    ap (λ k. slice_index_or map k pair) here ∙ c.pair_at-pair.ensures pair in
    record {
      order = omega (arith, loop.invariant.order);
      items = rw (c.in_ok-push.ensures.items, next, loop.invariant.items) (sym (take_next_at from (loop.place - from) map pair inside at));
      fit = rw c.in_ok-push.ensures.items (pairs_more loop.pairs.items pair loop.invariant.fit c.pair_fits.ensures);
    }
