use Rattle.cx_role.proofs.Common.{◌≡◌, ◌-◌, ◌∷◌, ◌∙◌, length, take, drop, ap, arith, refl, List, Value, pieces}
use Rattle.cx_letter.specs.declared.kept.Record.TheVariants as kept
use Rattle.cx_replica.proofs.Snapping.{fit_more, last_piece, next_piece, pieces_left}
use Rattle.cx_replica.proofs.snap.push_tail.Goals as goal

pub loop-left-preserved : goal.loop-left-preserved
loop-left-preserved c =
    let list = c.args.log.now.list in
    let count = length list in
    let loop = c.loop-left in
    let now = drop (count - loop.left) list in
    let later = pieces 32 (drop (count - c.saturating_sub-left.result) list) in
    let whole : pieces 32 now ≡ take 32 now ∷ later = rw c.saturating_sub-left.ensures
    (pieces_left 32 count loop.left list (omega arith) refl (omega (arith, c.loop-left-test.true)) loop.invariant.within) in
    let place : c.held-held.result - loop.left - c.args.log.now.first ≡ count - loop.left =
    omega (arith, c.held-held.ensures.held, loop.invariant.within) in
    let what : c.in_ok-what.what ≡ kept.Tail (take 32 now) = c.in_ok-what.ensures.is ∙ ap (λ k. kept.Tail (take 32 (drop k list))) place in
    record {
      within = omega (arith, c.saturating_sub-left.ensures, loop.invariant.within);
      items = rw (c.in_ok-push.ensures.items, what) (next_piece (λ (vs : List Value). kept.Tail vs) loop.records.items (take 32 now)
          (pieces 32 now) later _ whole loop.invariant.items);
      fit = rw c.in_ok-push.ensures.items (fit_more loop.records.items c.in_ok-what.what loop.invariant.fit c.in_ok-what.ensures.fits);
    }

pub returns-clause-items : goal.returns-clause-items
returns-clause-items c =
    let list = c.args.log.now.list in
    let loop = c.loop-left in
    last_piece (λ (vs : List Value). kept.Tail vs) 32 (length list - loop.left) loop.records.items list _
    (omega (arith, c.loop-left-test.false)) loop.invariant.items
