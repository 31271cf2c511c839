use Rattle.cx_role.proofs.Common.{◌≡◌, ◌-◌, ◌∷◌, take, drop, arith, sym, List, Pair, pieces}
use Rattle.cx_letter.specs.declared.kept.Record.TheVariants as kept
use Rattle.cx_replica.proofs.Snapping.{fit_more, last_piece, next_piece, pieces_left}
use Rattle.cx_replica.proofs.snap.push_pairs.Goals as goal

pub loop-left-preserved : goal.loop-left-preserved
loop-left-preserved c =
    let map = c.args.machine.now.left.map in
    let count = c.keys-count.result in
    let loop = c.loop-left in
    let now = drop (count - loop.left) map in
    let later = pieces 255 (drop (count - c.saturating_sub-left.result) map) in
    let whole : pieces 255 now ≡ take 255 now ∷ later = rw c.saturating_sub-left.ensures (pieces_left 255 count loop.left map (omega arith)
    (sym c.keys-count.ensures.len) (omega (arith, c.loop-left-test.true)) loop.invariant.within) in
    record {
      within = omega (arith, c.saturating_sub-left.ensures, loop.invariant.within);
      items = rw (c.in_ok-push.ensures.items, c.in_ok-what.ensures.is) (next_piece (λ (ps : List Pair). kept.Pairs ps) loop.records.items
          (take 255 now) (pieces 255 now) later _ whole loop.invariant.items);
      fit = rw c.in_ok-push.ensures.items (fit_more loop.records.items c.in_ok-what.what loop.invariant.fit c.in_ok-what.ensures.fits);
    }

pub returns-clause-items : goal.returns-clause-items
returns-clause-items c =
    let count = c.keys-count.result in
    let loop = c.loop-left in
    last_piece (λ (ps : List Pair). kept.Pairs ps) 255 (count - loop.left) loop.records.items c.args.machine.now.left.map _
    (omega (arith, c.loop-left-test.false, c.keys-count.ensures.len)) loop.invariant.items
