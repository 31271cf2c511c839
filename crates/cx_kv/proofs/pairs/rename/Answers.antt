use Rattle.std.proofs.Common.{ℕ, set, ap, sym, ◌∙◌, arith}
use Rattle.cx_kv.specs.Picked.{renamed}
use Rattle.cx_kv.proofs.Picking.{renamed_step}
use Rattle.cx_kv.proofs.pairs.rename.Goals as goal

pub loop-place-preserved : goal.loop-place-preserved
loop-place-preserved c = renamed_step (renamed c.args.last c.args.gap) c.args.order.now c.loop-place.order c.loop-place.place-index _ 0
    (omega arith) c.loop-place-test.true c.loop-place.invariant
    ∙ ap (λ (place : ℕ). set c.loop-place.order c.loop-place.place-index place) (sym c.renamed.ensures)
