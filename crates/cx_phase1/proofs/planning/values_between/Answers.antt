use Rattle.cx_ring.specs.Ring.{value_at}
use Rattle.cx_model.specs.Plan.{voted_value}
use Rattle.cx_phase1.specs.Best.{slot_of}
use Rattle.cx_phase1.proofs.Walks.{made_on}
use Rattle.cx_phase1.proofs.planning.values_between.Goals as goal

pub loop-slot-preserved : goal.loop-slot-preserved
loop-slot-preserved c =
    let loop = c.loop-slot in
    rw (c.in_ok-push.ensures.items, c.in_ok-voted_value.ensures) (made_on (λ s. voted_value (value_at slot_of s c.args.best.now.items))
    loop.values.items _ loop.slot c.args.end c.loop-slot-test.true loop.invariant)
