use Rattle.cx_model.specs.Prelude.{◌≡◌, ◌-◌, ◌++◌, map, numbers, voted_value}
use Rattle.cx_ring.specs.Ring.{value_at}
use Rattle.cx_phase1.specs.Best.{slot_of}
use Rattle.cx_phase1.proofs.planning.values_between.Given as goal

abbrev pub invariant-loop-slot : goal.invariant-loop-slot
invariant-loop-slot l =
    l.values.items ++ map (λ s. voted_value (value_at slot_of s l.best.items)) (numbers l.slot (l.end - l.slot))
    ≡ map (λ s. voted_value (value_at slot_of s l.best.items)) (numbers l.first (l.end - l.first))
