use Rattle.cx_role.proofs.Common.{◌≡◌, ◌-◌, ◌++◌, map, numbers, below}
use Rattle.cx_leader.proofs.opening.none_held.Given as goal

abbrev pub invariant-loop : goal.invariant-loop
invariant-loop l = l.held.items ++ map (λ r. 0) (numbers l.counter (l.replicas - l.counter))
    ≡ map (λ r. 0) (below l.replicas)
