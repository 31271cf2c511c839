use Rattle.cx_role.proofs.Common.{◌≡◌, drop, max, nat_le, filter}
use Rattle.cx_model.specs.Leader.{count_reaching, greatest_of, held_by}
use Rattle.cx_leader.proofs.holding.held_by.Given as goal

abbrev pub invariant-loop-n : goal.invariant-loop-n
invariant-loop-n l =
    max l.greatest (greatest_of (filter (λ n. nat_le l.count (count_reaching n l.held)) (drop l.n-index l.held)))
    ≡ held_by l.count l.held
