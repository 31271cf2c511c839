use Rattle.cx_role.proofs.Common.{◌≡◌, ◌≤◌, ◌+◌, ◌-◌, ◌++◌, role}
use Rattle.cx_role.specs.Prelude.{Replica}
use Rattle.cx_model.specs.Replica.{offers}
use Rattle.cx_replica.proofs.replica.Replica.offer_each.Given as goal

abbrev pub invariant-loop-passed : goal.invariant-loop-passed
invariant-loop-passed l =
    let all = offers l.self.me (role Replica l.to) l.self.durable l.slot in
    (l.out.list ++ all (l.count - l.passed) ≡ l.fn.out.list ++ all l.count) × (l.count ≤ l.out.spare + l.passed)
