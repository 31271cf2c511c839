use Rattle.cx_role.proofs.Common.{◌≤◌, append-nil, arith, nat_tests, refl}
use Rattle.cx_model.specs.Replica.{held}
use Rattle.cx_replica.specs.Rows.{replica_durable}
use Rattle.cx_replica.proofs.Offering.{past}
use Rattle.cx_replica.proofs.replica.Replica.offer_at.Goals as goal

pub returns-then-slot-held-clause-list : goal.returns-then-slot-held-clause-list
returns-then-slot-held-clause-list c =
    let inside = c.self.inside in
    let d = replica_durable inside.log inside.machine.left inside.wanted in
    let above : held d ≤ c.args.slot = grind (arith, nat_tests, c.held.ensures.held, c.if-slot-held.true) in
    rw (← c.self.view_is, past d c.args.slot above, append-nil c.args.out.now.list) refl
