use Rattle.cx_role.proofs.Common.{◌≤◌, arith, nat_tests, role}
use Rattle.cx_role.specs.Prelude.{Replica}
use Rattle.cx_replica.proofs.Offering.{offers_end}
use Rattle.cx_replica.proofs.replica.Replica.offer_each.Goals as goal

pub returns : goal.returns
returns c =
    let loop = c.loop-passed in
    let end : c.args.count ≤ loop.passed = grind (arith, nat_tests, c.loop-passed-test.false) in
    offers_end c.args.self.now.me (role Replica c.args.to) c.args.self.now.durable c.args.slot loop.out.list _ c.args.count loop.passed
    end loop.invariant.0
