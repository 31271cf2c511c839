use Rattle.cx_role.proofs.Common.{◌≡◌, ◌≤◌, ℕ, None, rules, subst, same_Some, ReplicaDurable, ReplicaVolatile, replica_renewed}
use Rattle.cx_role.proofs.Common.{replica_rules, Running, refused}
use Rattle.cx_replica.proofs.Renewable.{renewed_opens}
use Rattle.cx_replica.proofs.replica.Replica.snap_slot.Goals as goal
use Rattle.cx_rlog.specs.State.{held}

pub returns-clause-fits : goal.returns-clause-fits
returns-clause-fits c first is =
    let i = c.self.inside in
    let later : i.log.first ≤ c.if-self-eq1.slot = search rules in
    let within : c.if-self-eq1.slot ≤ held i.log = search rules in
    subst (λ (n : ℕ). refused replica_rules c.args.self.now.cluster c.args.self.now.me (replica_renewed c.args.self.now.durable n) ≡ None)
    (same_Some c.if-self-eq1.slot first is) (subst (λ (s : Running ReplicaDurable ReplicaVolatile).
    refused replica_rules s.cluster s.me (replica_renewed s.durable c.if-self-eq1.slot) ≡ None) c.self.view_is
    (renewed_opens i.cluster i.me i.live i.log i.machine.left i.wanted i.deferred c.if-self-eq1.slot c.self.invariant
    c.keys.ensures.rises later within))
