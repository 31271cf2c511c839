use Rattle.cx_role.proofs.Common.{subst, sym, Machine}
use Rattle.cx_replica.specs.Rows.{replica_durable}
use Rattle.cx_replica.specs.Sound.{IsTableOfCluster}
use Rattle.cx_replica.proofs.Noted.{client_noted}
use Rattle.cx_replica.proofs.Rows.{sound_notes, noted_parts}
use Rattle.cx_replica.proofs.replica.Replica.remember_notes.Goals as goal

pub invariant_of-result : goal.invariant_of-result
invariant_of-result c =
    let i = c.self.inside in
    let d = replica_durable i.log i.machine.left i.wanted in
    let fits = rw (← c.self.view_is) at c.requires.own in
    let parts = noted_parts i.cluster i.me d c.args.client c.args.floor c.args.notes.now fits in
    let noted = client_noted i.cluster c.args.client c.args.floor c.args.notes.now i.machine.left.table parts.0 c.requires.some parts.1
    parts.2 c.self.invariant.noted in
    sound_notes i.cluster i.me i.live i.log i.machine.left c.in_ok-machine.machine.left i.wanted i.deferred c.self.invariant
    (rw (← c.self.view_is) at c.requires.waits) c.in_ok-machine.ensures.ordered
    (subst (λ (m : Machine). IsTableOfCluster i.cluster m.table) (sym c.in_ok-machine.ensures.left) noted)
