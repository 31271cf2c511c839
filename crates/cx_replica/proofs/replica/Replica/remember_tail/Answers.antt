use Rattle.std.proofs.Common.{◌≡◌, ◌++◌, ap}
use Rattle.cx_rlog.specs.State.{LogState}
use Rattle.cx_replica.specs.Rows.{replica_durable}
use Rattle.cx_replica.proofs.Rows.{none_own, sound_tail, tailed_few, tailed_own}
use Rattle.cx_replica.proofs.replica.Replica.remember_tail.Goals as goal

pub invariant_of-replica : goal.invariant_of-replica
invariant_of-replica c =
    let i = c.replica.inside in
    let log = i.log in
    let values = c.args.values.now in
    let new = c.restore.new.self in
    let d = replica_durable log i.machine.left i.wanted in
    let fits = rw (← c.replica.view_is) at c.requires.own in
    let list : new.list ≡ log.list ++ values = ap (λ (l : LogState). l.list) c.in_ok-restore.ensures.ok in
    let first : new.first ≡ log.first = ap (λ (l : LogState). l.first) c.in_ok-restore.ensures.ok in
    let early = none_own i.cluster new log.first (log.list ++ values) 0 c.in_ok-restore.ensures.ok in
    sound_tail i.cluster i.me i.live log new i.machine.left i.wanted i.deferred values c.replica.invariant
    (rw (← c.replica.view_is) at c.requires.waits) first list (tailed_own i.cluster i.me d values c.requires.ranges fits) early
    (tailed_few i.cluster i.me d values fits)
