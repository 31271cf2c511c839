use Rattle.cx_role.proofs.Common.{◌≡◌, ap, refl, ◌++◌, machine_from}
use Rattle.cx_rlog.specs.State.{LogState, held}
use Rattle.cx_replica.specs.Rows.{replica_durable}
use Rattle.cx_replica.proofs.Rows.{logged_own, logged_parts, sound_more, none_own}
use Rattle.cx_replica.proofs.replica.Replica.remember_log.Goals as goal

pub invariant_of-result : goal.invariant_of-result
invariant_of-result c =
    let i = c.self.inside in
    let log = i.log in
    let values = c.args.values.now in
    let new = c.restore.new.self in
    let after = c.replay.new.self.left in
    let reads = i.deferred in
    let d = replica_durable log i.machine.left i.wanted in
    let fits = rw (← c.self.view_is) at c.requires.own in
    let own = logged_own i.cluster i.me d values c.requires.ranges fits in
    let parts = logged_parts i.cluster i.me d values fits in
    let list : new.list ≡ log.list ++ values = ap (λ (l : LogState). l.list) c.in_ok-restore.ensures.ok in
    let first : new.first ≡ log.first = ap (λ (l : LogState). l.first) c.in_ok-restore.ensures.ok in
    let early = none_own i.cluster new log.first (log.list ++ values) 0 c.in_ok-restore.ensures.ok in
    let ran : after ≡ machine_from (held log) i.machine.left values = rw (c.in_ok-replay.ensures, c.held.ensures.held) refl in
    sound_more i.cluster i.me i.live log new i.machine.left after i.wanted reads reads values c.self.invariant parts.0 first list own early
    ran parts.1 c.self.invariant.reads c.self.invariant.few
