use Rattle.cx_role.proofs.Common.{◌≡◌, ◌-◌, ◌≤◌, ◌<◌, ◌^◌, [], length, arith, refl, subst, sym, true, Value, value, ReplicaDurable}
use Rattle.cx_role.proofs.Common.{ReplicaVolatile, Running}
use Rattle.cx_letter.specs.declared.kept.Record.TheVariants as kept
use Rattle.cx_replica.specs.Sound.{are_values}
use Rattle.cx_replica.proofs.Rows.{own_fits}
use Rattle.cx_replica.proofs.Snapping.{all_later, base_fit, fit_more}
use Rattle.cx_replica.proofs.replica.Replica.renewed.Goals as goal

pub push_pairs-requires : goal.push_pairs-requires
push_pairs-requires c =
    let i = c.self.inside in
    let fewer : length i.machine.left.map < 2 ^ 32 =
    subst (λ (s : Running ReplicaDurable ReplicaVolatile). length s.durable.machine.map < 2 ^ 32) (sym c.self.view_is) c.requires.short in
    let short : c.keys.result < 2 ^ 32 = omega (arith, c.keys.ensures.len, fewer) in
    let most : c.held.result ≤ 2 ^ 40 = c.held.ensures.short in
    let first : c.first.result ≤ 2 ^ 40 = omega (arith, c.first.ensures, c.held.ensures.held, most) in
    let few : c.len.result ≤ 64 = omega (arith, c.len.ensures, c.in_ok-notes.ensures.few) in
    rw (c.in_ok-push.ensures.items, c.new-records.ensures.items) (fit_more [] (kept.Base c.first.result c.held.result c.keys.result
    c.len.result) refl (base_fit c.first.result c.held.result c.keys.result c.len.result first most short few))

pub push_tail-requires-clause-values : goal.push_tail-requires-clause-values
push_tail-requires-clause-values c =
    let i = c.self.inside in
    let own : are_values c.args.self.now.durable.log ≡ true = subst (λ (s : Running ReplicaDurable ReplicaVolatile).
    are_values s.durable.log ≡ true) c.self.view_is (own_fits i.cluster i.log.list c.self.invariant.own) in
    rw c.requires.list
    (all_later (λ (v : Value). value.fits v) (c.args.tail.now.first - c.args.self.now.durable.first) c.args.self.now.durable.log own)
