use Rattle.cx_role.proofs.Common.{◌≡◌, ℕ, ◌≤◌, Some, refl, ap, subst, ◌∙◌, ReplicaDurable, ReplicaVolatile, replica_renewed, replica_rules}
use Rattle.cx_role.proofs.Common.{Running, snapped_by}
use Rattle.cx_replica.specs.Rows.{replica_view}
use Rattle.cx_replica.proofs.Renewable.{sound_renewed, state_renewed}
use Rattle.cx_replica.proofs.replica.Replica.forget_below.Goals as goal
use Rattle.cx_rlog.specs.State.{LogState, held}

pub invariant_of-self-2 : goal.invariant_of-self-2
invariant_of-self-2 g c =
    let i = c.self.inside in
    let later : i.log.first ≤ c.args.first = rw (← c.self.view_is) at c.requires.later in
    let within : c.args.first ≤ held i.log = rw (← c.self.view_is) at c.requires.within in
    sound_renewed i.cluster i.me i.live c.renew.new.live i.log c.in_ok-tail.tail i.machine.left i.wanted c.nothing-self-inside.result
    i.deferred c.args.first c.self.invariant later within c.in_ok-tail.ensures c.nothing-self-inside.ensures

pub returns : goal.returns
returns g c =
    let i = c.self.inside in
    let later : i.log.first ≤ c.args.first = rw (← c.self.view_is) at c.requires.later in
    let from : c.in_ok-tail.tail.first ≡ c.args.first = ap (λ (l : LogState). l.first) c.in_ok-tail.ensures in
    let list : c.deref.result.now ≡ replica_renewed c.args.self.now.durable c.args.first =
    c.deref.ensures.value ∙ c.in_ok-records.ensures.items ∙ ap (λ (n : ℕ). replica_renewed c.args.self.now.durable n) from in
    record {
      ok = record {
        why = refl;
        list = rw list at c.in_ok-renew.ensures.renewed;
        state = subst (λ (s : Running ReplicaDurable ReplicaVolatile). replica_view i.cluster i.me c.renew.new.live c.in_ok-tail.tail
            i.machine.left c.nothing-self-inside.result i.deferred i.fetched ≡ snapped_by replica_rules s (Some c.args.first))
            c.self.view_is
            (rw c.in_ok-renew.ensures.lives (state_renewed i.cluster i.me i.live i.log c.in_ok-tail.tail i.machine.left i.wanted
            c.nothing-self-inside.result i.deferred i.fetched
            c.args.first c.in_ok-tail.ensures c.nothing-self-inside.ensures later c.self.invariant.ordered));
        sends = refl;
      };
      no_memory = λ e. cc;
      spared = λ e. cc;
      tells_same = c.renew.ensures.tells_same;
      failed = λ e. cc;
      keeps = λ e. cc;
    }
