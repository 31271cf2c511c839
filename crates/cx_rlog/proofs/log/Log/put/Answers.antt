use Rattle.std.proofs.Common.{◌≡◌, ◌+◌, ◌≤◌, ◌^◌, List, max, length, sym, subst, ap, ◌∙◌, arith, vec_len}
use Rattle.cx_base.specs.declared.command.Value.{Value}
use Rattle.cx_base.specs.declared.command.Placed.{Placed}
use Rattle.cx_ring.specs.Ring.{RingState}
use Rattle.cx_rlog.specs.State.{AreReadyValues, LogState}
use Rattle.cx_rlog.proofs.Following.{still_raised}
use Rattle.cx_rlog.proofs.Waiting.{ready_waiting}
use Rattle.cx_rlog.proofs.log.Log.put.Goals as goal

pub invariant_of-self : goal.invariant_of-self
invariant_of-self c =
    let inside = c.self.inside in
    let held = inside.first + vec_len inside.list in
    let new = inside.first + vec_len c.hold_all.new.list in
    let state : LogState = record { first = inside.first; list = inside.list.items; early = inside.early.items; spare = inside.spare } in
    let same : state ≡ c.args.self.now = c.self.view_is in
    let ready : AreReadyValues state c.args.values = subst (λ (s : LogState). AreReadyValues s c.args.values) (sym same) c.requires.ready in
    let room : length c.args.values ≤ inside.spare = subst (λ (s : LogState). length c.args.values ≤ s.spare) (sym same) c.requires.room in
    let short : inside.first + length inside.list.items + length c.args.values ≤ 2 ^ 40 =
    subst (λ (s : LogState). s.first + length s.list + length c.args.values ≤ 2 ^ 40) (sym same) c.requires.short in
    let count : length c.into_vec-values.result.items ≡ length c.args.values =
    ap (λ (values : List Value). length values) c.into_vec-values.ensures in
    let more : new ≡ held + vec_len c.into_vec-values.result = omega (arith, c.hold_all.ensures.len) in
    let total : new ≡ held + length c.args.values = omega (arith, c.into_vec-values.result.ok.0) in
    let within : new ≤ 2 ^ 40 = omega (arith, inside.list.ok.0) in
    let waiting =
    ready_waiting state c.args.values held new (omega (arith, inside.list.ok.0)) ready c.self.invariant.waiting total within in
    let first : c.raise.new.self.first ≡ max inside.early.first (inside.first + c.len-2.result) =
    ap (λ (r : RingState Placed). r.first) c.raise.ensures in
    let begins : c.raise.new.self.first ≡ new = omega (arith, c.len-2.ensures, c.self.invariant.begins) in
    let still = still_raised (inside.first + c.len-2.result) new inside.early c.raise.new.self c.raise.ensures (sym first ∙ begins) in
    record {
      room = omega (arith, c.self.invariant.room, c.hold_all.ensures.capacity, c.into_vec-values.result.ok.0);
      short = within;
      begins = begins;
      waiting = rw still waiting;
    }

pub returns-clause-early : goal.returns-clause-early
returns-clause-early c =
    let inside = c.self.inside in
    let items : inside.early.items ≡ c.args.self.now.early = ap (λ (s : LogState). s.early) c.self.view_is in
    let more : vec_len c.hold_all.new.list ≡ vec_len inside.list + vec_len c.into_vec-values.result = c.hold_all.ensures.len in
    let begins : max inside.early.first (inside.first + c.len-2.result) ≡ inside.first + length c.hold_all.new.list.items =
    omega (arith, c.len-2.ensures, c.self.invariant.begins, c.hold_all.new.list.ok.0) in
    rw (sym items) (still_raised (inside.first + c.len-2.result) (inside.first + length c.hold_all.new.list.items) inside.early
    c.raise.new.self c.raise.ensures begins)
