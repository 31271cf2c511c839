use Rattle.cx_role.proofs.Common.{◌≡◌, ◌+◌, ◌≤◌, ◌^◌, true, rules, sym, subst, length, List, ◌++◌, refl, ◌∙◌, Value, ready_values}
use Rattle.cx_role.proofs.Common.{ReplicaDurable, ReplicaVolatile, machine_from, replica_rules, still_deferred, Running, running_after}
use Rattle.cx_role.proofs.Step.{done}
use Rattle.cx_replica.specs.Rows.{applied_in, replica_view}
use Rattle.cx_replica.specs.Sound.{are_own, are_own_early, are_reads}
use Rattle.cx_replica.proofs.Reading.{sent_behind, state_behind}
use Rattle.cx_replica.proofs.Rows.{own_fits, ready_own, sound_more, still_few, still_own, still_reads}
use Rattle.cx_replica.proofs.Values.{mark_fits, values_fit}
use Rattle.cx_replica.proofs.replica.Replica.apply.Given.{Over}
use Rattle.cx_replica.proofs.replica.Replica.apply.Goals as goal
use Rattle.cx_replica.proofs.replica.Replica.apply.Goals.{In_ok-values}
use Rattle.cx_rlog.specs.State.{held}

own : (g : Over) (c : In_ok-values g) → are_own c.self.inside.cluster c.in_ok-values.values ≡ true
own g c =
    let i = c.self.inside in
    subst (λ (vs : List Value). are_own i.cluster vs ≡ true) (sym c.in_ok-values.ensures.values)
    (ready_own i.cluster (held i.log) i.log.early c.args.value.now (rw (← c.self.view_is) at c.requires.value)
    c.self.invariant.waiting)

pub keep-requires : goal.keep-requires
keep-requires g c =
    let values = c.in_ok-values.values in
    let all = own g (goal.at.keep-requires g c).In_ok-values in
    values_fit values c.as_slice-count.ensures.some c.as_slice-count.ensures.room (own_fits c.self.inside.cluster values all)

pub execute_values-requires-clause-slots : goal.execute_values-requires-clause-slots
execute_values-requires-clause-slots g c =
    rw (c.held-held.ensures.held, c.as_slice-2.ensures.items, c.into_values-values.ensures) c.in_ok-values.ensures.short

pub execute_values-requires-clause-values : goal.execute_values-requires-clause-values
execute_values-requires-clause-values g c =
    let all = own g (goal.at.execute_values-requires-clause-values g c).In_ok-values in
    rw (c.as_slice-2.ensures.items, c.into_values-values.ensures) (own_fits c.self.inside.cluster c.in_ok-values.values all)

pub answer_reads-requires-clause-held : goal.answer_reads-requires-clause-held
answer_reads-requires-clause-held g c =
    mark_fits _ (rw (c.held-held.ensures.held, c.as_slice-count.ensures.items) c.in_ok-values.ensures.short)

pub put-requires-clause-short : goal.put-requires-clause-short
put-requires-clause-short g c = rw c.into_values-values.ensures c.in_ok-values.ensures.short

pub put-requires-clause-ready : goal.put-requires-clause-ready
put-requires-clause-ready g c = rw c.into_values-values.ensures c.in_ok-values.ensures.ready

pub put-requires-clause-room : goal.put-requires-clause-room
put-requires-clause-room g c = rw c.into_values-values.ensures c.in_ok-values.ensures.room

pub invariant_of-self-2 : goal.invariant_of-self-2
invariant_of-self-2 g c =
    let i = c.self.inside in
    let log = i.log in
    let new = c.put.new.self in
    let vs = c.in_ok-values.values in
    let reads = i.deferred in
    let left = c.drop_answered.new.self in
    let now = c.held.result in
    let after = c.execute_values.new.self.left in
    let all = own g (goal.at.invariant_of-self-2 g c).In_ok-values in
    let live : i.live ≡ true = rw (← c.self.view_is) at c.requires.live in
    let first : new.first ≡ log.first = rw (c.put.ensures.first, c.ready.ensures.first) refl in
    let list : new.list ≡ log.list ++ vs = rw (c.put.ensures.list, c.ready.ensures.list, c.into_values-values.ensures) refl in
    let early : are_own_early i.cluster new.early ≡ true =
    rw (c.put.ensures.early, c.ready.ensures.early)
    (still_own i.cluster (held new) log.early c.self.invariant.waiting) in
    let before : held c.ready.new.self ≡ held log = (λ j. c.ready.ensures.first j + length (c.ready.ensures.list j)) in
    let ran : after ≡ machine_from (held log) i.machine.left vs =
    rw (
      c.execute_values.ensures.machine,
      c.make_room.ensures.left,
      c.held-held.ensures.held,
      before,
      c.as_slice-2.ensures.items,
      c.into_values-values.ensures,
    ) refl in
    let short : held log + length vs ≤ 2 ^ 40 = rw before at c.in_ok-values.ensures.short in
    let is_left : left ≡ still_deferred now reads = c.drop_answered.ensures in
    let fit : are_reads left ≡ true = rw is_left (still_reads now reads c.self.invariant.reads) in
    let few : length left ≤ 64 = rw is_left (still_few now reads 64 c.self.invariant.few) in
    rw c.in_ok-keep.ensures.lives
    (sound_more i.cluster i.me i.live log new i.machine.left after i.wanted reads left vs c.self.invariant (c.self.invariant.whole live)
    first list all early ran short fit few)

pub returns : goal.returns
returns g c =
    let i = c.self.inside in
    let log = i.log in
    let value = c.args.value.now in
    let vs = c.in_ok-values.values in
    let reads = i.deferred in
    let left = c.drop_answered.new.self in
    let put = c.put in
    let executed = c.execute_values in
    let before : held c.ready.new.self ≡ held log = (λ j. c.ready.ensures.first j + length (c.ready.ensures.list j)) in
    let at : c.held-held.result ≡ held log = c.held-held.ensures.held ∙ before in
    let count : c.held-held.result + length c.as_slice-count.result.now ≡ held log + length vs =
    rw (at, c.as_slice-count.ensures.items) refl in
    let ready : vs ≡ ready_values (held log) log.early value = c.in_ok-values.ensures.values in
    let first : put.new.self.first ≡ log.first = put.ensures.first ∙ c.ready.ensures.first in
    let new : put.new.self.list ≡ log.list ++ c.into_values-values.result = rw (put.ensures.list, c.ready.ensures.list) refl in
    let values = c.as_slice-2.ensures.items ∙ c.into_values-values.ensures in
    let ran : executed.new.self.left ≡ machine_from (held log) i.machine.left vs =
    executed.ensures.machine ∙ (λ j. machine_from (at j) (c.make_room.ensures.left j) (values j)) in
    let empty = c.room.ensures.list ∙ c.requires.empty in
    done
    (record {
      why = refl;
      kept = search rules;
      state = subst (λ (s : Running ReplicaDurable ReplicaVolatile).
          replica_view i.cluster i.me c.keep.new.live put.new.self executed.new.self.left (record i.wanted { begun = true }) left i.fetched
          ≡ running_after replica_rules s (applied_in s value))
          c.self.view_is
          (rw c.in_ok-keep.ensures.lives
          (state_behind i.cluster i.me i.live log put.new.self i.machine.left executed.new.self.left i.wanted i.fetched value vs
          c.into_values-values.result c.ready.new.self.early reads left c.held.result first new c.into_values-values.ensures ready
          put.ensures.early c.ready.ensures.early c.drop_answered.ensures c.held.ensures.held ran));
      sends = subst (λ (s : Running ReplicaDurable ReplicaVolatile). c.answer_reads.new.out.list ≡ (applied_in s value).sends)
          c.self.view_is
          (sent_behind i.cluster i.me (held log) _ vs c.as_slice-2.result.now i.machine.left c.make_room.new.self.left
          executed.new.self.left c.held-held.result (c.held-held.result + length c.as_slice-count.result.now) reads
          reads c.room.new.self.list executed.new.out.list c.answer_reads.new.out.list
          c.make_room.ensures.left at values ready refl
          executed.ensures.machine count empty executed.ensures.sends c.answer_reads.ensures);
    })
    (search rules)
