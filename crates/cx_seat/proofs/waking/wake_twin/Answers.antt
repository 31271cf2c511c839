use Rattle.cx_role.proofs.Common.{◌≡◌, ◌+◌, ◌∙◌, ℕ, List, ap, is_some, length, Some, arith, rules, replica_rules, refused}
use Rattle.cx_model.specs.Prelude.{Record, opened}
use Rattle.cx_base.specs.declared.role.Kind.TheVariants as kind
use Rattle.cx_journal.specs.Twin.{seen_pair_records}
use Rattle.cx_seat.proofs.RefusedPlace.{refused_within}
use Rattle.cx_seat.proofs.Woken.{bad_place}
use Rattle.cx_seat.specs.declared.waking.WakeStop.TheVariants as wake_stop
use Rattle.cx_seat.proofs.waking.wake_twin.Goals as goal

same_place : (a b : ℕ) → wake_stop.Bad a ≡ wake_stop.Bad b → b ≡ a
same_place a b e = cc

pub place-at-requires : goal.place-at-requires
place-at-requires g c =
    let at : refused replica_rules c.args.cluster.now c.args.me c.in-Ok.records.items ≡ Some c.in-Err-Record.index =
    search rules in
    let within = refused_within replica_rules c.args.cluster.now c.args.me c.in-Ok.records.items
    c.in-Err-Record.index at in
    let many : length c.in-Ok.twin.gates ≡ length c.in-Ok.records.items + 1 = search rules in
    omega (arith, within, many)

pub returns-in-Err-Record-clause-bad : goal.returns-in-Err-Record-clause-bad
returns-in-Err-Record-clause-bad g c = λ a b at first second e.
    let opened = c.in-Ok.ensures in
    let place : refused replica_rules c.args.cluster.now c.args.me c.in-Ok.records.items ≡ Some c.in-Err-Record.index =
    search rules in
    bad_place replica_rules c.args.cluster.now c.args.me a b c.in-Ok.records.items
    (seen_pair_records g.D.Disk.seen c.in-Ok.twin.first c.in-Ok.twin.second) c.in-Err-Record.index at c.in-Ok.twin.generation
    kind.Replica c.requires.kind (opened.records a b first second) place
    (opened.kept (ap is_some first, ap is_some second)) (opened.front a b first second)
    (same_place _ _ e ∙ c.place-at.ensures.place opened.whole
    (opened.first_tells ∙ ap is_some first, opened.second_tells ∙ ap is_some second))

pub returns-in-Ok-open-clause-role : goal.returns-in-Ok-open-clause-role
returns-in-Ok-open-clause-role g c = record {
  records = c.in-Ok.records.items;
  state = c.in-Ok-open.ensures.role ∙ ap (λ (rs : List Record). opened replica_rules c.args.cluster.now c.args.me rs) c.deref.ensures.value;
  accepted = search rules;
  read = search rules;
  kept = search rules;
  seen_same = search rules;
  each = search rules;
}
