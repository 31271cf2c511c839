use Rattle.cx_letter.specs.Prelude.{◌≡◌, ◌≤◌, ◌+◌, ◌++◌, length, command_list, map_behind, role}
use Rattle.cx_base.specs.declared.role.Kind.TheVariants as kind
use Rattle.cx_world.proofs.Following.{executed_all, executed_next}
use Rattle.cx_world.specs.Folded.{values_by}
use Rattle.cx_world.proofs.folded.folded.Goals as goal

pub loop-number-preserved : goal.loop-number-preserved
loop-number-preserved c =
    let me = role kind.Replica c.args.replica in
    let one = c.in_ok-at.field-0 in
    let loop = c.loop-number in
    let more = c.execute_kept.new in
    let done = c.in_ok-execute_kept.ensures in
    let held : more.folded.held ≡ loop.folded.held + length (values_by me one) = rw c.new-me.ensures at done.held in
    let before : more.before ≡ loop.before ++ command_list (values_by me one) = rw c.new-me.ensures at done.before in
    let store : more.folded.store ≡ map_behind loop.before loop.folded.store (command_list (values_by me one)) =
    rw c.new-me.ensures at done.store in
    executed_next me c.args.kept.now loop.number one loop.folded.held more.folded.held loop.before more.before loop.folded.store
    more.folded.store c.in_ok-at.ensures held before store loop.invariant

pub returns : goal.returns
returns c =
    let loop = c.loop-number in
    let done : length c.args.kept.now ≤ loop.number = rw c.len-number-end.ensures at c.loop-number-test.false in
    let all = executed_all c.args.replica c.args.kept.now loop.number loop.folded.held loop.before loop.folded.store done loop.invariant in
    λ i. record { held = all.0 i; store = all.1 i }
