use Rattle.cx_letter.specs.Prelude.{◌++◌, command_list, map_behind}
use Rattle.cx_world.proofs.Following.{value_next}
use Rattle.cx_world.proofs.folded.execute_all.Goals as goal

pub loop-value-preserved : goal.loop-value-preserved
loop-value-preserved c =
    let loop = c.loop-value in
    let values = c.args.values.now in
    let next =
    value_next values loop.value-index c.value-item.result loop.before c.apply_value.new.before loop.store c.apply_value.new.store
    (c.args.before.now ++ command_list values) (map_behind c.args.before.now c.args.store.now (command_list values)) c.loop-value-test.true
    c.value-item.is c.in_ok-apply_value.ensures.store c.in_ok-apply_value.ensures.before loop.invariant.before loop.invariant.store in
    record { store = next.1; before = next.0 }
