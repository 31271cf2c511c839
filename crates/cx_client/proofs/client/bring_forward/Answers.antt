use Rattle.std.proofs.Common.{◌+◌}
use Rattle.std.proofs.lemmas.List.{get_or_read}
use Rattle.cx_client.proofs.Windows.{brought}
use Rattle.cx_client.proofs.client.bring_forward.Goals as goal

pub returns : goal.returns
returns c = λ d.
    let e = get_or_read c.args.script.now.items (c.args.done + c.args.place) c.index-event.result.now c.requires c.index-event.ensures d in
    rw (c.copy_within.ensures.items, e) (brought c.args.script.now.items c.args.done c.args.place _ c.requires)
