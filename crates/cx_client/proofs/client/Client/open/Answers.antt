use Rattle.cx_client.proofs.Steps.{further_is_client, opened_is_client}
use Rattle.cx_client.proofs.client.Client.open.Goals as goal

pub invariant_of-result : goal.invariant_of-result
invariant_of-result c =
    further_is_client _ c.if-options.result (opened_is_client c.args.cluster.now c.args.me.index c.args.script.items c.args.options
    c.requires.script c.requires.some_window c.requires.window)
