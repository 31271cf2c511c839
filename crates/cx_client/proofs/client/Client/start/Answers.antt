use Rattle.std.proofs.Common.{◌∙◌, subst}
use Rattle.cx_client.specs.Client.{IsClient}
use Rattle.cx_client.proofs.Steps.{sent_first}
use Rattle.cx_client.proofs.client.Client.start.Goals as goal

pub returns-clause-sends : goal.returns-clause-sends
returns-clause-sends c = sent_first c.args.self.now _ _ (subst IsClient c.self.view_is c.self.invariant)
    (c.in_ok-room.ensures.list ∙ c.requires.empty) c.send_above.ensures
