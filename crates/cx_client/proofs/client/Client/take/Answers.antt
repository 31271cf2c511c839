use Rattle.cx_inv_run.proofs.Common.{subst, Msg}
use Rattle.cx_letter.specs.LetterParts.{PartsFit}
use Rattle.cx_client.proofs.Steps.{at_fits}
use Rattle.cx_client.proofs.client.Client.take.Goals as goal

pub hear-requires-clause-at : goal.hear-requires-clause-at
hear-requires-clause-at c =
    let parts = subst (λ (m : Msg). PartsFit c.args.datagram.now.from c.args.datagram.now.to m) c.in-Answer.is c.msg.ensures.parts in
    at_fits c.in-Answer.at parts.2
