use Rattle.cx_client.proofs.Steps.{further_is_client}
use Rattle.cx_client.proofs.client.Client.ask_again.Goals as goal

pub invariant_of-self : goal.invariant_of-self
invariant_of-self c = further_is_client _ _ c.self.invariant
