use Rattle.cx_inv_facts.proofs.NotedLaws.{order_holds as law}
use Rattle.cx_inv_facts.proofs.order_holds.Goals as goal

pub returns : goal.returns
returns g = law
