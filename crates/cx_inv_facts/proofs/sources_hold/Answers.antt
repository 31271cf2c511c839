use Rattle.cx_inv_facts.proofs.NotedLaws.{sources_hold as law}
use Rattle.cx_inv_facts.proofs.sources_hold.Goals as goal

pub returns : goal.returns
returns g = law
