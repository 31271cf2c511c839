use Rattle.cx_reader.proofs.Entries.{once}
use Rattle.cx_reader.proofs.reads.AskedReads.len.Goals as goal

pub returns-clause-once : goal.returns-clause-once
returns-clause-once c = rw (← c.self.view_is) (once c.self.inside.map.entries c.len.ensures.unique)
