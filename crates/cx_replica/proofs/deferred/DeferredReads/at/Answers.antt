use Rattle.std.proofs.Common.{rules}
use Rattle.cx_replica.proofs.Waiting.{read_at}
use Rattle.cx_replica.proofs.deferred.DeferredReads.at.Goals as goal

pub returns : goal.returns
returns c = rw (← c.self.view_is, c.deferred_by.ensures) (read_at c.self.inside.map.entries c.args.place _ (search rules))
