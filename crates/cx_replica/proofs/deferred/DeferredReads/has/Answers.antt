use Rattle.std.proofs.Common.{◌∙◌}
use Rattle.cx_replica.proofs.Waiting.{found}
use Rattle.cx_replica.proofs.deferred.DeferredReads.has.Goals as goal

pub returns : goal.returns
returns c =
    rw (← c.self.view_is) (c.contains_key.ensures ∙ rw c.deferred_number.ensures (found c.args.token c.self.inside.map.entries))
