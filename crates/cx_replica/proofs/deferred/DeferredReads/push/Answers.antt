use Rattle.cx_replica.proofs.Waiting.{pushed}
use Rattle.cx_replica.proofs.deferred.DeferredReads.push.Goals as goal

pub returns-clause-ok : goal.returns-clause-ok
returns-clause-ok c =
    rw (← c.self.view_is, c.in_ok-insert.ensures.entries, c.deferred_number.ensures, c.deferred_question.ensures)
    (pushed c.args.one c.self.inside.map.entries (rw (← c.self.view_is) at c.requires))
