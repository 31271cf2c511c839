use Rattle.cx_role.proofs.Ranges.{real_above}
use Rattle.cx_acceptor.proofs.acceptor.Acceptor.refuse.Goals as goal

pub nack-requires-clause-promise : goal.nack-requires-clause-promise
nack-requires-clause-promise c =
    real_above c.args.round c.self.inside.promise c.requires.round c.self.invariant.promise
    (rw (← c.self.view_is) at c.requires.before)
