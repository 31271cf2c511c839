use Rattle.cx_client.proofs.Steps.{starts_own, takes_own, ticks_own}
use Rattle.cx_client.proofs.law.sends_are_own.Goals as goal

pub returns-clause-starts : goal.returns-clause-starts
returns-clause-starts c = starts_own

pub returns-clause-takes : goal.returns-clause-takes
returns-clause-takes c = takes_own

pub returns-clause-ticks : goal.returns-clause-ticks
returns-clause-ticks c = ticks_own
