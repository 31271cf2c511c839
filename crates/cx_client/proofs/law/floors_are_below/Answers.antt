use Rattle.cx_client.proofs.Steps.{starts_tell, takes_tell, ticks_tell}
use Rattle.cx_client.proofs.law.floors_are_below.Goals as goal

pub returns-clause-starts : goal.returns-clause-starts
returns-clause-starts c = starts_tell

pub returns-clause-takes : goal.returns-clause-takes
returns-clause-takes c = takes_tell

pub returns-clause-ticks : goal.returns-clause-ticks
returns-clause-ticks c = ticks_tell
