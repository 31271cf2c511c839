use Rattle.cx_client.proofs.Steps.{starts_marked, takes_heard, takes_marked, ticks_marked}
use Rattle.cx_client.proofs.law.sessions_tell_what_was_heard.Goals as goal

pub returns-clause-heard : goal.returns-clause-heard
returns-clause-heard c = takes_heard

pub returns-clause-starts : goal.returns-clause-starts
returns-clause-starts c = starts_marked

pub returns-clause-takes : goal.returns-clause-takes
returns-clause-takes c = takes_marked

pub returns-clause-ticks : goal.returns-clause-ticks
returns-clause-ticks c = ticks_marked
