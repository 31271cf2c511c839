use Rattle.cx_client.proofs.Steps.{opened_is_client, takes_stays, ticks_stays}
use Rattle.cx_client.proofs.law.clients_stay.Goals as goal

pub returns-clause-opened : goal.returns-clause-opened
returns-clause-opened c = opened_is_client

pub returns-clause-takes : goal.returns-clause-takes
returns-clause-takes c = takes_stays

pub returns-clause-ticks : goal.returns-clause-ticks
returns-clause-ticks c = ticks_stays
