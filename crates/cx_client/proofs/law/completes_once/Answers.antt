use Rattle.cx_client.proofs.Steps.{answer_completes, takes_none, takes_one, ticks_none, ticks_same}
use Rattle.cx_client.proofs.law.completes_once.Goals as goal

pub returns-clause-one : goal.returns-clause-one
returns-clause-one c = takes_one

pub returns-clause-none : goal.returns-clause-none
returns-clause-none c = takes_none

pub returns-clause-answered : goal.returns-clause-answered
returns-clause-answered c = answer_completes

pub returns-clause-ticks : goal.returns-clause-ticks
returns-clause-ticks c = ticks_none

pub returns-clause-same : goal.returns-clause-same
returns-clause-same c = ticks_same
