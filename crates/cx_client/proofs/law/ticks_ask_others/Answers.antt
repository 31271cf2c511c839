use Rattle.cx_client.proofs.Shifted.{named_shifted, shifted_next, shifted_none}
use Rattle.cx_client.proofs.Steps.{ticks_alone, ticks_further}
use Rattle.cx_client.proofs.law.ticks_ask_others.Goals as goal

pub returns-clause-alone : goal.returns-clause-alone
returns-clause-alone c = ticks_alone

pub returns-clause-further : goal.returns-clause-further
returns-clause-further c = ticks_further

pub returns-clause-own : goal.returns-clause-own
returns-clause-own c = shifted_none

pub returns-clause-next : goal.returns-clause-next
returns-clause-next c = shifted_next

pub returns-clause-named : goal.returns-clause-named
returns-clause-named c = named_shifted
