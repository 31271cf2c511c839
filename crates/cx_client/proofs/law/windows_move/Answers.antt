use Rattle.cx_client.proofs.Steps.{takes_sent}
use Rattle.cx_client.proofs.Windows.{first_is, fits}
use Rattle.cx_client.proofs.law.windows_move.Goals as goal
use Rattle.cx_client.specs.Client.{left}

pub returns-clause-first : goal.returns-clause-first
returns-clause-first c = λ s e es is here. rw here (first_is s.window e es is.some_window)

pub returns-clause-fits : goal.returns-clause-fits
returns-clause-fits c = λ s e is m. fits s.window (left s) is.script.rising e m

pub returns-clause-sent : goal.returns-clause-sent
returns-clause-sent c = takes_sent
