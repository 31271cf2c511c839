use Rattle.cx_history.specs.Held.{token_number}
use Rattle.cx_history.proofs.requests.put_asked.Goals as goal

pub returns : goal.returns
returns c = λ t. rw c.token_number.ensures at (c.in-Ok.ensures.updates.0 (token_number t))
