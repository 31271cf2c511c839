use Rattle.cx_trace.proofs.Begins.{behind, on_err}
use Rattle.cx_trace.proofs.events.put_event.Goals as goal

pub returns-in_err-put_happening-clause-err : goal.returns-in_err-put_happening-clause-err
returns-in_err-put_happening-clause-err c = on_err c.from_residual-in_err-put_happening.result (behind _ _ _ _ c.in_ok-put.ensures.ok
    (behind _ _ _ _ c.in_ok-put_number.ensures.ok (behind _ _ _ _ c.in_ok-put-2.ensures.ok c.in_err-put_happening.ensures.err)))
