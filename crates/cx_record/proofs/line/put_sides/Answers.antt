use Rattle.cx_trace.proofs.Begins.{behind, still_on_err}
use Rattle.cx_record.proofs.line.put_sides.Goals as goal

pub returns-clause-err : goal.returns-clause-err
returns-clause-err c = still_on_err c.put_number-2.result
    (λ begins. behind _ _ _ _ c.in_ok-put_number.ensures.ok (behind _ _ _ _ c.in_ok-put.ensures.ok begins)) c.put_number-2.ensures.err
