use Rattle.cx_trace.proofs.Begins.{behind, on_err}
use Rattle.cx_trace.proofs.pieces.put_role_at.Goals as goal

pub returns-in_err-put_number-clause-err : goal.returns-in_err-put_number-clause-err
returns-in_err-put_number-clause-err c = on_err c.from_residual-in_err-put_number.result
    (behind _ _ _ _ c.in_ok-put.ensures.ok (behind _ _ _ _ c.in_ok-put-2.ensures.ok c.in_err-put_number.ensures.err))
