use Rattle.cx_trace.proofs.Begins.{behind, on_err}
use Rattle.cx_trace.proofs.replies.put_read.Goals as goal

pub returns-in_err-put_found-clause-err : goal.returns-in_err-put_found-clause-err
returns-in_err-put_found-clause-err c =
    on_err c.from_residual-in_err-put_found.result
    (behind _ _ _ _ c.in_ok-put.ensures.ok (behind _ _ _ _ c.in_ok-put_answered.ensures.ok (behind _ _ _ _ c.in_ok-put-2.ensures.ok
    (behind _ _ _ _ c.in_ok-put_number.ensures.ok (behind _ _ _ _ c.in_ok-put-3.ensures.ok c.in_err-put_found.ensures.err)))))
