use Rattle.cx_trace.proofs.Begins.{behind, on_err}
use Rattle.cx_trace.proofs.commands.put_command.Goals as goal

pub returns-in_err-put_request-clause-err : goal.returns-in_err-put_request-clause-err
returns-in_err-put_request-clause-err c = on_err c.from_residual-in_err-put_request.result
    (behind _ _ _ _ c.in_ok-put_number.ensures.ok (behind _ _ _ _ c.in_ok-put.ensures.ok c.in_err-put_request.ensures.err))

pub returns-in_err-put_op-clause-err : goal.returns-in_err-put_op-clause-err
returns-in_err-put_op-clause-err c =
    on_err c.from_residual-in_err-put_op.result (behind _ _ _ _ c.in_ok-put_number.ensures.ok (behind _ _ _ _ c.in_ok-put.ensures.ok
    (behind _ _ _ _ c.in_ok-put_request.ensures.ok (behind _ _ _ _ c.in_ok-put-2.ensures.ok c.in_err-put_op.ensures.err))))

pub returns-in_err-put_acts-clause-err : goal.returns-in_err-put_acts-clause-err
returns-in_err-put_acts-clause-err c =
    on_err c.from_residual-in_err-put_acts.result (behind _ _ _ _ c.in_ok-put_number.ensures.ok
    (behind _ _ _ _ c.in_ok-put.ensures.ok (behind _ _ _ _ c.in_ok-put_request.ensures.ok (behind _ _ _ _ c.in_ok-put-2.ensures.ok
    (behind _ _ _ _ c.in_ok-put_op.ensures.ok (behind _ _ _ _ c.in_ok-put-3.ensures.ok c.in_err-put_acts.ensures.err))))))
