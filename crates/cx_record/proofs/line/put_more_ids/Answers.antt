use Rattle.cx_record.proofs.Rows.{through}
use Rattle.cx_trace.proofs.Begins.{behind, on_err}
use Rattle.cx_record.proofs.line.put_more_ids.Goals as goal

pub returns-in_err-put_number-clause-err : goal.returns-in_err-put_number-clause-err
returns-in_err-put_number-clause-err c = on_err c.from_residual-in_err-put_number.result
    (through _ _ _ c.loop-id.invariant.begins (behind _ _ _ _ c.in_ok-put.ensures.ok c.in_err-put_number.ensures.err))
