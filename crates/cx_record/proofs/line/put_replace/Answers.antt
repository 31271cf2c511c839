use Rattle.cx_trace.proofs.Begins.{behind, on_err, still_on_err}
use Rattle.cx_record.proofs.line.put_replace.Goals as goal

pub returns-in_err-put_ids_word-clause-err : goal.returns-in_err-put_ids_word-clause-err
returns-in_err-put_ids_word-clause-err c = on_err c.from_residual-in_err-put_ids_word.result
    (behind _ _ _ _ c.in_ok-put.ensures.ok (behind _ _ _ _ c.in_ok-put_role_word.ensures.ok c.in_err-put_ids_word.ensures.err))

pub returns-clause-err : goal.returns-clause-err
returns-clause-err c = still_on_err c.put_cut.result (λ begins. behind _ _ _ _ c.in_ok-put.ensures.ok
    (behind _ _ _ _ c.in_ok-put_role_word.ensures.ok (behind _ _ _ _ c.in_ok-put_ids_word.ensures.ok begins))) c.put_cut.ensures.err
