use Rattle.cx_trace.proofs.Begins.{behind, still_on_err}
use Rattle.cx_record.proofs.line.put_offer.Goals as goal

pub returns-clause-err : goal.returns-clause-err
returns-clause-err c = still_on_err c.put_offered.result (λ begins. behind _ _ _ _ c.in_ok-put.ensures.ok
    (behind _ _ _ _ c.in_ok-put_role_word.ensures.ok begins)) c.put_offered.ensures.err
