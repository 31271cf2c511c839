use Rattle.cx_trace.proofs.Begins.{behind, still_on_err}
use Rattle.cx_record.proofs.line.put_words.Goals as goal

pub returns-in_ok-put_number-in-Deliver-clause-err : goal.returns-in_ok-put_number-in-Deliver-clause-err
returns-in_ok-put_number-in-Deliver-clause-err c = still_on_err c.put_cut.result (λ begins.
    behind _ _ _ _ c.in_ok-put-in-Deliver.ensures.ok (behind _ _ _ _ c.in_ok-put_number-in-Deliver.ensures.ok begins)) c.put_cut.ensures.err

pub returns-in_ok-put_role_word-in-Snap-clause-err : goal.returns-in_ok-put_role_word-in-Snap-clause-err
returns-in_ok-put_role_word-in-Snap-clause-err c =
    still_on_err c.put_cut-in-Snap.result (λ begins. behind _ _ _ _ c.in_ok-put-in-Snap.ensures.ok
    (behind _ _ _ _ c.in_ok-put_role_word-in-Snap.ensures.ok begins)) c.put_cut-in-Snap.ensures.err
