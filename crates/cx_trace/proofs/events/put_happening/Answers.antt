use Rattle.cx_trace.proofs.Begins.{behind, still_on_err}
use Rattle.cx_trace.proofs.events.put_happening.Goals as goal

pub returns-in_ok-put_number-in-Deliver-clause-err : goal.returns-in_ok-put_number-in-Deliver-clause-err
returns-in_ok-put_number-in-Deliver-clause-err c =
    still_on_err c.put_reached.result (λ begins. (behind _ _ _ _ c.in_ok-put-in-Deliver.ensures.ok
    (behind _ _ _ _ c.in_ok-put_number-in-Deliver.ensures.ok begins))) c.put_reached.ensures.err

pub returns-in_ok-put-in-Tick-clause-err : goal.returns-in_ok-put-in-Tick-clause-err
returns-in_ok-put-in-Tick-clause-err c =
    still_on_err c.put_role.result (λ begins. (behind _ _ _ _ c.in_ok-put-in-Tick.ensures.ok begins)) c.put_role.ensures.err

pub returns-in_ok-put-in-Snap-clause-err : goal.returns-in_ok-put-in-Snap-clause-err
returns-in_ok-put-in-Snap-clause-err c = still_on_err c.put_role-in-Snap.result
    (λ begins. (behind _ _ _ _ c.in_ok-put-in-Snap.ensures.ok begins)) c.put_role-in-Snap.ensures.err

pub returns-in_ok-put-in-Crash-clause-err : goal.returns-in_ok-put-in-Crash-clause-err
returns-in_ok-put-in-Crash-clause-err c = still_on_err c.put_role-in-Crash.result
    (λ begins. (behind _ _ _ _ c.in_ok-put-in-Crash.ensures.ok begins)) c.put_role-in-Crash.ensures.err

pub returns-in_ok-put-in-Restart-clause-err : goal.returns-in_ok-put-in-Restart-clause-err
returns-in_ok-put-in-Restart-clause-err c = still_on_err c.put_role-in-Restart.result
    (λ begins. (behind _ _ _ _ c.in_ok-put-in-Restart.ensures.ok begins)) c.put_role-in-Restart.ensures.err
