use Rattle.cx_trace.proofs.Begins.{behind, still_on_err}
use Rattle.cx_replay.proofs.step.put_step.Goals as goal

pub returns-clause-err : goal.returns-clause-err
returns-clause-err c = still_on_err c.lines_into.result (behind _ _ _ _ c.in_ok-event_into.ensures.ok) c.lines_into.ensures.err
