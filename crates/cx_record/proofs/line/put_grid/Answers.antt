use Rattle.cx_trace.proofs.Begins.{behind, still_on_err}
use Rattle.cx_record.proofs.line.put_grid.Goals as goal

pub returns-clause-err : goal.returns-clause-err
returns-clause-err c =
    still_on_err c.put_ids.result (λ begins. behind _ _ _ _ c.in_ok-put.ensures.ok
    (behind _ _ _ _ c.in_ok-put_sides.ensures.ok (behind _ _ _ _ c.in_ok-put-2.ensures.ok begins))) c.put_ids.ensures.err
