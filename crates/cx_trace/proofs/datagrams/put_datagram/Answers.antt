use Rattle.cx_trace.proofs.Begins.{behind, still_on_err}
use Rattle.cx_trace.proofs.datagrams.put_datagram.Goals as goal

pub returns-clause-err : goal.returns-clause-err
returns-clause-err c = still_on_err c.put_told_by.result (λ begins. (behind _ _ _ _ c.in_ok-put_head.ensures.ok
    (behind _ _ _ _ c.in_ok-put_hex.ensures.ok (behind _ _ _ _ c.in_ok-put.ensures.ok begins)))) c.put_told_by.ensures.err
