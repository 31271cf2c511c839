use Rattle.cx_trace.proofs.Begins.{behind, on_err, still_on_err}
use Rattle.cx_trace.proofs.datagrams.put_named.Goals as goal

pub returns-in_err-put_party-clause-err : goal.returns-in_err-put_party-clause-err
returns-in_err-put_party-clause-err c =
    on_err c.from_residual-in_err-put_party.result (behind _ _ _ _ c.in_ok-put_numbered.ensures.ok c.in_err-put_party.ensures.err)

pub returns-in_err-put_party-2-clause-err : goal.returns-in_err-put_party-2-clause-err
returns-in_err-put_party-2-clause-err c = on_err c.from_residual-in_err-put_party-2.result
    (behind _ _ _ _ c.in_ok-put_numbered.ensures.ok (behind _ _ _ _ c.in_ok-put_party.ensures.ok c.in_err-put_party-2.ensures.err))

pub returns-clause-err : goal.returns-clause-err
returns-clause-err c = still_on_err c.put_name.result (λ begins. (behind _ _ _ _ c.in_ok-put_numbered.ensures.ok
    (behind _ _ _ _ c.in_ok-put_party.ensures.ok (behind _ _ _ _ c.in_ok-put_party-2.ensures.ok begins)))) c.put_name.ensures.err
