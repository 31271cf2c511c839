use Rattle.cx_model.specs.Prelude.{drop, acceptor_rules}
use Rattle.cx_role.proofs.Reopening.{IsReopening}
use Rattle.cx_acceptor.proofs.acceptor.AcceptorRole.reopen.Given as goal

abbrev pub invariant-loop-index : goal.invariant-loop-index
invariant-loop-index l =
    IsReopening acceptor_rules l.fn.self l.acceptor l.index (drop l.index l.records) l.records
