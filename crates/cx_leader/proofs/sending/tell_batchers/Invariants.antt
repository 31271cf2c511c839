use Rattle.cx_role.specs.Prelude.{role, Leader, leads_to}
use Rattle.cx_role.proofs.Sends.{IsSending}
use Rattle.cx_leader.proofs.sending.tell_batchers.Given as goal

abbrev pub invariant-loop-batcher : goal.invariant-loop-batcher
invariant-loop-batcher l =
    IsSending (leads_to (role Leader l.leader) l.round) l.fn.out l.out l.batcher l.count
