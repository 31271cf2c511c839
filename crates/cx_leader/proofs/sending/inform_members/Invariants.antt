use Rattle.cx_role.proofs.Common.{role, Leader, is_in, IsSendingTo}
use Rattle.cx_model.specs.Leader.{inform_to}
use Rattle.cx_leader.proofs.sending.inform_members.Given as goal

abbrev pub invariant-loop-acceptor : goal.invariant-loop-acceptor
invariant-loop-acceptor l = IsSendingTo (λ a. is_in a l.own.grid.members) (inform_to (role Leader l.leader) l.own.round l.mark) l.fn.out
    l.out l.acceptor l.cluster.acceptors
