use Rattle.cx_role.specs.Prelude.{role, Leader, is_member_of, phase1a_to}
use Rattle.cx_role.proofs.Sends.{IsSendingTo}
use Rattle.cx_leader.proofs.sending.ask_to_promise.Given as goal

abbrev pub invariant-loop-acceptor : goal.invariant-loop-acceptor
invariant-loop-acceptor l = IsSendingTo (λ a. is_member_of l.phase1.live a) (phase1a_to (role Leader l.leader) l.round) l.fn.out l.out
    l.acceptor l.cluster.acceptors
