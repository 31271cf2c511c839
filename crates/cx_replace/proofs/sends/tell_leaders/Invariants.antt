use Rattle.cx_role.proofs.Common.{Replacer, role, Leader, IsSending, sets_to}
use Rattle.cx_replace.proofs.sends.tell_leaders.Given as goal

abbrev pub invariant-loop-leader : goal.invariant-loop-leader
invariant-loop-leader l =
    IsSending (λ x. sets_to (role Replacer l.replacer) l.set (role Leader x)) l.fn.out l.out l.leader l.count
