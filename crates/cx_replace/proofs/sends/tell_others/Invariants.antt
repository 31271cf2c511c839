use Rattle.cx_role.proofs.Common.{Replacer, ◌==◌, not, role, IsSendingTo, sets_to}
use Rattle.cx_replace.proofs.sends.tell_others.Given as goal

abbrev pub invariant-loop-other : goal.invariant-loop-other
invariant-loop-other l = IsSendingTo (λ x. not (x == l.replacer)) (λ x. sets_to (role Replacer l.replacer) l.set (role Replacer x)) l.fn.out
    l.out l.other l.count
