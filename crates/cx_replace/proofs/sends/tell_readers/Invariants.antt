use Rattle.cx_role.proofs.Common.{Replacer, role, Reader, IsSending, sets_to}
use Rattle.cx_replace.proofs.sends.tell_readers.Given as goal

abbrev pub invariant-loop-reader : goal.invariant-loop-reader
invariant-loop-reader l =
    IsSending (λ x. sets_to (role Replacer l.replacer) l.set (role Reader x)) l.fn.out l.out l.reader l.count
