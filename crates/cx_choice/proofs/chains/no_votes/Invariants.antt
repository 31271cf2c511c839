use Rattle.std.proofs.Common.{◌≡◌, length}
use Rattle.cx_choice.proofs.chains.no_votes.Given as goal

abbrev pub invariant-loop : goal.invariant-loop
invariant-loop l = length l.next.items ≡ l.counter
