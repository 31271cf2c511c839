use Rattle.std.proofs.Common.{◌≡◌, ◌+◌, ◌-◌, ℕ, get_or, length}
use Rattle.cx_choice.proofs.chains.make_room.Given as goal

abbrev pub invariant-loop-first : goal.invariant-loop-first
invariant-loop-first l = (s : ℕ) → get_or l.first.items s 0 ≡ get_or l.fn.first.items s 0

abbrev pub decreases-loop-first : goal.decreases-loop-first
decreases-loop-first l = l.slot + 1 - length l.first.items
