use Rattle.std.proofs.Common.{◌≡◌, ◌++◌, drop}
use Rattle.cx_choice.specs.Sorted.{rounds_of}
use Rattle.cx_choice.proofs.rounds.rounds_kept.Given as goal

abbrev pub invariant-loop-number : goal.invariant-loop-number
invariant-loop-number l = l.rounds.items ++ rounds_of (drop l.number l.kept) ≡ rounds_of l.kept
