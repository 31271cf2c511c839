use Rattle.cx_role.proofs.Common.{◌≡◌, ◌+◌, drop}
use Rattle.cx_replace.specs.Joining.{earlier}
use Rattle.cx_replace.proofs.join.place_of.Given as goal

abbrev pub invariant-loop-place : goal.invariant-loop-place
invariant-loop-place l = l.place + earlier l.round (drop l.place l.entries) ≡ earlier l.round l.entries
