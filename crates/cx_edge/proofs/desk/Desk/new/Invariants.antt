use Rattle.std.proofs.Common.{◌≡◌, ◌++◌, drop, map}
use Rattle.cx_edge.specs.Desk.{no_faults}
use Rattle.cx_edge.proofs.desk.Desk.new.Given as goal

abbrev pub invariant-loop-role : goal.invariant-loop-role
invariant-loop-role l = l.counts.items ++ map no_faults (drop l.role-index l.roles) ≡ map no_faults l.roles
