use Rattle.std.proofs.Common.{◌≡◌, drop}
use Rattle.compax.specs.Roles.{stand_once}
use Rattle.compax.proofs.roles.stand_once.Given as goal

abbrev pub invariant-loop-place : goal.invariant-loop-place
invariant-loop-place l = stand_once (drop l.place l.roles) ≡ stand_once l.roles
