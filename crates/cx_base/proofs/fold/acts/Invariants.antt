use Rattle.cx_base.proofs.Common.{◌≡◌, drop, acts}
use Rattle.cx_base.proofs.fold.acts.Given as goal

abbrev pub invariant-loop-earlier : goal.invariant-loop-earlier
invariant-loop-earlier l = acts (drop l.earlier-index l.before) l.command ≡ acts l.before l.command
