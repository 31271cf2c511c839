use Rattle.cx_base.specs.declared.role.Kind.TheVariants as kind
use Rattle.cx_base.specs.Role.{role}
use Rattle.cx_world.proofs.Following.{IsExecuted}
use Rattle.cx_world.proofs.folded.folded.Given as goal

abbrev pub invariant-loop-number : goal.invariant-loop-number
invariant-loop-number l = IsExecuted (role kind.Replica l.replica) l.kept l.number l.folded.held l.before l.folded.store
