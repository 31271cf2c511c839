use Rattle.cx_base.specs.declared.role.Kind.TheVariants as kind
use Rattle.cx_base.specs.Role.{role}
use Rattle.cx_inv_match.proofs.OtherRecords.{keep_turn}
use Rattle.cx_inv_match.proofs.turn_law.Goals as goal

pub returns : goal.returns
returns g = λ c history sent states facts r. keep_turn c history sent states facts (role kind.Reader r)
