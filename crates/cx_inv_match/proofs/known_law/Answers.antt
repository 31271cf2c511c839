use Rattle.cx_base.specs.declared.role.Kind.TheVariants as kind
use Rattle.cx_base.specs.Role.{role}
use Rattle.cx_inv_match.proofs.SetRecords.{keep_known}
use Rattle.cx_inv_match.proofs.known_law.Goals as goal

pub returns : goal.returns
returns g = λ c history sent states facts x. keep_known c history sent states facts (role kind.Replacer x)
