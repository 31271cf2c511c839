-- What is told behind the line of a status.
use Rattle.std.specs.Prelude.{Bool, false, Option, None, Some, is_some, if◌then◌else◌}
use Rattle.cx_base.specs.declared.status.Status.{Status}
use Rattle.cx_base.specs.declared.status.Status.TheVariants.{LinkFault, StoreFault}
use Rattle.compax.specs.declared.further.Further.{Further}
use Rattle.compax.specs.declared.further.Further.TheVariants as what
use Rattle.compax.specs.declared.words.Invocation.{Invocation}
use Rattle.compax.specs.declared.words.Invocation.TheVariants.{Node}

-- a node is asked for that tends its roles
abbrev pub is_tended : Option Invocation → Bool
is_tended (Some (Node turns tend window recording roles)) = is_some tend
is_tended other = false

-- what failed, where it is the link or a store
abbrev pub failing : Status → Option Further
failing LinkFault = Some what.Link
failing (StoreFault role) = Some (what.Store role)
failing other = None

abbrev pub further_of : Status → Option Invocation → Option Further
further_of status asked = if is_tended asked then failing status else None
