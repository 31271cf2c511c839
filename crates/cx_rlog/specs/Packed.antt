-- Values as the log holds them.
use Rattle.std.specs.Prelude.{[], ◌∷◌}
use Rattle.cx_base.specs.declared.command.Value.{Value}
use Rattle.cx_base.specs.declared.command.Value.TheVariants as value
use Rattle.cx_rlog.specs.declared.packed.Form.{Form}
use Rattle.cx_rlog.specs.declared.packed.Form.TheVariants.{Noop, Short, Long}

-- the value that is held
abbrev pub value_of : Form → Value
value_of Noop = value.Noop
value_of (Short command) = value.Batch (command ∷ [])
value_of (Long commands) = value.Batch commands
