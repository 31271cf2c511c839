-- Short commands: what their fields mean.
use Rattle.std.specs.Prelude.{◌-◌, ◌≤◌, ℕ, List, length, take, drop}
use Rattle.cx_base.specs.Name.{IsName}
use Rattle.cx_base.specs.declared.command.Command.{Command}
use Rattle.cx_base.specs.declared.command.Op.{Op}
use Rattle.cx_base.specs.declared.command.Op.TheVariants as op
use Rattle.cx_rlog.specs.declared.packed.Verb.{Verb}
use Rattle.cx_rlog.specs.declared.packed.Verb.TheVariants.{Put, Del, App}

-- what is done to a key, with a text where there is one
abbrev pub op_of : Verb → List ℕ → List ℕ → Op
op_of Put key text = op.Put key text
op_of Del key text = op.Del key
op_of App key text = op.App key text

-- the command whose floor is the number before its own, whose key is the first bytes, this many, and whose text is the
-- others
abbrev pub command_of : ℕ → ℕ → Verb → ℕ → List ℕ → Command
command_of client seq verb middle bytes =
    record { client = client; seq = seq; floor = seq - 1; op = op_of verb (take middle bytes) (drop middle bytes) }

-- bytes that are a text, where a text is needed
abbrev pub HasText : Verb → List ℕ → Type 0
HasText Put text = IsName 64 text
HasText Del text = Unit {0}
HasText App text = IsName 64 text

-- the bytes of a key come first, and those of a text after them
pub record IsShortCommand (verb : Verb) (middle end : ℕ) (bytes : List ℕ) : Type 0 where
  pub within : end ≤ length bytes
  pub front : middle ≤ end
  pub key : IsName 32 (take middle (take end bytes))
  pub text : HasText verb (drop middle (take end bytes))
