use Rattle.std.proofs.Common.{◌≡◌, ◌++◌, drop, length, take}
use Rattle.cx_trace.specs.Summary.{commands_text}
use Rattle.cx_trace.proofs.commands.put_commands.Given as goal

abbrev pub invariant-loop-command : goal.invariant-loop-command
invariant-loop-command l = record {
  text : l.text.items ++ commands_text l.slot l.before (drop l.command-index l.commands)
      ≡ l.fn.text.items ++ commands_text l.slot l.fn.before l.commands;
  before : l.before ++ drop l.command-index l.commands ≡ l.fn.before ++ l.commands;
  begins : take (length l.fn.text.items) l.text.items ≡ l.fn.text.items;
}
