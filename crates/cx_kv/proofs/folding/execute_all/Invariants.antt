use Rattle.cx_base.proofs.Common.{◌≡◌, ◌++◌, drop, map_behind}
use Rattle.cx_kv.proofs.folding.execute_all.Given as goal

abbrev pub invariant-loop-command : goal.invariant-loop-command
invariant-loop-command l = record {
  store : map_behind l.before l.store (drop l.command-index l.commands) ≡ map_behind l.fn.before l.fn.store l.commands;
  before : l.before ++ drop l.command-index l.commands ≡ l.fn.before ++ l.commands;
}
