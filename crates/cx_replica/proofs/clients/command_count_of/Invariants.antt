use Rattle.std.proofs.Common.{◌≡◌, ◌+◌, ◌≤◌, drop}
use Rattle.cx_replica.specs.Room.{command_count_of}
use Rattle.cx_replica.proofs.clients.command_count_of.Given as goal

abbrev pub invariant-loop-command : goal.invariant-loop-command
invariant-loop-command l = record {
  count : l.count + command_count_of l.client (drop l.command-index l.commands) ≡ command_count_of l.client l.commands;
  bound : l.count ≤ l.command-index;
}
