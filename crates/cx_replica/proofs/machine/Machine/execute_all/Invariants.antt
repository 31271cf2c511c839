use Rattle.std.proofs.Common.{◌≡◌, ◌++◌, List, drop, length, vec_capacity, vec_len}
use Rattle.cx_base.specs.declared.command.Command.{Command}
use Rattle.cx_replica.specs.Room.{HasRoom}
use Rattle.cx_replica.proofs.Progress.{AnswersFit, IsOnWay}
use Rattle.cx_replica.proofs.machine.Machine.execute_all.Given as goal

abbrev pub invariant-loop-command : goal.invariant-loop-command
invariant-loop-command l = record {
  way : IsOnWay l.at l.initial.self.left l.commands l.self.left l.answers.items (drop l.command-index l.commands);
  room : (later : List Command) → HasRoom l.initial.self (l.commands ++ later)
      → HasRoom l.self (drop l.command-index l.commands ++ later);
  answers : AnswersFit (length l.commands) l.command-index (vec_capacity l.answers) (vec_len l.answers);
  capacity : vec_capacity l.answers ≡ vec_capacity l.initial.answers;
}
