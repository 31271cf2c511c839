use Rattle.std.proofs.Common.{[], ◌∙◌, append-nil, arith}
use Rattle.cx_replica.proofs.Progress.{way_on}
use Rattle.cx_replica.proofs.Roomy.{command_room, next_one}
use Rattle.cx_replica.proofs.machine.Machine.execute_all.Goals as goal

pub execute-requires-clause-room : goal.execute-requires-clause-room
execute-requires-clause-room c =
    let loop = c.loop-command in
    let command = c.command-item in
    command_room c.args.commands.now loop.command-index command.result c.loop-command-test.true command.is loop.self
    (loop.invariant.room [] (rw (append-nil c.args.commands.now) c.requires.room))

pub loop-command-preserved : goal.loop-command-preserved
loop-command-preserved c =
    let loop = c.loop-command in
    let command = c.command-item in
    let ran = c.execute in record {
      way = way_on c.args.at c.args.self.now.left loop.self.left ran.new.self.left loop.answers.items ran.new.answers.items
          c.args.commands.now loop.command-index command.result c.loop-command-test.true command.is loop.invariant.way
          ran.ensures.machine ran.ensures.answers ran.ensures.fit;
      room = λ later all. ran.ensures.room _
          (rw (next_one c.args.commands.now loop.command-index command.result c.loop-command-test.true command.is)
          at (loop.invariant.room later all));
      answers = omega (arith, loop.invariant.answers);
      capacity = ran.ensures.capacity ∙ loop.invariant.capacity;
    }
