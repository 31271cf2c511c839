use Rattle.cx_replay.proofs.Ends.{completes}
use Rattle.cx_replay.proofs.Lawful.{lawful_input}
use Rattle.cx_replay.proofs.replaying.replay.Goals as goal

pub returns-in-Err-clause-lawful : goal.returns-in-Err-clause-lawful
returns-in-Err-clause-lawful g c = lawful_input (g.S.Source.left c.args.input.now) (g.S.Source.left c.args.input.now)

pub returns-clause-complete : goal.returns-clause-complete
returns-clause-complete g c = completes (g.S.Source.left c.args.input.now) (g.S.Source.left c.replay_lines.new.input)
    (g.S.Source.faults c.args.input.now) (g.S.Source.faults c.replay_lines.new.input)
    (g.W.Sink.taken c.args.out.now) (g.W.Sink.taken c.replay_lines.new.out) (g.W.Sink.faults c.args.out.now)
    (g.W.Sink.faults c.replay_lines.new.out) c.replay_lines.result c.replay_lines.ensures.replayed c.replay_lines.ensures.comes

pub returns-clause-lawful : goal.returns-clause-lawful
returns-clause-lawful g c = lawful_input (g.S.Source.left c.args.input.now) (g.S.Source.left c.replay_lines.new.input)
