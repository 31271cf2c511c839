use Rattle.cx_world.specs.World.{world_of}
use Rattle.cx_replay.proofs.Pieces.{sums_stopped}
use Rattle.cx_replay.proofs.running.sum.Goals as goal

pub returns-in-Err : goal.returns-in-Err
returns-in-Err g c = sums_stopped (world_of c.args.world.now) (g.W.Sink.taken c.args.out.now) (g.W.Sink.taken c.write_summary.new.out)
    (g.W.Sink.faults c.args.out.now) (g.W.Sink.faults c.write_summary.new.out) c.in-Err.status c.in-Err.ensures
