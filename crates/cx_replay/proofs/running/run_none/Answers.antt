use Rattle.std.proofs.Common.{subst}
use Rattle.cx_replay.specs.Streamed.{Sums}
use Rattle.cx_replay.proofs.running.run_none.Goals as goal

pub returns-in-Ok : goal.returns-in-Ok
returns-in-Ok g c = subst (λ w. Sums w (g.W.Sink.taken c.args.out.now) (g.W.Sink.taken c.sum.new.out) (g.W.Sink.faults c.args.out.now)
    (g.W.Sink.faults c.sum.new.out) c.sum.result) c.in-Ok.ensures.world c.sum.ensures
