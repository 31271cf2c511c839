use Rattle.cx_base.proofs.Common.{◌∙◌, subst, sym, Appends, Rises}
use Rattle.cx_edge.specs.Sink.{AppendsPart, WritesAll}
use Rattle.cx_world.specs.World.{world_of}
use Rattle.cx_replay.specs.Replay.{Replayed}
use Rattle.cx_replay.specs.Streamed.{Sums}
use Rattle.cx_replay.proofs.Along.{sums_comes, sums_replayed}
use Rattle.cx_replay.proofs.Ends.{write_replayed}
use Rattle.cx_replay.proofs.running.run_world.Goals as goal

pub returns-then-not-write_all-clause-comes : goal.returns-then-not-write_all-clause-comes
returns-then-not-write_all-clause-comes g c = tt

pub returns-in-Whole-clause-comes : goal.returns-in-Whole-clause-comes
returns-in-Whole-clause-comes g c = sums_comes (world_of c.run_each.new.world) (g.W.Sink.taken c.write_all.new.sink)
    (g.W.Sink.taken c.sum.new.out) (g.W.Sink.faults c.write_all.new.sink) (g.W.Sink.faults c.sum.new.out) c.sum.result c.sum.ensures

pub returns-then-not-write_all-2-clause-comes : goal.returns-then-not-write_all-2-clause-comes
returns-then-not-write_all-2-clause-comes g c = tt

pub returns-in-Stopped-clause-comes : goal.returns-in-Stopped-clause-comes
returns-in-Stopped-clause-comes g c = c.in-Stopped.ensures.comes

pub returns-clause-comes : goal.returns-clause-comes
returns-clause-comes g c = tt

pub returns-then-not-write_all-clause-replayed : goal.returns-then-not-write_all-clause-replayed
returns-then-not-write_all-clause-replayed g c = λ left b.
    let runs = c.in-Whole.ensures.runs left b in
    let written = subst (λ whole. WritesAll (g.W.Sink.taken c.run_each.new.out) (g.W.Sink.taken c.write_all.new.sink) whole
    c.deref.result.now) c.if-not-write_all.true c.write_all.ensures.bytes in
    write_replayed _ _ _ _ _ _ _ _ (subst (λ k. Rises k (g.W.Sink.faults c.write_all.new.sink)) runs.1
    (c.write_all.ensures.cause c.if-not-write_all.true))
    (runs.2.part (g.W.Sink.taken c.write_all.new.sink)
    (subst (AppendsPart (g.W.Sink.taken c.run_each.new.out) (g.W.Sink.taken c.write_all.new.sink)) c.deref.ensures.value written))

pub returns-in-Whole-clause-replayed : goal.returns-in-Whole-clause-replayed
returns-in-Whole-clause-replayed g c = λ left b.
    let runs = c.in-Whole.ensures.runs left b in
    let written = subst (λ whole. WritesAll (g.W.Sink.taken c.run_each.new.out) (g.W.Sink.taken c.write_all.new.sink) whole
    c.deref.result.now) c.if-not-write_all.false c.write_all.ensures.bytes in
    let at_end = runs.2.whole (g.W.Sink.taken c.write_all.new.sink)
    (subst (Appends (g.W.Sink.taken c.run_each.new.out) (g.W.Sink.taken c.write_all.new.sink)) c.deref.ensures.value written) in
    sums_replayed _ _ _ _ _ _ _ _ _ _ _ runs.0 at_end c.sum.result
    (subst (λ k. Sums (world_of c.run_each.new.world) (g.W.Sink.taken c.write_all.new.sink) (g.W.Sink.taken c.sum.new.out) k
    (g.W.Sink.faults c.sum.new.out) c.sum.result) (c.write_all.ensures.still c.if-not-write_all.false ∙ runs.1) c.sum.ensures)

pub returns-then-not-write_all-2-clause-replayed : goal.returns-then-not-write_all-2-clause-replayed
returns-then-not-write_all-2-clause-replayed g c = λ left b.
    let runs = c.in-Stopped.ensures.runs left b in
    let written = subst (λ whole. WritesAll (g.W.Sink.taken c.run_each.new.out) (g.W.Sink.taken c.write_all-in-Stopped.new.sink) whole
    c.deref-in-Stopped.result.now) c.if-not-write_all-2.true c.write_all-in-Stopped.ensures.bytes in
    write_replayed _ _ _ _ _ _ _ _ (subst (λ k. Rises k (g.W.Sink.faults c.write_all-in-Stopped.new.sink)) runs.0
    (c.write_all-in-Stopped.ensures.cause c.if-not-write_all-2.true))
    (runs.1.part (g.W.Sink.taken c.write_all-in-Stopped.new.sink) (subst (AppendsPart (g.W.Sink.taken c.run_each.new.out)
    (g.W.Sink.taken c.write_all-in-Stopped.new.sink)) c.deref-in-Stopped.ensures.value written))

pub returns-in-Stopped-clause-replayed : goal.returns-in-Stopped-clause-replayed
returns-in-Stopped-clause-replayed g c = λ left b.
    let runs = c.in-Stopped.ensures.runs left b in
    let written = subst (λ whole. WritesAll (g.W.Sink.taken c.run_each.new.out) (g.W.Sink.taken c.write_all-in-Stopped.new.sink) whole
    c.deref-in-Stopped.result.now) c.if-not-write_all-2.false c.write_all-in-Stopped.ensures.bytes in
    subst (λ k. Replayed left (g.S.Source.left c.run_each.new.input) (g.S.Source.faults c.args.input.now)
    (g.S.Source.faults c.run_each.new.input) (g.W.Sink.taken c.args.out.now) (g.W.Sink.taken c.write_all-in-Stopped.new.sink)
    (g.W.Sink.faults c.args.out.now) k c.in-Stopped.status) (sym (c.write_all-in-Stopped.ensures.still c.if-not-write_all-2.false))
    (runs.1.whole (g.W.Sink.taken c.write_all-in-Stopped.new.sink) (subst (Appends (g.W.Sink.taken c.run_each.new.out)
    (g.W.Sink.taken c.write_all-in-Stopped.new.sink)) c.deref-in-Stopped.ensures.value written))

pub returns-clause-replayed : goal.returns-clause-replayed
returns-clause-replayed g c = λ left b.
    let runs = c.in-WriteFault.ensures.runs left b in
    write_replayed _ _ _ _ _ _ _ _ runs.0 runs.1
