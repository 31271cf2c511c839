use Rattle.cx_base.proofs.Common.{◌≡◌, ◌+◌, arith, refl, sym, ◌∙◌, subst, strip_carriage_return, Rises}
use Rattle.cx_model.specs.World.{start}
use Rattle.cx_replay.specs.Streamed.{Spells, WritesFront}
use Rattle.cx_replay.proofs.Along.{Along, begins_along, goes_along, writes_along, fails_along, ends_along, ends_last, stops_at_line}
use Rattle.cx_replay.proofs.Along.{stops_at_last, stops_long, stops_failed}
use Rattle.cx_replay.proofs.running.run_each.Goals as goal

pub loop-lines-init : goal.loop-lines-init
loop-lines-init g c =
    let cluster = c.args.cluster.now in
    let input = g.S.Source.left c.args.input.now in
    let buffered = c.args.lines.now.buffered in
    let out = g.W.Sink.taken c.args.out.now in
    let writes = g.W.Sink.faults c.args.out.now in
    record {
      along = λ left b.
          subst (λ w. Along cluster left input buffered 0 w out out c.args.text.now.items writes writes) (sym c.requires.begun)
          (subst (λ l. Along cluster left input buffered 0 (start cluster) out out l writes writes) (sym c.requires.none)
          (begins_along cluster left input buffered out writes b));
      running = c.requires.fresh;
      count = omega arith;
      read = refl;
    }

pub returns-in-Err-clause-runs : goal.returns-in-Err-clause-runs
returns-in-Err-clause-runs g c = λ left b.
    let read : g.S.Source.faults c.next.new.source ≡ g.S.Source.faults c.args.input.now =
    c.in-Line.ensures.still (λ e. cc) ∙ c.loop-lines.invariant.read in
    stops_at_line _ _ _ _ _ _ c.loop-lines.lines c.next.new.self _ _ _ _ _ _ _ (c.loop-lines.invariant.along left b) read
    c.text-next.result.now c.text-next.ensures c.in-Line.ensures.gives _ c.in-Err.status c.in-Err.ensures

pub returns-then-not-write_printed-clause-runs : goal.returns-then-not-write_printed-clause-runs
returns-then-not-write_printed-clause-runs g c = λ left b.
    let ran = c.in_default.ensures in
    let gives = c.in-Line.ensures.gives in
    let on = goes_along _ _ _ _ _ _ _ _ _ _ _ (c.loop-lines.invariant.along left b) _ c.next.new.self.buffered gives.part ran.event
    _ _ gives.free gives.hands
    (subst (λ l. Spells c.args.cluster.now (c.loop-lines.number + 1) l ran.event) (c.text-next.ensures ∙ gives.text) ran.spells) ran.world
    ran.printed in (
      subst (λ k. Rises k (g.W.Sink.faults c.write_printed.new.out)) on.written.still
          (c.write_printed.ensures.cause c.if-not-write_printed.true),
      fails_along _ _ _ _ _ _ _ _ _ _ _ on (g.W.Sink.taken c.write_printed.new.out)
          (subst (WritesFront c.run_line.new.text.items c.write_printed.new.text.items (g.W.Sink.taken c.loop-lines.out)
          (g.W.Sink.taken c.write_printed.new.out)) c.if-not-write_printed.true c.write_printed.ensures.front),
    )

pub loop-lines-preserved : goal.loop-lines-preserved
loop-lines-preserved g c =
    let ran = c.in_default.ensures in
    let gives = c.in-Line.ensures.gives in
    let front = subst (WritesFront c.run_line.new.text.items c.write_printed.new.text.items (g.W.Sink.taken c.loop-lines.out)
    (g.W.Sink.taken c.write_printed.new.out)) c.if-not-write_printed.false c.write_printed.ensures.front in
    record {
      along = λ left b.
          let on = goes_along _ _ _ _ _ _ _ _ _ _ _ (c.loop-lines.invariant.along left b) _ c.next.new.self.buffered gives.part ran.event
          _ _ gives.free gives.hands
          (subst (λ l. Spells c.args.cluster.now (c.loop-lines.number + 1) l ran.event) (c.text-next.ensures ∙ gives.text)
          ran.spells) ran.world ran.printed in
          writes_along _ _ _ _ _ _ _ _ _ _ _ on c.write_printed.new.text.items (g.W.Sink.taken c.write_printed.new.out)
          (g.W.Sink.faults c.write_printed.new.out) front (c.write_printed.ensures.still c.if-not-write_printed.false);
      running = ran.unspent;
      count = ran.counted;
      read = c.in-Line.ensures.still (λ e. cc) ∙ c.loop-lines.invariant.read;
    }

pub returns-in-Err-run_line-clause-runs : goal.returns-in-Err-run_line-clause-runs
returns-in-Err-run_line-clause-runs g c = λ left b.
    let read : g.S.Source.faults c.next.new.source ≡ g.S.Source.faults c.args.input.now =
    c.in-Last.ensures.still (λ e. cc) ∙ c.loop-lines.invariant.read in
    stops_at_last _ _ _ _ _ _ c.loop-lines.lines c.next.new.self _ _ _ _ _ _ _ (c.loop-lines.invariant.along left b) read
    c.text-last.result.now c.text-last.ensures c.in-Last.ensures.gives _ c.in-Err-run_line.status c.in-Err-run_line.ensures

pub returns-in-Last-clause-runs : goal.returns-in-Last-clause-runs
returns-in-Last-clause-runs g c = λ left b.
    let read : g.S.Source.faults c.next.new.source ≡ g.S.Source.faults c.args.input.now =
    c.in-Last.ensures.still (λ e. cc) ∙ c.loop-lines.invariant.read in
    let along = c.loop-lines.invariant.along left b in
    let gives = c.in-Last.ensures.gives in
    let ran = c.in_default-run_line.ensures in
    let spells : Spells c.args.cluster.now (c.loop-lines.number + 1) (strip_carriage_return gives.part) ran.event =
    subst (λ l. Spells c.args.cluster.now (c.loop-lines.number + 1) l ran.event) (c.text-last.ensures ∙ gives.text) ran.spells in (
      read,
      along.written.still,
      ends_last _ _ _ _ _ _ _ _ _ _ _ _ along gives.part ran.event _ _ gives.free gives.some gives.hands gives.at_end spells ran.world
          ran.printed,
    )

pub returns-in-End-clause-runs : goal.returns-in-End-clause-runs
returns-in-End-clause-runs g c = λ left b.
    let read : g.S.Source.faults c.next.new.source ≡ g.S.Source.faults c.args.input.now =
    c.in-End.ensures.still (λ e. cc) ∙ c.loop-lines.invariant.read in
    let along = c.loop-lines.invariant.along left b in
    (read, along.written.still, ends_along _ _ _ _ _ _ _ _ _ _ _ _ along c.in-End.ensures.gives.0 c.in-End.ensures.gives.2)

pub returns-in-Long-clause-runs : goal.returns-in-Long-clause-runs
returns-in-Long-clause-runs g c = λ left b.
    let read : g.S.Source.faults c.next.new.source ≡ g.S.Source.faults c.args.input.now =
    c.in-Long.ensures.still (λ e. cc) ∙ c.loop-lines.invariant.read in
    stops_long _ _ _ _ _ _ c.loop-lines.lines c.next.new.self _ _ _ _ _ _ _ (c.loop-lines.invariant.along left b) read
    c.in-Long.ensures.gives.0 c.in-Long.ensures.gives.1

pub returns-in-Failed-clause-runs : goal.returns-in-Failed-clause-runs
returns-in-Failed-clause-runs g c = λ left b.
    let rises : Rises (g.S.Source.faults c.args.input.now) (g.S.Source.faults c.next.new.source) =
    subst (λ k. Rises k (g.S.Source.faults c.next.new.source)) c.loop-lines.invariant.read (c.in-Failed.ensures.cause refl) in
    stops_failed _ _ _ _ _ _ c.loop-lines.lines c.next.new.self _ _ _ _ _ _ _ (c.loop-lines.invariant.along left b) rises
    c.in-Failed.ensures.gives.0 c.in-Failed.ensures.gives.1
