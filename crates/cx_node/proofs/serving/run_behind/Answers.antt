use Rattle.cx_node.proofs.Common.{Err, refl, sym, ap, subst, failed, scene_of, hosting, known_first, store_gives}
use Rattle.cx_edge.specs.Sink.{WritesAll}
use Rattle.cx_node.specs.declared.node.Stop.TheVariants as stop
use Rattle.cx_node.specs.Acts.{failures}
use Rattle.cx_node.proofs.SteadySeats.{behind_cut, ran_behind}
use Rattle.cx_node.proofs.serving.run_behind.Goals as goal

pub returns-then-not-write_all-clause-ran : goal.returns-then-not-write_all-clause-ran
returns-then-not-write_all-clause-ran g c = (
  c.args.seats.items,
  known_first c.args.recording,
  Err stop.WriteFault,
  refl,
  record {
    done = tt;
    part = behind_cut (store_gives g.D.Store.Disk) c.args.tend c.args.cluster.now c.args.turns c.args.text.now
        c.args.seats.items (known_first c.args.recording) (g.L.Link.history c.args.link.now)
        (g.W.Sink.taken c.args.out.now) (g.W.Sink.taken c.write_all.new.sink)
        (subst (λ b. WritesAll (g.W.Sink.taken c.args.out.now) (g.W.Sink.taken c.write_all.new.sink) b c.args.text.now)
        c.if-not-write_all.true c.write_all.ensures.bytes);
    written = λ e. c.write_all.ensures.cause c.if-not-write_all.true;
    unwritten = λ no. absurd (no refl);
    linked = λ e. cc;
    unlinked = λ no. refl;
  },
  c.close_seats.ensures.back,
)

pub returns-clause-ran : goal.returns-clause-ran
returns-clause-ran g c =
    let run = c.run_seats.ensures.ran in (
      run.0,
      run.1,
      run.2,
      run.3,
      ran_behind (store_gives g.D.Store.Disk) c.args.tend c.args.cluster.now c.args.turns c.args.text.now
          c.args.seats.items (known_first c.args.recording) (g.L.Link.history c.args.link.now)
          (g.W.Sink.taken c.args.out.now) (g.W.Sink.taken c.write_all.new.sink)
          (scene_of g.L.Link g.W.Sink (hosting c.args.cluster.now run.0 run.1) c.run_seats.new.link c.run_seats.new.out)
          (subst (λ b. WritesAll (g.W.Sink.taken c.args.out.now) (g.W.Sink.taken c.write_all.new.sink) b c.args.text.now)
          c.if-not-write_all.false c.write_all.ensures.bytes)
          run.2 (failed g.L.Link g.W.Sink c.args.link.now c.args.out.now) (failed g.L.Link g.W.Sink c.args.link.now c.write_all.new.sink)
          (failed g.L.Link g.W.Sink c.run_seats.new.link c.run_seats.new.out)
          (ap (λ n. failures (g.L.Link.faults c.args.link.now) n) (sym (c.write_all.ensures.still c.if-not-write_all.false)))
          run.4,
      run.5,
    )
