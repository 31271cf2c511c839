use Rattle.cx_seat.specs.Prelude.{AreDistinct, hosted_in, lent_to, is_two}
use Rattle.cx_node.proofs.Common.{[], ◌∙◌, Err, refl, sym, ap, subst, failed, scene_of, hosting, known_first, store_gives}
use Rattle.cx_node.specs.declared.node.Stop.TheVariants as stop
use Rattle.cx_seat.specs.Closing.{AreGivenBack}
use Rattle.cx_node.specs.Hosting.{Ran}
use Rattle.cx_node.proofs.SteadySeats.{distinct_steady, lent_steady, part_alone, runs_alone, runs_none, steady_run}
use Rattle.cx_node.proofs.StoredRecords.{shape_stays}
use Rattle.cx_node.proofs.serving.run_seats.Goals as goal

pub close_seats-requires-clause-out : goal.close_seats-requires-clause-out
close_seats-requires-clause-out g c =
    let gives = store_gives g.D.Store.Disk in
    let run = c.run-end.ensures in
    let node = c.in-Ok.node in
    let first = scene_of g.L.Link g.W.Sink node c.args.link.now c.args.out.now in
    let last = scene_of g.L.Link g.W.Sink c.run-end.new.self c.run-end.new.link c.run-end.new.out in
    let steady = steady_run gives is_two (shape_stays g.D.Store.Disk) c.args.tend node.cluster c.args.turns [] c.run-end.result first last
    (runs_alone gives c.args.tend node.cluster c.args.turns c.run-end.result first last run.done)
    (part_alone gives c.args.tend node.cluster c.args.turns c.run-end.result first last run.part) in
    c.requires.lent ∙ ap (λ n. lent_to n.guests) (sym c.in-Ok.ensures.node)
    ∙ sym (lent_steady node.guests c.run-end.new.self.guests steady) ∙ ap lent_to (sym c.into_seats.ensures)

pub close_seats-requires-clause-distinct : goal.close_seats-requires-clause-distinct
close_seats-requires-clause-distinct g c =
    let gives = store_gives g.D.Store.Disk in
    let run = c.run-end.ensures in
    let node = c.in-Ok.node in
    let first = scene_of g.L.Link g.W.Sink node c.args.link.now c.args.out.now in
    let last = scene_of g.L.Link g.W.Sink c.run-end.new.self c.run-end.new.link c.run-end.new.out in
    let steady = steady_run gives is_two (shape_stays g.D.Store.Disk) c.args.tend node.cluster c.args.turns [] c.run-end.result first last
    (runs_alone gives c.args.tend node.cluster c.args.turns c.run-end.result first last run.done)
    (part_alone gives c.args.tend node.cluster c.args.turns c.run-end.result first last run.part) in
    subst (λ hs. AreDistinct (hosted_in hs)) (sym c.into_seats.ensures)
    (distinct_steady is_two node.guests c.run-end.new.self.guests steady
    (subst (λ n. AreDistinct (hosted_in n.guests)) (sym c.in-Ok.ensures.node) c.requires.ready.distinct))

pub close_seats-requires-in-Err-clause-distinct : goal.close_seats-requires-in-Err-clause-distinct
close_seats-requires-in-Err-clause-distinct g c =
    subst (λ hs. AreDistinct (hosted_in hs)) (sym c.in-Err.ensures.given_back) c.requires.ready.distinct

pub returns-in-Ok-clause-ran : goal.returns-in-Ok-clause-ran
returns-in-Ok-clause-ran g c =
    let gives = store_gives g.D.Store.Disk in
    let run = c.run-end.ensures in
    let node = c.in-Ok.node in
    let link = c.run-end.new.link in
    let out = c.run-end.new.out in
    let first = scene_of g.L.Link g.W.Sink node c.args.link.now c.args.out.now in
    let last = scene_of g.L.Link g.W.Sink c.run-end.new.self link out in
    let before = failed g.L.Link g.W.Sink c.args.link.now c.args.out.now in
    let after = failed g.L.Link g.W.Sink link out in (
      c.into_seats.result.items,
      c.run-end.new.self.recorded,
      c.run-end.result,
      c.ended.ensures,
      subst (λ hs. Ran gives c.args.tend c.args.cluster.now c.args.turns [] c.run-end.result (scene_of g.L.Link g.W.Sink
          (hosting c.args.cluster.now c.args.seats.items (known_first c.args.recording)) c.args.link.now c.args.out.now)
          (scene_of g.L.Link g.W.Sink (hosting c.args.cluster.now hs c.run-end.new.self.recorded) link out) before
          after) (sym c.into_seats.ensures) (subst (λ n. Ran gives c.args.tend n.cluster c.args.turns [] c.run-end.result
          (scene_of g.L.Link g.W.Sink n c.args.link.now c.args.out.now)
          (scene_of g.L.Link g.W.Sink c.run-end.new.self link out) before after) c.in-Ok.ensures.node
          (record {
            done = runs_alone gives c.args.tend node.cluster c.args.turns c.run-end.result first last run.done;
            part = part_alone gives c.args.tend node.cluster c.args.turns c.run-end.result first last run.part;
            written = run.written;
            unwritten = run.unwritten;
            linked = run.linked;
            unlinked = run.unlinked;
          })),
      c.close_seats.ensures.back,
    )

pub returns-in-Err-clause-ran : goal.returns-in-Err-clause-ran
returns-in-Err-clause-ran g c = (
  c.args.seats.items,
  known_first c.args.recording,
  Err stop.NoMemory,
  refl,
  record {
    done = tt;
    part = runs_none (store_gives g.D.Store.Disk) c.args.tend c.args.cluster.now c.args.turns (scene_of g.L.Link g.W.Sink
        (hosting c.args.cluster.now c.args.seats.items (known_first c.args.recording)) c.args.link.now c.args.out.now);
    written = λ e. cc;
    unwritten = λ e. refl;
    linked = λ e. cc;
    unlinked = λ e. refl;
  },
  subst (λ hs. AreGivenBack g.D.Depot g.D.Store.Disk hs c.args.depot.now c.close_seats-in-Err.new.depot)
      c.in-Err.ensures.given_back c.close_seats-in-Err.ensures.back,
)
