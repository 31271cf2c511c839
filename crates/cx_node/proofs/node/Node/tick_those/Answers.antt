use Rattle.cx_node.proofs.Common.{◌≡◌, ◌-◌, ◌+◌, ◌<◌, [], Ok, Err, length, arith, rules, refl, ap, ◌∙◌, subst, length-map}
use Rattle.cx_node.proofs.Common.{err_from_is_err_and, below, numbers, Cluster, course_at, Acts, failed, scene_of, changing, AreReady}
use Rattle.cx_node.proofs.Common.{hosted_in, hosted_of, is_meant, blames_then, no_blame}
use Rattle.cx_grid.proofs.Crossing.{numbers_more}
use Rattle.cx_course.specs.Tending.{ticks_if}
use Rattle.cx_node.proofs.TendedActs.{all_asked, none_asked, one_asked, one_stopped}
use Rattle.cx_node.proofs.node.Node.tick_those.Goals as goal

pub loop-place-init : goal.loop-place-init
loop-place-init g c =
    let n = length (hosted_in c.args.self.now.guests) in
    let whole : n - 0 ≡ n = omega arith in
    record {
      acts = none_asked (changing g.K.Keeper.append_gives g.K.Renew.renew_gives) c.args.self.now.cluster
          (is_meant c.args.whom c.args.care.now.counts) (below n) (numbers 0 (n - 0))
          (scene_of g.L.Link g.W.Sink c.args.self.now c.args.link.now c.args.out.now) (ap (numbers 0) whole);
      ready = c.requires.ready;
      blames = no_blame (failed g.L.Link g.W.Sink c.args.link.now c.args.out.now);
      cluster = refl;
      count = search rules;
    }

pub loop-place-preserved : goal.loop-place-preserved
loop-place-preserved g c =
    let l = c.loop-place in
    let n = length (hosted_in c.args.self.now.guests) in
    let test = is_meant c.args.whom c.args.care.now.counts in
    let before = scene_of g.L.Link g.W.Sink l.self l.link l.out in
    let now = scene_of g.L.Link g.W.Sink c.tick_at.new.self c.tick_at.new.link c.tick_at.new.out in
    let more : l.place < n = omega (
      arith,
      c.loop-place-test.true,
      l.invariant.count,
      length-map c.args.self.now.guests
          (hosted_of {K = g.row.K.Denot}),
    ) in
    record {
      acts = one_asked (changing g.K.Keeper.append_gives g.K.Renew.renew_gives) c.args.self.now.cluster test (below n)
          (numbers l.place (n - l.place)) (numbers (l.place + 1) (n - (l.place + 1))) l.place
          (scene_of g.L.Link g.W.Sink c.args.self.now c.args.link.now c.args.out.now) before now
          (numbers_more l.place n more) l.invariant.acts
          (subst (λ (cl : Cluster). Acts (changing g.K.Keeper.append_gives g.K.Renew.renew_gives) cl []
          (ticks_if test l.place (course_at l.self)) (Ok tt) before now)
          l.invariant.cluster c.in_ok-tick_at.ensures.acts);
      ready = subst (λ (cl : Cluster). AreReady cl c.tick_at.new.self.guests) l.invariant.cluster c.in_ok-tick_at.ensures.acts.ready;
      blames = blames_then (Ok tt) _ _ _ l.invariant.blames c.in_ok-tick_at.ensures.blames;
      cluster = c.in_ok-tick_at.ensures.cluster ∙ l.invariant.cluster;
      count = l.invariant.count;
    }

pub returns-in_err-tick_at-clause-acts : goal.returns-in_err-tick_at-clause-acts
returns-in_err-tick_at-clause-acts g c =
    let l = c.loop-place in
    let n = length (hosted_in c.args.self.now.guests) in
    let test = is_meant c.args.whom c.args.care.now.counts in
    let before = scene_of g.L.Link g.W.Sink l.self l.link l.out in
    let now = scene_of g.L.Link g.W.Sink c.tick_at.new.self c.tick_at.new.link c.tick_at.new.out in
    let p = err_from_is_err_and c.from_residual.result c.from_residual.ensures.1 in
    let is : c.from_residual.result ≡ Err c.in_err-tick_at.field-0.0 = p.1 ∙ ap Err p.2 in
    let more : l.place < n = omega (
      arith,
      c.loop-place-test.true,
      l.invariant.count,
      length-map c.args.self.now.guests
          (hosted_of {K = g.row.K.Denot}),
    ) in
    rw is (one_stopped (changing g.K.Keeper.append_gives g.K.Renew.renew_gives) c.args.self.now.cluster test (below n)
    (numbers l.place (n - l.place)) (numbers (l.place + 1) (n - (l.place + 1))) l.place c.in_err-tick_at.field-0.0
    (scene_of g.L.Link g.W.Sink c.args.self.now c.args.link.now c.args.out.now) before now
    (numbers_more l.place n more) l.invariant.acts
    (subst (λ (cl : Cluster). Acts (changing g.K.Keeper.append_gives g.K.Renew.renew_gives) cl []
    (ticks_if test l.place (course_at l.self)) (Err c.in_err-tick_at.field-0.0) before now)
    l.invariant.cluster c.in_err-tick_at.ensures.acts))

pub returns-clause-acts : goal.returns-clause-acts
returns-clause-acts g c =
    let l = c.loop-place in
    let n = length (hosted_in c.args.self.now.guests) in
    let none : n - l.place ≡ 0 = omega (
      arith,
      c.loop-place-test.false,
      l.auto.place-end,
      l.invariant.count,
      length-map c.args.self.now.guests
          (hosted_of {K = g.row.K.Denot}),
    ) in
    all_asked (changing g.K.Keeper.append_gives g.K.Renew.renew_gives) c.args.self.now.cluster (is_meant c.args.whom c.args.care.now.counts)
    (below n) (numbers l.place (n - l.place))
    (scene_of g.L.Link g.W.Sink c.args.self.now c.args.link.now c.args.out.now)
    (scene_of g.L.Link g.W.Sink l.self l.link l.out) (ap (numbers l.place) none) l.invariant.acts l.invariant.ready
