use Rattle.std.proofs.lemmas.List.{drop_all, drop_more}
use Rattle.cx_node.proofs.Common.{◌≡◌, ◌+◌, [], drop, get_or, Ok, Err, refl, ap, ◌∙◌, subst, err_from_is_err_and, Cluster, course_at, Acts}
use Rattle.cx_node.proofs.Common.{failed, scene_of, changing, AreReady, is_meant, blames_then, no_blame}
use Rattle.cx_course.specs.Tending.{ticks_if}
use Rattle.cx_node.proofs.TendedActs.{all_asked, none_asked, one_asked, one_stopped}
use Rattle.cx_node.proofs.node.Node.tick_in_turn.Goals as goal

pub loop-place-init : goal.loop-place-init
loop-place-init g c =
    record {
      acts = none_asked (changing g.K.Keeper.append_gives g.K.Renew.renew_gives) c.args.self.now.cluster
          (is_meant c.args.whom c.args.care.now.counts) c.args.places.now c.args.places.now
          (scene_of g.L.Link g.W.Sink c.args.self.now c.args.link.now c.args.out.now) refl;
      ready = c.requires.ready;
      blames = no_blame (failed g.L.Link g.W.Sink c.args.link.now c.args.out.now);
      cluster = refl;
    }

pub loop-place-preserved : goal.loop-place-preserved
loop-place-preserved g c =
    let l = c.loop-place in
    let all = c.args.places.now in
    let test = is_meant c.args.whom c.args.care.now.counts in
    let place = get_or all l.place-index 0 in
    let before = scene_of g.L.Link g.W.Sink l.self l.link l.out in
    let now = scene_of g.L.Link g.W.Sink c.tick_at.new.self c.tick_at.new.link c.tick_at.new.out in
    record {
      acts =
          one_asked (changing g.K.Keeper.append_gives g.K.Renew.renew_gives) c.args.self.now.cluster test all (drop l.place-index all)
          (drop (l.place-index + 1) all) place
          (scene_of g.L.Link g.W.Sink c.args.self.now c.args.link.now c.args.out.now) before now
          (drop_more all l.place-index 0 c.loop-place-test.true) l.invariant.acts
          (subst (λ (cl : Cluster). Acts (changing g.K.Keeper.append_gives g.K.Renew.renew_gives) cl []
          (ticks_if test place (course_at l.self)) (Ok tt) before now)
          l.invariant.cluster c.in_ok-tick_at.ensures.acts);
      ready = subst (λ (cl : Cluster). AreReady cl c.tick_at.new.self.guests) l.invariant.cluster c.in_ok-tick_at.ensures.acts.ready;
      blames = blames_then (Ok tt) _ _ _ l.invariant.blames c.in_ok-tick_at.ensures.blames;
      cluster = c.in_ok-tick_at.ensures.cluster ∙ l.invariant.cluster;
    }

pub returns-in_err-tick_at-clause-acts : goal.returns-in_err-tick_at-clause-acts
returns-in_err-tick_at-clause-acts g c =
    let l = c.loop-place in
    let all = c.args.places.now in
    let test = is_meant c.args.whom c.args.care.now.counts in
    let place = get_or all l.place-index 0 in
    let before = scene_of g.L.Link g.W.Sink l.self l.link l.out in
    let now = scene_of g.L.Link g.W.Sink c.tick_at.new.self c.tick_at.new.link c.tick_at.new.out in
    let p = err_from_is_err_and c.from_residual.result c.from_residual.ensures.1 in
    let is : c.from_residual.result ≡ Err c.in_err-tick_at.field-0.0 = p.1 ∙ ap Err p.2 in
    rw is
    (one_stopped (changing g.K.Keeper.append_gives g.K.Renew.renew_gives) c.args.self.now.cluster test all (drop l.place-index all)
    (drop (l.place-index + 1) all) place c.in_err-tick_at.field-0.0
    (scene_of g.L.Link g.W.Sink c.args.self.now c.args.link.now c.args.out.now) before now
    (drop_more all l.place-index 0 c.loop-place-test.true) l.invariant.acts
    (subst (λ (cl : Cluster). Acts (changing g.K.Keeper.append_gives g.K.Renew.renew_gives) cl []
    (ticks_if test place (course_at l.self)) (Err c.in_err-tick_at.field-0.0) before now)
    l.invariant.cluster c.in_err-tick_at.ensures.acts))

pub returns-clause-acts : goal.returns-clause-acts
returns-clause-acts g c =
    let l = c.loop-place in
    let all = c.args.places.now in
    all_asked (changing g.K.Keeper.append_gives g.K.Renew.renew_gives) c.args.self.now.cluster (is_meant c.args.whom c.args.care.now.counts)
    all (drop l.place-index all) (scene_of g.L.Link g.W.Sink c.args.self.now c.args.link.now c.args.out.now)
    (scene_of g.L.Link g.W.Sink l.self l.link l.out) (drop_all l.place-index all c.loop-place-test.false)
    l.invariant.acts l.invariant.ready
