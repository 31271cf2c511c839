use Rattle.cx_node.proofs.Common.{◌≡◌, ◌+◌, Ok, Err, arith, sym, ap, ◌∙◌, subst, err_from_is_err_and, Cluster, course_at, scene_of}
use Rattle.cx_node.proofs.Common.{changing, tended, blames_then}
use Rattle.cx_node.specs.declared.node.Stop.TheVariants as stop
use Rattle.cx_course.specs.Tending.{any_turn}
use Rattle.cx_node.specs.Tends.{TendsOnce}
use Rattle.cx_node.proofs.Turned.{begun_underway, never_begun, stopped_begun, stopped_turn, turned_underway}
use Rattle.cx_node.proofs.node.Node.all_turns.Goals as goal

pub returns-in_err-care-clause-acts : goal.returns-in_err-care-clause-acts
returns-in_err-care-clause-acts g c =
    let p = err_from_is_err_and c.from_residual.result c.from_residual.ensures.1 in
    let is : c.from_residual.result ≡ Err stop.NoMemory = p.1 ∙ ap Err p.2 in
    rw is (never_begun (changing g.K.Keeper.append_gives g.K.Renew.renew_gives) c.args.tend c.args.self.now.cluster c.args.turns
    (scene_of g.L.Link g.W.Sink c.args.self.now c.args.link.now c.args.out.now))

pub returns-in_err-all_act-clause-acts : goal.returns-in_err-all_act-clause-acts
returns-in_err-all_act-clause-acts g c =
    let p = err_from_is_err_and c.from_residual-in_err-all_act.result c.from_residual-in_err-all_act.ensures.1 in
    let is : c.from_residual-in_err-all_act.result ≡ Err c.in_err-all_act.field-0.0 = p.1 ∙ ap Err p.2 in
    rw is (stopped_begun (changing g.K.Keeper.append_gives g.K.Renew.renew_gives) c.args.tend c.args.self.now.cluster c.args.turns
    c.in_err-all_act.field-0.0 (scene_of g.L.Link g.W.Sink c.args.self.now c.args.link.now c.args.out.now)
    (scene_of g.L.Link g.W.Sink c.all_act.new.self c.all_act.new.link c.all_act.new.out) c.in_err-all_act.ensures.acts)

pub loop-made-init : goal.loop-made-init
loop-made-init g c =
    record {
      acts =
          begun_underway (changing g.K.Keeper.append_gives g.K.Renew.renew_gives) c.args.tend c.args.self.now.cluster c.args.turns
          (scene_of g.L.Link g.W.Sink c.args.self.now c.args.link.now c.args.out.now)
          (scene_of g.L.Link g.W.Sink c.all_act.new.self c.all_act.new.link c.all_act.new.out) c.in_ok-care.care
          c.in_ok-care.ensures c.in_ok-all_act.ensures.acts;
      blames = c.in_ok-all_act.ensures.blames;
      cluster = c.in_ok-all_act.ensures.cluster;
      most = omega arith;
    }

pub loop-made-preserved : goal.loop-made-preserved
loop-made-preserved g c =
    let l = c.loop-made in
    let before = scene_of g.L.Link g.W.Sink l.self l.link l.out in
    let now = scene_of g.L.Link g.W.Sink c.turn.new.self c.turn.new.link c.turn.new.out in
    record {
      acts =
          turned_underway (changing g.K.Keeper.append_gives g.K.Renew.renew_gives) c.args.tend c.args.self.now.cluster c.args.turns l.made
          (scene_of g.L.Link g.W.Sink c.args.self.now c.args.link.now c.args.out.now) before now l.care c.turn.new.care
          c.loop-made-test.true (sym c.has_finished.ensures ∙ c.if-has_finished.false) l.invariant.acts
          (subst (λ (cl : Cluster). TendsOnce (changing g.K.Keeper.append_gives g.K.Renew.renew_gives) cl
          (λ what. any_turn c.args.tend cl (l.made + 1) what (tended l.care (course_at l.self)))
          (Ok tt) before now c.turn.new.care) l.invariant.cluster c.in_ok-turn.ensures.acts);
      blames = blames_then (Ok tt) _ _ _ l.invariant.blames c.in_ok-turn.ensures.blames;
      cluster = c.in_ok-turn.ensures.cluster ∙ l.invariant.cluster;
      most = omega (arith, c.loop-made-test.true);
    }

pub returns-in_err-turn-clause-acts : goal.returns-in_err-turn-clause-acts
returns-in_err-turn-clause-acts g c =
    let l = c.loop-made in
    let before = scene_of g.L.Link g.W.Sink l.self l.link l.out in
    let now = scene_of g.L.Link g.W.Sink c.turn.new.self c.turn.new.link c.turn.new.out in
    let p = err_from_is_err_and c.from_residual-in_err-turn.result c.from_residual-in_err-turn.ensures.1 in
    let is : c.from_residual-in_err-turn.result ≡ Err c.in_err-turn.field-0.0 = p.1 ∙ ap Err p.2 in
    rw is
    (stopped_turn (changing g.K.Keeper.append_gives g.K.Renew.renew_gives) c.args.tend c.args.self.now.cluster c.args.turns l.made
    c.in_err-turn.field-0.0 (scene_of g.L.Link g.W.Sink c.args.self.now c.args.link.now c.args.out.now) before now
    l.care c.turn.new.care
    c.loop-made-test.true (sym c.has_finished.ensures ∙ c.if-has_finished.false) l.invariant.acts
    (subst (λ (cl : Cluster). TendsOnce (changing g.K.Keeper.append_gives g.K.Renew.renew_gives) cl
    (λ what. any_turn c.args.tend cl (l.made + 1) what (tended l.care (course_at l.self)))
    (Err c.in_err-turn.field-0.0) before now c.turn.new.care) l.invariant.cluster c.in_err-turn.ensures.acts))
