use Rattle.std.specs.Prelude.{OnOk}
use Rattle.cx_node.proofs.Common.{◌∷◌, ◌≡◌, [], Ok, Err, ap, ◌∙◌, subst, err_from_is_err_and, Cluster, course_at, Acts, scene_of, changing}
use Rattle.cx_node.proofs.Common.{without_care, tended}
use Rattle.cx_course.specs.Tending.{paused, tend_comes, turn_ended}
use Rattle.cx_node.proofs.TendedActs.{turn_end, turn_pause, turn_prepare, turn_take}
use Rattle.cx_node.proofs.node.Node.tended_turn.Goals as goal

pub returns-in_err-tend_prepare-clause-acts : goal.returns-in_err-tend_prepare-clause-acts
returns-in_err-tend_prepare-clause-acts g c =
    let p = err_from_is_err_and c.from_residual.result c.from_residual.ensures.1 in
    let is : c.from_residual.result ≡ Err c.in_err-tend_prepare.field-0.0 = p.1 ∙ ap Err p.2 in
    rw is
    (turn_prepare (changing g.K.Keeper.append_gives g.K.Renew.renew_gives) c.args.self.now.cluster c.args.most c.args.n c.args.care.now
    c.args.care.now c.in_err-tend_prepare.field-0.0 (scene_of g.L.Link g.W.Sink c.args.self.now c.args.link.now c.args.out.now)
    (scene_of g.L.Link g.W.Sink c.tend_prepare.new.self c.tend_prepare.new.link c.tend_prepare.new.out) c.in_err-tend_prepare.ensures.acts)

pub returns-in_err-came-clause-acts : goal.returns-in_err-came-clause-acts
returns-in_err-came-clause-acts g c =
    let prepared = (scene_of g.L.Link g.W.Sink c.tend_prepare.new.self c.tend_prepare.new.link c.tend_prepare.new.out) in
    let taken = (scene_of g.L.Link g.W.Sink c.tend_take.new.self c.tend_take.new.link c.tend_take.new.out) in
    let took = c.in_err-came.ensures.acts in
    let p = err_from_is_err_and c.from_residual-in_err-came.result c.from_residual-in_err-came.ensures.1 in
    let is : c.from_residual-in_err-came.result ≡ Err c.in_err-came.field-0.0 = p.1 ∙ ap Err p.2 in
    rw is (turn_take (changing g.K.Keeper.append_gives g.K.Renew.renew_gives) c.args.self.now.cluster c.args.most c.args.n c.args.care.now
    c.args.care.now c.in_err-came.field-0.0 (scene_of g.L.Link g.W.Sink c.args.self.now c.args.link.now c.args.out.now) prepared taken
    c.in_ok-tend_prepare.ensures.acts (
      took.0,
      (subst (λ (cl : Cluster). Acts (changing g.K.Keeper.append_gives g.K.Renew.renew_gives) cl (took.0 ∷ []) (tend_comes took.0
          (course_at c.tend_prepare.new.self)) (Err c.in_err-came.field-0.0) prepared taken) c.in_ok-tend_prepare.ensures.cluster took.1),
    ))

pub returns-in_err-pause-clause-acts : goal.returns-in_err-pause-clause-acts
returns-in_err-pause-clause-acts g c =
    let prepared = (scene_of g.L.Link g.W.Sink c.tend_prepare.new.self c.tend_prepare.new.link c.tend_prepare.new.out) in
    let taken = (scene_of g.L.Link g.W.Sink c.tend_take.new.self c.tend_take.new.link c.tend_take.new.out) in
    let pausing = (scene_of g.L.Link g.W.Sink c.pause.new.self c.pause.new.link c.pause.new.out) in
    let took = c.in_ok-came.ensures.acts in
    let p = err_from_is_err_and c.from_residual-in_err-pause.result c.from_residual-in_err-pause.ensures.1 in
    let is : c.from_residual-in_err-pause.result ≡ Err c.in_err-pause.field-0.0 = p.1 ∙ ap Err p.2 in
    rw is (turn_pause (changing g.K.Keeper.append_gives g.K.Renew.renew_gives) c.args.self.now.cluster c.args.most c.args.n c.args.care.now
    c.args.care.now c.in_ok-came.came c.in_err-pause.field-0.0 (scene_of g.L.Link g.W.Sink c.args.self.now c.args.link.now c.args.out.now)
    prepared taken pausing c.in_ok-tend_prepare.ensures.acts (
      took.0,
      (subst (λ (cl : Cluster). Acts (changing g.K.Keeper.append_gives g.K.Renew.renew_gives) cl (took.0 ∷ [])
          (tend_comes took.0 (course_at c.tend_prepare.new.self)) (Ok tt) prepared taken) c.in_ok-tend_prepare.ensures.cluster took.1),
      took.2,
    )
    (subst (λ (cl : Cluster). Acts (changing g.K.Keeper.append_gives g.K.Renew.renew_gives) cl []
    (paused c.args.care.now c.in_ok-came.came (course_at c.tend_take.new.self)) (Err c.in_err-pause.field-0.0) taken pausing)
    (c.in_ok-came.ensures.cluster ∙ c.in_ok-tend_prepare.ensures.cluster) c.in_err-pause.ensures.acts))

pub returns-clause-acts : goal.returns-clause-acts
returns-clause-acts g c =
    let prepared = (scene_of g.L.Link g.W.Sink c.tend_prepare.new.self c.tend_prepare.new.link c.tend_prepare.new.out) in
    let taken = (scene_of g.L.Link g.W.Sink c.tend_take.new.self c.tend_take.new.link c.tend_take.new.out) in
    let pausing = (scene_of g.L.Link g.W.Sink c.pause.new.self c.pause.new.link c.pause.new.out) in
    let now = (scene_of g.L.Link g.W.Sink c.end_turn.new.self c.end_turn.new.link c.end_turn.new.out) in
    let took = c.in_ok-came.ensures.acts in
    turn_end (changing g.K.Keeper.append_gives g.K.Renew.renew_gives) c.args.self.now.cluster c.args.most c.args.n c.args.care.now
    c.end_turn.new.care c.in_ok-came.came c.end_turn.result (scene_of g.L.Link g.W.Sink c.args.self.now c.args.link.now c.args.out.now)
    prepared taken pausing now c.in_ok-tend_prepare.ensures.acts (
      took.0,
      (subst (λ (cl : Cluster). Acts (changing g.K.Keeper.append_gives g.K.Renew.renew_gives) cl (took.0 ∷ [])
          (tend_comes took.0 (course_at c.tend_prepare.new.self)) (Ok tt) prepared taken) c.in_ok-tend_prepare.ensures.cluster took.1),
      took.2,
    )
    (subst (λ (cl : Cluster). Acts (changing g.K.Keeper.append_gives g.K.Renew.renew_gives) cl []
    (paused c.args.care.now c.in_ok-came.came (course_at c.tend_take.new.self)) (Ok tt) taken pausing)
    (c.in_ok-came.ensures.cluster ∙ c.in_ok-tend_prepare.ensures.cluster) c.in_ok-pause.ensures.acts)
    (subst (λ (cl : Cluster). Acts (changing g.K.Keeper.append_gives g.K.Renew.renew_gives) cl [] (without_care (turn_ended cl
    c.args.most c.in_ok-came.came (tended c.args.care.now (course_at c.pause.new.self)))) c.end_turn.result pausing now)
    (c.in_ok-pause.ensures.cluster ∙ c.in_ok-came.ensures.cluster ∙ c.in_ok-tend_prepare.ensures.cluster) c.end_turn.ensures.acts)
    (subst (λ (cl : Cluster). OnOk c.end_turn.result
    (c.end_turn.new.care ≡ (turn_ended cl c.args.most c.in_ok-came.came (tended c.args.care.now (course_at c.pause.new.self))).next.care))
    (c.in_ok-pause.ensures.cluster ∙ c.in_ok-came.ensures.cluster ∙ c.in_ok-tend_prepare.ensures.cluster) c.end_turn.ensures.care)
