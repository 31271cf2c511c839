use Rattle.cx_node.proofs.Common.{◌≡◌, [], Err, ap, ◌∙◌, subst, err_from_is_err_and, Cluster, course_at, Acts, scene_of, changing}
use Rattle.cx_course.specs.Run.{snaps}
use Rattle.cx_node.proofs.TendedActs.{tend_prepare_order, tend_prepare_snap}
use Rattle.cx_node.proofs.node.Node.tend_prepare.Goals as goal

pub returns-in_err-tend_order-clause-acts : goal.returns-in_err-tend_order-clause-acts
returns-in_err-tend_order-clause-acts g c =
    let p = err_from_is_err_and c.from_residual.result c.from_residual.ensures.1 in
    let is : c.from_residual.result ≡ Err c.in_err-tend_order.field-0.0 = p.1 ∙ ap Err p.2 in
    rw is (tend_prepare_order (changing g.K.Keeper.append_gives g.K.Renew.renew_gives) c.args.self.now.cluster c.args.n
    c.in_err-tend_order.field-0.0 (scene_of g.L.Link g.W.Sink c.args.self.now c.args.link.now c.args.out.now)
    (scene_of g.L.Link g.W.Sink c.tend_order.new.self c.tend_order.new.link c.tend_order.new.out) c.in_err-tend_order.ensures.acts)

pub returns-clause-acts : goal.returns-clause-acts
returns-clause-acts g c =
    let ordered = scene_of g.L.Link g.W.Sink c.tend_order.new.self c.tend_order.new.link c.tend_order.new.out in
    let now = scene_of g.L.Link g.W.Sink c.snap.new.self c.snap.new.link c.snap.new.out in
    tend_prepare_snap (changing g.K.Keeper.append_gives g.K.Renew.renew_gives) c.args.self.now.cluster c.args.n c.snap.result
    (scene_of g.L.Link g.W.Sink c.args.self.now c.args.link.now c.args.out.now) ordered now c.in_ok-tend_order.ensures.acts
    (subst (λ (cl : Cluster). Acts (changing g.K.Keeper.append_gives g.K.Renew.renew_gives) cl []
    (snaps c.args.n (course_at c.tend_order.new.self)) c.snap.result ordered now)
    c.in_ok-tend_order.ensures.cluster c.snap.ensures.acts)
