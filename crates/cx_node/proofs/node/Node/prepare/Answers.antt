use Rattle.cx_node.proofs.Common.{◌≡◌, [], Err, ap, ◌∙◌, subst, err_from_is_err_and, Cluster, course_at, Acts, scene_of, changing}
use Rattle.cx_course.specs.Run.{snaps}
use Rattle.cx_node.proofs.Parts.{prepare_order, prepare_snap}
use Rattle.cx_node.proofs.node.Node.prepare.Goals as goal

pub returns-in_err-order-clause-acts : goal.returns-in_err-order-clause-acts
returns-in_err-order-clause-acts g c =
    let p = err_from_is_err_and c.from_residual.result c.from_residual.ensures.1 in
    let is : c.from_residual.result ≡ Err c.in_err-order.field-0.0 = p.1 ∙ ap Err p.2 in
    rw is (prepare_order (changing g.K.Keeper.append_gives g.K.Renew.renew_gives) c.args.self.now.cluster c.args.n c.in_err-order.field-0.0
    (scene_of g.L.Link g.W.Sink c.args.self.now c.args.link.now c.args.out.now)
    (scene_of g.L.Link g.W.Sink c.order.new.self c.order.new.link c.order.new.out) c.in_err-order.ensures.acts)

pub returns-clause-acts : goal.returns-clause-acts
returns-clause-acts g c =
    let ordered = scene_of g.L.Link g.W.Sink c.order.new.self c.order.new.link c.order.new.out in
    let now = scene_of g.L.Link g.W.Sink c.snap.new.self c.snap.new.link c.snap.new.out in
    prepare_snap (changing g.K.Keeper.append_gives g.K.Renew.renew_gives) c.args.self.now.cluster c.args.n c.snap.result
    (scene_of g.L.Link g.W.Sink c.args.self.now c.args.link.now c.args.out.now) ordered now c.in_ok-order.ensures.acts
    (subst (λ (cl : Cluster). Acts (changing g.K.Keeper.append_gives g.K.Renew.renew_gives) cl []
    (snaps c.args.n (course_at c.order.new.self)) c.snap.result ordered now)
    c.in_ok-order.ensures.cluster c.snap.ensures.acts)
