use Rattle.cx_node.proofs.Common.{◌≡◌, [], Ok, Err, ap, ◌∙◌, subst, err_from_is_err_and, Cluster, course_at, Acts, scene_of, changing}
use Rattle.cx_node.specs.Acts.{ActsOnce}
use Rattle.cx_course.specs.Run.{comes, ticked}
use Rattle.cx_node.proofs.Parts.{turn_prepare, turn_take, turn_tick}
use Rattle.cx_node.proofs.node.Node.untended_turn.Goals as goal

pub returns-in_err-prepare-clause-acts : goal.returns-in_err-prepare-clause-acts
returns-in_err-prepare-clause-acts g c =
    let p = err_from_is_err_and c.from_residual.result c.from_residual.ensures.1 in
    let is : c.from_residual.result ≡ Err c.in_err-prepare.field-0.0 = p.1 ∙ ap Err p.2 in
    rw is (turn_prepare (changing g.K.Keeper.append_gives g.K.Renew.renew_gives) c.args.self.now.cluster c.args.n c.in_err-prepare.field-0.0
    (scene_of g.L.Link g.W.Sink c.args.self.now c.args.link.now c.args.out.now)
    (scene_of g.L.Link g.W.Sink c.prepare.new.self c.prepare.new.link c.prepare.new.out) c.in_err-prepare.ensures.acts)

pub returns-in_err-take-clause-acts : goal.returns-in_err-take-clause-acts
returns-in_err-take-clause-acts g c =
    let p = err_from_is_err_and c.from_residual-in_err-take.result c.from_residual-in_err-take.ensures.1 in
    let is : c.from_residual-in_err-take.result ≡ Err c.in_err-take.field-0.0 = p.1 ∙ ap Err p.2 in
    let prepared = scene_of g.L.Link g.W.Sink c.prepare.new.self c.prepare.new.link c.prepare.new.out in
    let now = scene_of g.L.Link g.W.Sink c.take.new.self c.take.new.link c.take.new.out in
    rw is
    (turn_take (changing g.K.Keeper.append_gives g.K.Renew.renew_gives) c.args.self.now.cluster c.args.n c.in_err-take.field-0.0
    (scene_of g.L.Link g.W.Sink c.args.self.now c.args.link.now c.args.out.now) prepared now c.in_ok-prepare.ensures.acts
    (subst (λ (cl : Cluster). ActsOnce (changing g.K.Keeper.append_gives g.K.Renew.renew_gives) cl
    (λ what. comes what (course_at c.prepare.new.self))
    (Err c.in_err-take.field-0.0) prepared now) c.in_ok-prepare.ensures.cluster c.in_err-take.ensures.acts))

pub returns-clause-acts : goal.returns-clause-acts
returns-clause-acts g c =
    let prepared = scene_of g.L.Link g.W.Sink c.prepare.new.self c.prepare.new.link c.prepare.new.out in
    let taken = scene_of g.L.Link g.W.Sink c.take.new.self c.take.new.link c.take.new.out in
    let now = scene_of g.L.Link g.W.Sink c.tick.new.self c.tick.new.link c.tick.new.out in
    turn_tick (changing g.K.Keeper.append_gives g.K.Renew.renew_gives) c.args.self.now.cluster c.args.n c.tick.result
    (scene_of g.L.Link g.W.Sink c.args.self.now c.args.link.now c.args.out.now) prepared taken now c.in_ok-prepare.ensures.acts
    (subst (λ (cl : Cluster). ActsOnce (changing g.K.Keeper.append_gives g.K.Renew.renew_gives) cl
    (λ what. comes what (course_at c.prepare.new.self))
    (Ok tt) prepared taken) c.in_ok-prepare.ensures.cluster c.in_ok-take.ensures.acts)
    (subst (λ (cl : Cluster). Acts (changing g.K.Keeper.append_gives g.K.Renew.renew_gives) cl []
    (ticked c.args.n (course_at c.take.new.self)) c.tick.result taken now)
    (c.in_ok-take.ensures.cluster ∙ c.in_ok-prepare.ensures.cluster) c.tick.ensures.acts)
