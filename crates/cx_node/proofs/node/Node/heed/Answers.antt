use Rattle.std.proofs.Common.{if◌then◌else◌}
use Rattle.cx_node.proofs.Common.{◌≡◌, [], Ok, Err, ap, ◌∙◌, subst, err_from_is_err_and, role, same_role, Cluster, course_at, changing}
use Rattle.cx_node.proofs.Common.{stays, Acts, scene_of, hosted_in}
use Rattle.cx_base.specs.declared.role.Kind.TheVariants as kind
use Rattle.cx_course.specs.Tending.{collected, held_by_role, reported}
use Rattle.cx_node.proofs.TendedActs.{heed_collect, heed_report, heed_take}
use Rattle.cx_node.proofs.node.Node.heed.Goals as goal

pub returns-in_err-act_named-clause-acts : goal.returns-in_err-act_named-clause-acts
returns-in_err-act_named-clause-acts g c =
    let p = err_from_is_err_and c.from_residual.result c.from_residual.ensures.1 in
    let is : c.from_residual.result ≡ Err c.in_err-act_named.field-0.0 = p.1 ∙ ap Err p.2 in
    rw is (heed_take (changing g.K.Keeper.append_gives g.K.Renew.renew_gives) c.args.self.now.cluster c.args.number c.args.datagram
    c.in_err-act_named.field-0.0 (scene_of g.L.Link g.W.Sink c.args.self.now c.args.link.now c.args.out.now) (scene_of g.L.Link g.W.Sink
    c.act_named.new.self c.act_named.new.link c.act_named.new.out) (rw c.to-to.ensures.to at c.in_err-act_named.ensures.acts))

pub returns-in_err-report-clause-acts : goal.returns-in_err-report-clause-acts
returns-in_err-report-clause-acts g c =
    let taken = (scene_of g.L.Link g.W.Sink c.act_named.new.self c.act_named.new.link c.act_named.new.out) in
    let scene = (scene_of g.L.Link g.W.Sink c.report.new.self c.report.new.link c.report.new.out) in
    let p = err_from_is_err_and c.from_residual-in_err-report.result c.from_residual-in_err-report.ensures.1 in
    let is : c.from_residual-in_err-report.result ≡ Err c.in_err-report.field-0.0 = p.1 ∙ ap Err p.2 in
    rw is (heed_report (changing g.K.Keeper.append_gives g.K.Renew.renew_gives) c.args.self.now.cluster c.args.number
    c.args.datagram c.in_err-report.field-0.0 (scene_of g.L.Link g.W.Sink c.args.self.now c.args.link.now c.args.out.now) taken scene
    (rw c.to-to.ensures.to at c.in_ok-act_named.ensures.acts)
    (subst (λ (cl : Cluster). Acts (changing g.K.Keeper.append_gives g.K.Renew.renew_gives) cl []
    (reported c.args.datagram.from c.args.datagram.to (held_by_role c.args.datagram.to (hosted_in c.args.self.now.guests))
    (course_at c.act_named.new.self)) (Err c.in_err-report.field-0.0) taken scene) c.in_ok-act_named.ensures.cluster
    (rw (c.held_by-before.ensures, c.from-from.ensures.from, c.to-to.ensures.to) at c.in_err-report.ensures.acts)))

pub returns-clause-acts : goal.returns-clause-acts
returns-clause-acts g c =
    let taken = (scene_of g.L.Link g.W.Sink c.act_named.new.self c.act_named.new.link c.act_named.new.out) in
    let scene = (scene_of g.L.Link g.W.Sink c.report.new.self c.report.new.link c.report.new.out) in
    let now = (scene_of g.L.Link g.W.Sink c.collect_for.new.self c.collect_for.new.link c.collect_for.new.out) in
    heed_collect (changing g.K.Keeper.append_gives g.K.Renew.renew_gives) c.args.self.now.cluster c.args.number c.args.datagram
    c.collect_for.result (scene_of g.L.Link g.W.Sink c.args.self.now c.args.link.now c.args.out.now) taken scene now
    (rw c.to-to.ensures.to at c.in_ok-act_named.ensures.acts)
    (subst (λ (cl : Cluster). Acts (changing g.K.Keeper.append_gives g.K.Renew.renew_gives) cl []
    (reported c.args.datagram.from c.args.datagram.to (held_by_role c.args.datagram.to (hosted_in c.args.self.now.guests))
    (course_at c.act_named.new.self)) (Ok tt) taken scene) c.in_ok-act_named.ensures.cluster
    (rw (c.held_by-before.ensures, c.from-from.ensures.from, c.to-to.ensures.to) at c.in_ok-report.ensures.acts))
    (subst (λ (cl : Cluster). Acts (changing g.K.Keeper.append_gives g.K.Renew.renew_gives) cl [] (if same_role c.args.datagram.to (role
    kind.Leader 0) then collected (course_at c.report.new.self) else stays (course_at c.report.new.self)) c.collect_for.result scene now)
    (c.in_ok-report.ensures.cluster ∙ c.in_ok-act_named.ensures.cluster) (rw c.to-to.ensures.to at c.collect_for.ensures.acts))
