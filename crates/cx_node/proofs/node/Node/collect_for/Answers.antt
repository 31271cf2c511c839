use Rattle.cx_node.proofs.Common.{sym, ap, ◌∙◌, role, same_role, course_at, scene_of, changing}
use Rattle.cx_base.specs.declared.role.Kind.TheVariants as kind
use Rattle.cx_course.specs.Tending.{collected}
use Rattle.cx_node.proofs.TendedActs.{due, not_due}
use Rattle.cx_node.proofs.node.Node.collect_for.Goals as goal

pub returns-then-is-clause-acts : goal.returns-then-is-clause-acts
returns-then-is-clause-acts g c =
    due (changing g.K.Keeper.append_gives g.K.Renew.renew_gives) c.args.self.now.cluster (same_role c.args.to (role kind.Leader 0))
    (collected (course_at c.args.self.now)) c.collect.result (scene_of g.L.Link g.W.Sink c.args.self.now c.args.link.now c.args.out.now)
    (scene_of g.L.Link g.W.Sink c.collect.new.self c.collect.new.link c.collect.new.out)
    (ap (same_role c.args.to) (sym c.first_name.ensures) ∙ sym c.is.ensures ∙ c.if-is.true) c.collect.ensures.acts

pub returns-clause-acts : goal.returns-clause-acts
returns-clause-acts g c =
    not_due (changing g.K.Keeper.append_gives g.K.Renew.renew_gives) c.args.self.now.cluster (same_role c.args.to (role kind.Leader 0))
    (collected (course_at c.args.self.now)) (scene_of g.L.Link g.W.Sink c.args.self.now c.args.link.now c.args.out.now)
    (ap (same_role c.args.to) (sym c.first_name.ensures) ∙ sym c.is.ensures ∙ c.if-is.false) c.requires.ready
