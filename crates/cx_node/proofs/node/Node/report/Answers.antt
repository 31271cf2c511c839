use Rattle.cx_node.proofs.Common.{sym, ◌∙◌, scene_of, changing}
use Rattle.cx_node.proofs.TendedActs.{report_due, report_none}
use Rattle.cx_node.proofs.node.Node.report.Goals as goal

pub returns-then-reports-clause-acts : goal.returns-then-reports-clause-acts
returns-then-reports-clause-acts g c = report_due (changing g.K.Keeper.append_gives g.K.Renew.renew_gives) c.args.self.now.cluster
    c.args.from c.args.role c.args.before c.act_named.result (scene_of g.L.Link g.W.Sink c.args.self.now c.args.link.now c.args.out.now)
    (scene_of g.L.Link g.W.Sink c.act_named.new.self c.act_named.new.link c.act_named.new.out) (sym c.reports.ensures ∙ c.if-reports.true)
    c.act_named.ensures.acts

pub returns-clause-acts : goal.returns-clause-acts
returns-clause-acts g c = report_none (changing g.K.Keeper.append_gives g.K.Renew.renew_gives) c.args.self.now.cluster
    c.args.from c.args.role c.args.before (scene_of g.L.Link g.W.Sink c.args.self.now c.args.link.now c.args.out.now)
    (sym c.reports.ensures ∙ c.if-reports.false) c.requires.ready
