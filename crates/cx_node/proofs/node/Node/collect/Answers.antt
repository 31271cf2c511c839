use Rattle.cx_node.proofs.Common.{sym, ◌∙◌, scene_of, changing}
use Rattle.cx_node.proofs.TendedActs.{collect_due, collect_none}
use Rattle.cx_node.proofs.node.Node.collect.Goals as goal

pub returns-then-can_collect-clause-acts : goal.returns-then-can_collect-clause-acts
returns-then-can_collect-clause-acts g c = collect_due (changing g.K.Keeper.append_gives g.K.Renew.renew_gives) c.args.self.now.cluster
    c.command.result (scene_of g.L.Link g.W.Sink c.args.self.now c.args.link.now c.args.out.now) (scene_of g.L.Link g.W.Sink
    c.command.new.self c.command.new.link c.command.new.out) (sym c.can_collect.ensures ∙ c.if-can_collect.true) c.command.ensures.acts

pub returns-clause-acts : goal.returns-clause-acts
returns-clause-acts g c = collect_none (changing g.K.Keeper.append_gives g.K.Renew.renew_gives) c.args.self.now.cluster (scene_of g.L.Link
    g.W.Sink c.args.self.now c.args.link.now c.args.out.now) (sym c.can_collect.ensures ∙ c.if-can_collect.false) c.requires.ready
