use Rattle.cx_node.proofs.Common.{scene_of, changing}
use Rattle.cx_node.proofs.TendedActs.{gets_none, gets_some}
use Rattle.cx_node.proofs.node.Node.command.Goals as goal

pub returns-in-Some-clause-acts : goal.returns-in-Some-clause-acts
returns-in-Some-clause-acts g c =
    gets_some (changing g.K.Keeper.append_gives g.K.Renew.renew_gives) c.args.self.now.cluster c.args.order c.in-Some.order
    c.first_name.result c.act_named.result (scene_of g.L.Link g.W.Sink c.args.self.now c.args.link.now c.args.out.now) (scene_of g.L.Link
    g.W.Sink c.act_named.new.self c.act_named.new.link c.act_named.new.out) c.in-Some.is c.first_name.ensures c.act_named.ensures.acts

pub returns-in-None-clause-acts : goal.returns-in-None-clause-acts
returns-in-None-clause-acts g c = gets_none (changing g.K.Keeper.append_gives g.K.Renew.renew_gives) c.args.self.now.cluster c.args.order
    (scene_of g.L.Link g.W.Sink c.args.self.now c.args.link.now c.args.out.now) c.in-None.is c.requires.ready
