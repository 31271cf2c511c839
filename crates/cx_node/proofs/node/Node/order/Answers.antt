use Rattle.cx_node.proofs.Common.{sym, ◌∙◌, changing, scene_of}
use Rattle.cx_node.proofs.Parts.{order_due, order_none}
use Rattle.cx_node.proofs.node.Node.order.Goals as goal

pub returns-then-is_order_turn-clause-acts : goal.returns-then-is_order_turn-clause-acts
returns-then-is_order_turn-clause-acts g c =
    order_due (changing g.K.Keeper.append_gives g.K.Renew.renew_gives) c.args.self.now.cluster c.args.n c.lead.result
    (scene_of g.L.Link g.W.Sink c.args.self.now c.args.link.now c.args.out.now)
    (scene_of g.L.Link g.W.Sink c.lead.new.self c.lead.new.link c.lead.new.out)
    (sym c.is_order_turn.ensures ∙ c.if-is_order_turn.true) c.lead.ensures.acts

pub returns-clause-acts : goal.returns-clause-acts
returns-clause-acts g c =
    order_none (changing g.K.Keeper.append_gives g.K.Renew.renew_gives) c.args.self.now.cluster c.args.n
    (scene_of g.L.Link g.W.Sink c.args.self.now c.args.link.now c.args.out.now)
    (sym c.is_order_turn.ensures ∙ c.if-is_order_turn.false) c.requires.ready
