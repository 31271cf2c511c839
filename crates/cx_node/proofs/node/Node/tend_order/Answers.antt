use Rattle.cx_node.proofs.Common.{sym, ◌∙◌, scene_of, changing}
use Rattle.cx_node.proofs.TendedActs.{order_comes, order_waits}
use Rattle.cx_node.proofs.node.Node.tend_order.Goals as goal

pub returns-then-has_begun-clause-acts : goal.returns-then-has_begun-clause-acts
returns-then-has_begun-clause-acts g c = order_waits (changing g.K.Keeper.append_gives g.K.Renew.renew_gives) c.args.self.now.cluster
    c.args.n (scene_of g.L.Link g.W.Sink c.args.self.now c.args.link.now c.args.out.now) (sym c.has_begun.ensures ∙ c.if-has_begun.true)
    c.requires.ready

pub returns-clause-acts : goal.returns-clause-acts
returns-clause-acts g c = order_comes (changing g.K.Keeper.append_gives g.K.Renew.renew_gives) c.args.self.now.cluster c.args.n
    c.order.result (scene_of g.L.Link g.W.Sink c.args.self.now c.args.link.now c.args.out.now) (scene_of g.L.Link g.W.Sink c.order.new.self
    c.order.new.link c.order.new.out) (sym c.has_begun.ensures ∙ c.if-has_begun.false) c.order.ensures.acts
