use Rattle.cx_node.proofs.Common.{changing, scene_of}
use Rattle.cx_node.proofs.Turned.{once_untended}
use Rattle.cx_node.proofs.node.Node.turn.Goals as goal

pub returns-in-None-clause-acts : goal.returns-in-None-clause-acts
returns-in-None-clause-acts g c =
    rw c.in-None.is
    (once_untended (changing g.K.Keeper.append_gives g.K.Renew.renew_gives) c.args.self.now.cluster c.args.n c.untended_turn.result
    (scene_of g.L.Link g.W.Sink c.args.self.now c.args.link.now c.args.out.now)
    (scene_of g.L.Link g.W.Sink c.untended_turn.new.self c.untended_turn.new.link c.untended_turn.new.out)
    c.args.care.now c.untended_turn.ensures.acts)
