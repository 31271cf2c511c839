use Rattle.cx_node.proofs.Common.{sym, ◌∙◌, scene_of, changing}
use Rattle.cx_node.proofs.Parts.{snap_due, snap_none}
use Rattle.cx_node.proofs.node.Node.snap.Goals as goal

pub returns-then-is_snap_turn-clause-acts : goal.returns-then-is_snap_turn-clause-acts
returns-then-is_snap_turn-clause-acts g c =
    snap_due (changing g.K.Keeper.append_gives g.K.Renew.renew_gives) c.args.self.now.cluster c.args.n c.all_act.result
    (scene_of g.L.Link g.W.Sink c.args.self.now c.args.link.now c.args.out.now)
    (scene_of g.L.Link g.W.Sink c.all_act.new.self c.all_act.new.link c.all_act.new.out)
    (sym c.is_snap_turn.ensures ∙ c.if-is_snap_turn.true) c.all_act.ensures.acts

pub returns-clause-acts : goal.returns-clause-acts
returns-clause-acts g c =
    snap_none (changing g.K.Keeper.append_gives g.K.Renew.renew_gives) c.args.self.now.cluster c.args.n
    (scene_of g.L.Link g.W.Sink c.args.self.now c.args.link.now c.args.out.now)
    (sym c.is_snap_turn.ensures ∙ c.if-is_snap_turn.false) c.requires.ready
