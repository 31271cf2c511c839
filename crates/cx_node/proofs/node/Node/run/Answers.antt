use Rattle.cx_node.proofs.Common.{Err, ap, ◌∙◌, err_from_is_err_and, changing, scene_of}
use Rattle.cx_node.proofs.Turned.{run_stops}
use Rattle.cx_node.proofs.node.Node.run.Goals as goal

pub returns-in_err-all_turns-clause-part : goal.returns-in_err-all_turns-clause-part
returns-in_err-all_turns-clause-part g c =
    let p = err_from_is_err_and c.from_residual.result c.from_residual.ensures.1 in
    run_stops (changing g.K.Keeper.append_gives g.K.Renew.renew_gives) c.args.tend c.args.self.now.cluster c.args.turns
    c.in_err-all_turns.field-0.0 c.from_residual.result (scene_of g.L.Link g.W.Sink c.args.self.now c.args.link.now c.args.out.now)
    (scene_of g.L.Link g.W.Sink c.all_turns.new.self c.all_turns.new.link c.all_turns.new.out)
    (p.1 ∙ ap Err p.2) c.in_err-all_turns.ensures.acts
