use Rattle.cx_node.proofs.Common.{ℕ, List, [], Option, Ok, sym, subst, course_at, Acts, Blames, failed, scene_of, changing, clients_tended}
use Rattle.cx_node.proofs.Common.{without_care, tended}
use Rattle.cx_node.specs.Acts.{failures}
use Rattle.cx_node.specs.Doing.{scene}
use Rattle.cx_node.proofs.node.Node.tend_clients.Goals as goal

pub returns-clause-acts : goal.returns-clause-acts
returns-clause-acts g c =
    subst (λ (t : Option (List ℕ)). Acts (changing g.K.Keeper.append_gives g.K.Renew.renew_gives)
    c.args.self.now.cluster [] (without_care (clients_tended (tended c.args.care.now (course_at c.args.self.now))))
    (Ok tt) (scene_of g.L.Link g.W.Sink c.args.self.now c.args.link.now c.args.out.now)
    (scene c.ask_clients.new.self.guests c.ask_clients.new.self.recorded (g.L.Link.history c.ask_clients.new.link) t))
    (sym c.remark_silence.ensures.taken) c.in_ok-ask_clients.ensures.acts

pub returns-clause-blames : goal.returns-clause-blames
returns-clause-blames g c = subst (λ (n : ℕ). Blames (Ok tt) (failed g.L.Link g.W.Sink c.args.link.now c.args.out.now)
    (failures (g.L.Link.faults c.ask_clients.new.link) n)) (sym c.remark_silence.ensures.still) c.in_ok-ask_clients.ensures.blames
