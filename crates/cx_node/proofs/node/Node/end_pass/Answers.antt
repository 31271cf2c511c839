use Rattle.cx_node.proofs.Common.{◌≡◌, [], List, map, ℕ, Ok, Err, ap, ◌∙◌, subst, err_from_is_err_and, Acts, scene_of, changing, hosted_of}
use Rattle.cx_node.proofs.Common.{NodeState, course_at, completed, Guest}
use Rattle.cx_course.specs.Tending.{in_turn, is_overtaken}
use Rattle.cx_node.specs.declared.node.Stop.TheVariants.{NoMemory}
use Rattle.cx_node.proofs.Tended.{marks_there, pass_counts}
use Rattle.cx_node.proofs.TendedActs.{then_stops}
use Rattle.cx_node.proofs.node.Node.end_pass.Goals as goal

pub returns-in_err-counts-clause-acts : goal.returns-in_err-counts-clause-acts
returns-in_err-counts-clause-acts g c =
    let s = course_at c.args.self.now in
    let k = c.args.care.now in
    let before = scene_of g.L.Link g.W.Sink c.args.self.now c.args.link.now c.args.out.now in
    let now = scene_of g.L.Link g.W.Sink c.tick_in_turn.new.self c.tick_in_turn.new.link c.tick_in_turn.new.out in
    let p = err_from_is_err_and c.from_residual-in_err-counts.result c.from_residual-in_err-counts.ensures.1 in
    let is : c.from_residual-in_err-counts.result ≡ Err NoMemory = p.1 ∙ ap Err p.2 in
    rw is (then_stops (changing g.K.Keeper.append_gives g.K.Renew.renew_gives) c.args.self.now.cluster (in_turn (is_overtaken k.counts)
    k.queue s) before now (subst (λ (l : List ℕ). Acts (changing g.K.Keeper.append_gives g.K.Renew.renew_gives) c.args.self.now.cluster []
    (in_turn (is_overtaken k.counts) l s) (Ok tt) before now) c.queue.ensures c.in_ok-tick_in_turn.ensures.acts))

pub returns-in_err-begin_pass-clause-acts : goal.returns-in_err-begin_pass-clause-acts
returns-in_err-begin_pass-clause-acts g c =
    let s = course_at c.args.self.now in
    let k = c.args.care.now in
    let before = scene_of g.L.Link g.W.Sink c.args.self.now c.args.link.now c.args.out.now in
    let now = scene_of g.L.Link g.W.Sink c.tick_in_turn.new.self c.tick_in_turn.new.link c.tick_in_turn.new.out in
    let p = err_from_is_err_and c.from_residual-in_err-begin_pass.result c.from_residual-in_err-begin_pass.ensures.1 in
    let is : c.from_residual-in_err-begin_pass.result ≡ Err NoMemory = p.1 ∙ ap Err p.2 in
    rw is (then_stops (changing g.K.Keeper.append_gives g.K.Renew.renew_gives) c.args.self.now.cluster (in_turn (is_overtaken k.counts)
    k.queue s) before now (subst (λ (l : List ℕ). Acts (changing g.K.Keeper.append_gives g.K.Renew.renew_gives) c.args.self.now.cluster []
    (in_turn (is_overtaken k.counts) l s) (Ok tt) before now) c.queue.ensures c.in_ok-tick_in_turn.ensures.acts))

pub returns-clause-care : goal.returns-clause-care
returns-clause-care g c =
    let gs = c.tick_in_turn.new.self.guests in
    let s = course_at c.args.self.now in
    let k = c.args.care.now in
    let same = ap (λ (s : NodeState g.row.K.Denot). s.guests) c.self.view_is in
    pass_counts k c.begin_pass.new.self c.in_ok-counts.counts.items s (course_at c.tick_in_turn.new.self)
    (c.in_ok-tick_in_turn.ensures.acts.done.course
    ∙ ap (λ (l : List ℕ). (in_turn (is_overtaken k.counts) l s).next) c.queue.ensures)
    (c.in_ok-counts.ensures ∙ ap (map (λ (guest : Guest g.row.K.Denot). completed (hosted_of guest)))
    (c.deref.ensures.value ∙ same) ∙ marks_there gs)
    c.in_ok-begin_pass.ensures
