use Rattle.cx_node.proofs.Common.{sym, ◌∙◌, course_at, scene_of, changing, those_tick, act_as}
use Rattle.cx_base.specs.declared.role.Kind.TheVariants as kind
use Rattle.cx_course.specs.Tending.{is_of_kind, kind_ticks}
use Rattle.cx_node.proofs.Tended.{kind_is}
use Rattle.cx_node.proofs.TendedActs.{pause_begins, pause_lasts, pause_none}
use Rattle.cx_node.proofs.node.Node.pause.Goals as goal

pub returns-then-has_paused-clause-acts : goal.returns-then-has_paused-clause-acts
returns-then-has_paused-clause-acts g c =
    pause_begins (changing g.K.Keeper.append_gives g.K.Renew.renew_gives) c.args.self.now.cluster c.args.care.now c.args.came
    c.tick_those.result (scene_of g.L.Link g.W.Sink c.args.self.now c.args.link.now c.args.out.now) (scene_of g.L.Link g.W.Sink
    c.tick_those.new.self c.tick_those.new.link c.tick_those.new.out) (sym c.has_paused.ensures ∙ c.if-has_paused.true)
    (act_as (changing g.K.Keeper.append_gives g.K.Renew.renew_gives) c.args.self.now.cluster (kind_ticks kind.Batcher
    (course_at c.args.self.now)) (those_tick (λ i h. is_of_kind kind.Batcher h) (course_at c.args.self.now)) c.tick_those.result
    (scene_of g.L.Link g.W.Sink c.args.self.now c.args.link.now c.args.out.now) (scene_of g.L.Link g.W.Sink c.tick_those.new.self
    c.tick_those.new.link c.tick_those.new.out) (kind_is kind.Batcher (course_at c.args.self.now)) c.tick_those.ensures.acts)

pub returns-then-has_waited-clause-acts : goal.returns-then-has_waited-clause-acts
returns-then-has_waited-clause-acts g c =
    let now = scene_of g.L.Link g.W.Sink c.args.self.now c.args.link.now c.args.out.now in
    let after = scene_of g.L.Link g.W.Sink c.tick_those-then-has_waited.new.self c.tick_those-then-has_waited.new.link
    c.tick_those-then-has_waited.new.out in
    pause_lasts (changing g.K.Keeper.append_gives g.K.Renew.renew_gives) c.args.self.now.cluster c.args.care.now
    c.args.came c.tick_those-then-has_waited.result now after (sym c.has_paused.ensures ∙ c.if-has_paused.false)
    (sym c.has_waited.ensures ∙ c.if-has_waited.true) c.tick_those-then-has_waited.ensures.acts

pub returns-clause-acts : goal.returns-clause-acts
returns-clause-acts g c =
    pause_none (changing g.K.Keeper.append_gives g.K.Renew.renew_gives) c.args.self.now.cluster c.args.care.now c.args.came
    (scene_of g.L.Link g.W.Sink c.args.self.now c.args.link.now c.args.out.now) (sym c.has_paused.ensures ∙ c.if-has_paused.false)
    (sym c.has_waited.ensures ∙ c.if-has_waited.false) c.requires.ready
