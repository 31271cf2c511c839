use Rattle.cx_node.proofs.Common.{Ok, refl, sym, ◌∙◌, course_at, scene_of, changing, stays, tended, acts_nothing, counts_as, moved_as}
use Rattle.cx_course.specs.Tending.{beat, turn_ended}
use Rattle.cx_node.proofs.Tended.{ended_beat, ended_still}
use Rattle.cx_node.proofs.node.Node.end_turn.Goals as goal

pub returns-then-is_beat-clause-acts : goal.returns-then-is_beat-clause-acts
returns-then-is_beat-clause-acts g c = moved_as (changing g.K.Keeper.append_gives g.K.Renew.renew_gives) c.args.self.now.cluster
    (turn_ended c.args.self.now.cluster c.args.most c.args.came (tended c.args.care.now (course_at c.args.self.now)))
    (beat c.args.self.now.cluster (tended c.begin_beat.new.self (course_at c.args.self.now))) c.beat.result (scene_of g.L.Link g.W.Sink
    c.args.self.now c.args.link.now c.args.out.now) (scene_of g.L.Link g.W.Sink c.beat.new.self c.beat.new.link c.beat.new.out)
    (ended_beat c.args.self.now.cluster c.args.care.now c.count.new.self c.begin_beat.new.self c.args.most c.args.came
    (course_at c.args.self.now) c.count.ensures (sym c.is_beat.ensures ∙ c.if-is_beat.true) c.begin_beat.ensures) c.beat.ensures.acts

pub returns-then-is_beat-clause-care : goal.returns-then-is_beat-clause-care
returns-then-is_beat-clause-care g c = counts_as (turn_ended c.args.self.now.cluster c.args.most c.args.came (tended c.args.care.now
    (course_at c.args.self.now))) (beat c.args.self.now.cluster (tended c.begin_beat.new.self (course_at c.args.self.now))) c.beat.result
    c.beat.new.care (ended_beat c.args.self.now.cluster c.args.care.now c.count.new.self c.begin_beat.new.self c.args.most c.args.came
    (course_at c.args.self.now) c.count.ensures (sym c.is_beat.ensures ∙ c.if-is_beat.true) c.begin_beat.ensures) c.beat.ensures.care

pub returns-clause-acts : goal.returns-clause-acts
returns-clause-acts g c = moved_as (changing g.K.Keeper.append_gives g.K.Renew.renew_gives) c.args.self.now.cluster
    (turn_ended c.args.self.now.cluster c.args.most c.args.came (tended c.args.care.now (course_at c.args.self.now)))
    (stays (tended c.count.new.self (course_at c.args.self.now))) (Ok tt) (scene_of g.L.Link g.W.Sink c.args.self.now
    c.args.link.now c.args.out.now) (scene_of g.L.Link g.W.Sink c.args.self.now c.args.link.now c.args.out.now)
    (ended_still c.args.self.now.cluster c.args.care.now c.count.new.self c.args.most c.args.came (course_at c.args.self.now)
    c.count.ensures (sym c.is_beat.ensures ∙ c.if-is_beat.false)) (acts_nothing (changing g.K.Keeper.append_gives g.K.Renew.renew_gives)
    c.args.self.now.cluster (scene_of g.L.Link g.W.Sink c.args.self.now c.args.link.now c.args.out.now) c.requires.ready)

pub returns-clause-care : goal.returns-clause-care
returns-clause-care g c = counts_as (turn_ended c.args.self.now.cluster c.args.most c.args.came
    (tended c.args.care.now (course_at c.args.self.now))) (stays (tended c.count.new.self (course_at c.args.self.now)))
    (Ok tt) c.count.new.self (ended_still c.args.self.now.cluster c.args.care.now c.count.new.self c.args.most c.args.came
    (course_at c.args.self.now) c.count.ensures (sym c.is_beat.ensures ∙ c.if-is_beat.false)) refl
