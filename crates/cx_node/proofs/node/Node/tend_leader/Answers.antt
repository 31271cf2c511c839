use Rattle.cx_node.proofs.Common.{◌≡◌, [], Ok, refl, sym, ap, ◌∙◌, subst, Option, Cluster, changing, stays, Acts, scene_of, hosted_in}
use Rattle.cx_node.proofs.Common.{NodeState, course_at, tended, acts_nothing, counts_as, moved_as}
use Rattle.cx_base.specs.declared.event.Order.{Order}
use Rattle.cx_course.specs.Tending.{first_leader, gets, leader_asked, leader_cared, leader_tended, with_care}
use Rattle.cx_node.proofs.Tended.{leader_none, leader_some, on_ok}
use Rattle.cx_node.proofs.node.Node.tend_leader.Goals as goal

pub returns-in-Some-clause-acts : goal.returns-in-Some-clause-acts
returns-in-Some-clause-acts g c =
    let s = course_at c.args.self.now in
    let now = leader_cared c.in-Some.standing c.args.care.now in
    let same_guests = ap (λ (s : NodeState g.row.K.Denot). s.guests) c.self.view_is in
    let same_cluster : c.self.inside.cluster ≡ c.args.self.now.cluster = ap (λ (s : NodeState g.row.K.Denot). s.cluster) c.self.view_is in
    let asked : c.leader_order-order.result ≡ leader_asked c.args.self.now.cluster c.in-Some.standing now =
    c.leader_order-order.ensures.order ∙ ap (λ (cl : Cluster). leader_asked cl c.in-Some.standing now) same_cluster in
    moved_as (changing g.K.Keeper.append_gives g.K.Renew.renew_gives) c.args.self.now.cluster (leader_tended c.args.self.now.cluster
    (first_leader (hosted_in c.args.self.now.guests)) (tended c.args.care.now (course_at c.args.self.now)))
    (with_care now (gets (leader_asked c.args.self.now.cluster c.in-Some.standing now) s)) c.command.result (scene_of g.L.Link g.W.Sink
    c.args.self.now c.args.link.now c.args.out.now) (scene_of g.L.Link g.W.Sink c.command.new.self c.command.new.link c.command.new.out)
    (leader_some c.args.self.now.cluster (first_leader (hosted_in c.args.self.now.guests)) c.in-Some.standing c.args.care.now
    (course_at c.args.self.now) (sym c.in-Some.is ∙ c.standing.ensures))
    (subst (λ (o : Option Order). Acts (changing g.K.Keeper.append_gives g.K.Renew.renew_gives) c.args.self.now.cluster []
    (gets o s) c.command.result (scene_of g.L.Link g.W.Sink c.args.self.now c.args.link.now c.args.out.now)
    (scene_of g.L.Link g.W.Sink c.command.new.self c.command.new.link c.command.new.out)) asked c.command.ensures.acts)

pub returns-in-Some-clause-care : goal.returns-in-Some-clause-care
returns-in-Some-clause-care g c =
    let s = course_at c.args.self.now in
    let now = leader_cared c.in-Some.standing c.args.care.now in
    counts_as (leader_tended c.args.self.now.cluster (first_leader (hosted_in c.args.self.now.guests)) (tended c.args.care.now
    (course_at c.args.self.now))) (with_care now (gets (leader_asked c.args.self.now.cluster c.in-Some.standing now) s)) c.command.result
    c.leader_order-order.new.care (leader_some c.args.self.now.cluster (first_leader (hosted_in c.args.self.now.guests)) c.in-Some.standing
    c.args.care.now (course_at c.args.self.now) (sym c.in-Some.is ∙ c.standing.ensures))
    (on_ok c.command.result (c.leader_order-order.new.care ≡ now) c.leader_order-order.ensures.care)

pub returns-in-None-clause-acts : goal.returns-in-None-clause-acts
returns-in-None-clause-acts g c =
    moved_as (changing g.K.Keeper.append_gives g.K.Renew.renew_gives) c.args.self.now.cluster (leader_tended c.args.self.now.cluster
    (first_leader (hosted_in c.args.self.now.guests)) (tended c.args.care.now (course_at c.args.self.now)))
    (stays (tended c.args.care.now (course_at c.args.self.now))) (Ok tt) (scene_of g.L.Link g.W.Sink c.args.self.now
    c.args.link.now c.args.out.now) (scene_of g.L.Link g.W.Sink c.args.self.now c.args.link.now c.args.out.now)
    (leader_none c.args.self.now.cluster (first_leader (hosted_in c.args.self.now.guests)) c.args.care.now (course_at c.args.self.now)
    (sym c.in-None.is ∙ c.standing.ensures)) (acts_nothing (changing g.K.Keeper.append_gives g.K.Renew.renew_gives) c.args.self.now.cluster
    (scene_of g.L.Link g.W.Sink c.args.self.now c.args.link.now c.args.out.now) c.requires.ready)

pub returns-in-None-clause-care : goal.returns-in-None-clause-care
returns-in-None-clause-care g c = counts_as (leader_tended c.args.self.now.cluster (first_leader (hosted_in c.args.self.now.guests))
    (tended c.args.care.now (course_at c.args.self.now))) (stays (tended c.args.care.now (course_at c.args.self.now))) (Ok tt)
    c.args.care.now (leader_none c.args.self.now.cluster (first_leader (hosted_in c.args.self.now.guests)) c.args.care.now
    (course_at c.args.self.now) (sym c.in-None.is ∙ c.standing.ensures)) refl
