use Rattle.cx_node.proofs.Common.{not, ◌≡◌, [], Ok, Err, ap, ◌∙◌, subst, err_from_is_err_and, Cluster, course_at, Acts, scene_of, changing}
use Rattle.cx_node.proofs.Common.{hosted_in, is_client, clients_tended, those_tick, without_care, tended, act_as}
use Rattle.cx_course.specs.Tending.{first_leader, leader_tended, others_tick}
use Rattle.cx_node.proofs.Tended.{others_is}
use Rattle.cx_node.proofs.TendedActs.{beat_clients, beat_counts, beat_leader, beat_others}
use Rattle.cx_node.proofs.node.Node.beat.Goals as goal

pub returns-in_err-tick_those-clause-acts : goal.returns-in_err-tick_those-clause-acts
returns-in_err-tick_those-clause-acts g c =
    let p = err_from_is_err_and c.from_residual.result c.from_residual.ensures.1 in
    let is : c.from_residual.result ≡ Err c.in_err-tick_those.field-0.0 = p.1 ∙ ap Err p.2 in
    rw is (beat_others (changing g.K.Keeper.append_gives g.K.Renew.renew_gives) c.args.self.now.cluster c.args.care.now
    c.in_err-tick_those.field-0.0 (scene_of g.L.Link g.W.Sink c.args.self.now c.args.link.now c.args.out.now)
    (scene_of g.L.Link g.W.Sink c.tick_those.new.self c.tick_those.new.link c.tick_those.new.out)
    (act_as (changing g.K.Keeper.append_gives g.K.Renew.renew_gives) c.args.self.now.cluster (others_tick (course_at c.args.self.now))
    (those_tick (λ i h. not (is_client h)) (course_at c.args.self.now)) (Err c.in_err-tick_those.field-0.0)
    (scene_of g.L.Link g.W.Sink c.args.self.now c.args.link.now c.args.out.now) (scene_of g.L.Link g.W.Sink c.tick_those.new.self
    c.tick_those.new.link c.tick_those.new.out) (others_is (course_at c.args.self.now)) c.in_err-tick_those.ensures.acts))

pub returns-in_err-tend_leader-clause-acts : goal.returns-in_err-tend_leader-clause-acts
returns-in_err-tend_leader-clause-acts g c =
    let ticked = (scene_of g.L.Link g.W.Sink c.tick_those.new.self c.tick_those.new.link c.tick_those.new.out) in
    let led = (scene_of g.L.Link g.W.Sink c.tend_leader.new.self c.tend_leader.new.link c.tend_leader.new.out) in
    let p = err_from_is_err_and c.from_residual-in_err-tend_leader.result c.from_residual-in_err-tend_leader.ensures.1 in
    let is : c.from_residual-in_err-tend_leader.result ≡ Err c.in_err-tend_leader.field-0.0 = p.1 ∙ ap Err p.2 in
    rw is (beat_leader (changing g.K.Keeper.append_gives g.K.Renew.renew_gives) c.args.self.now.cluster c.args.care.now
    c.in_err-tend_leader.field-0.0 (scene_of g.L.Link g.W.Sink c.args.self.now c.args.link.now c.args.out.now) ticked led
    (act_as (changing g.K.Keeper.append_gives g.K.Renew.renew_gives) c.args.self.now.cluster (others_tick (course_at c.args.self.now))
    (those_tick (λ i h. not (is_client h)) (course_at c.args.self.now)) (Ok tt) (scene_of g.L.Link g.W.Sink c.args.self.now c.args.link.now
    c.args.out.now) ticked (others_is (course_at c.args.self.now)) c.in_ok-tick_those.ensures.acts)
    (subst (λ (cl : Cluster). Acts (changing g.K.Keeper.append_gives g.K.Renew.renew_gives) cl [] (without_care (leader_tended cl
    (first_leader (hosted_in c.tick_those.new.self.guests)) (tended c.args.care.now (course_at c.tick_those.new.self))))
    (Err c.in_err-tend_leader.field-0.0) ticked led) c.in_ok-tick_those.ensures.cluster c.in_err-tend_leader.ensures.acts))

pub returns-clause-acts : goal.returns-clause-acts
returns-clause-acts g c =
    let ticked = (scene_of g.L.Link g.W.Sink c.tick_those.new.self c.tick_those.new.link c.tick_those.new.out) in
    let led = (scene_of g.L.Link g.W.Sink c.tend_leader.new.self c.tend_leader.new.link c.tend_leader.new.out) in
    let now = (scene_of g.L.Link g.W.Sink c.tend_clients.new.self c.tend_clients.new.link c.tend_clients.new.out) in
    let care = c.tend_leader.new.care in
    beat_clients (changing g.K.Keeper.append_gives g.K.Renew.renew_gives) c.args.self.now.cluster c.args.care.now care
    c.tend_clients.result (scene_of g.L.Link g.W.Sink c.args.self.now c.args.link.now c.args.out.now) ticked led now
    (act_as (changing g.K.Keeper.append_gives g.K.Renew.renew_gives) c.args.self.now.cluster (others_tick (course_at c.args.self.now))
    (those_tick (λ i h. not (is_client h)) (course_at c.args.self.now)) (Ok tt) (scene_of g.L.Link g.W.Sink c.args.self.now c.args.link.now
    c.args.out.now) ticked (others_is (course_at c.args.self.now)) c.in_ok-tick_those.ensures.acts)
    (subst (λ (cl : Cluster). Acts (changing g.K.Keeper.append_gives g.K.Renew.renew_gives) cl [] (without_care (leader_tended cl
    (first_leader (hosted_in c.tick_those.new.self.guests)) (tended c.args.care.now (course_at c.tick_those.new.self)))) (Ok tt) ticked led)
    c.in_ok-tick_those.ensures.cluster c.in_ok-tend_leader.ensures.acts)
    (subst (λ (cl : Cluster). care ≡ (leader_tended cl (first_leader (hosted_in c.tick_those.new.self.guests)) (tended c.args.care.now
    (course_at c.tick_those.new.self))).next.care) c.in_ok-tick_those.ensures.cluster c.in_ok-tend_leader.ensures.care)
    (subst (λ (cl : Cluster). Acts (changing g.K.Keeper.append_gives g.K.Renew.renew_gives) cl []
    (without_care (clients_tended (tended care (course_at c.tend_leader.new.self)))) c.tend_clients.result led now)
    (c.in_ok-tend_leader.ensures.cluster ∙ c.in_ok-tick_those.ensures.cluster) c.tend_clients.ensures.acts)

pub returns-clause-care : goal.returns-clause-care
returns-clause-care g c =
    let ticked = (scene_of g.L.Link g.W.Sink c.tick_those.new.self c.tick_those.new.link c.tick_those.new.out) in
    let led = (scene_of g.L.Link g.W.Sink c.tend_leader.new.self c.tend_leader.new.link c.tend_leader.new.out) in
    let care = c.tend_leader.new.care in
    beat_counts (changing g.K.Keeper.append_gives g.K.Renew.renew_gives) c.args.self.now.cluster c.args.care.now care
    c.tend_clients.new.care c.tend_clients.result (scene_of g.L.Link g.W.Sink c.args.self.now c.args.link.now c.args.out.now) ticked led
    (act_as (changing g.K.Keeper.append_gives g.K.Renew.renew_gives) c.args.self.now.cluster (others_tick (course_at c.args.self.now))
    (those_tick (λ i h. not (is_client h)) (course_at c.args.self.now)) (Ok tt) (scene_of g.L.Link g.W.Sink c.args.self.now c.args.link.now
    c.args.out.now) ticked (others_is (course_at c.args.self.now)) c.in_ok-tick_those.ensures.acts)
    (subst (λ (cl : Cluster). Acts (changing g.K.Keeper.append_gives g.K.Renew.renew_gives) cl [] (without_care (leader_tended cl
    (first_leader (hosted_in c.tick_those.new.self.guests)) (tended c.args.care.now (course_at c.tick_those.new.self)))) (Ok tt) ticked led)
    c.in_ok-tick_those.ensures.cluster c.in_ok-tend_leader.ensures.acts)
    (subst (λ (cl : Cluster). care ≡ (leader_tended cl (first_leader (hosted_in c.tick_those.new.self.guests)) (tended c.args.care.now
    (course_at c.tick_those.new.self))).next.care) c.in_ok-tick_those.ensures.cluster c.in_ok-tend_leader.ensures.care)
    c.tend_clients.ensures.care
