use Rattle.cx_seat.specs.Prelude.{is_so, Give}
use Rattle.cx_node.proofs.Common.{slice_get, arith, ap, ◌∙◌, length-map, scene_of, changing, hosted_in, hosted_of, NodeState, course_at}
use Rattle.cx_node.proofs.Common.{does_at, is_meant}
use Rattle.cx_letter.specs.declared.input.Input.TheVariants as input
use Rattle.cx_node.proofs.TendedActs.{due, not_due, so_at, so_within}
use Rattle.cx_node.proofs.node.Node.tick_at.Goals as goal

pub act-requires-clause-place : goal.act-requires-clause-place
act-requires-clause-place g c =
    let gs = c.args.self.now.guests in
    let same = ap (λ (s : NodeState g.row.K.Denot). s.guests) c.self.view_is in
    let test = is_meant c.args.whom c.args.care.now.counts c.args.place in
    let so = so_at test gs _ c.args.place c.is_meant_at.result (c.deref.ensures.value ∙ same) c.is_meant_at.ensures
    ∙ c.if-is_meant_at.true in
    omega (arith, so_within test (hosted_in gs) c.args.place so, length-map gs (hosted_of {K = g.row.K.Denot}))

pub returns-then-is_meant_at-clause-acts : goal.returns-then-is_meant_at-clause-acts
returns-then-is_meant_at-clause-acts g c =
    let gs = c.args.self.now.guests in
    let hs = hosted_in gs in
    let same = ap (λ (s : NodeState g.row.K.Denot). s.guests) c.self.view_is in
    let i = c.args.place in
    let test = is_meant c.args.whom c.args.care.now.counts i in
    due (changing g.K.Keeper.append_gives g.K.Renew.renew_gives) c.args.self.now.cluster (is_so test (slice_get hs i))
    (does_at i (Give 0 input.Tick) (course_at c.args.self.now))
    c.act.result (scene_of g.L.Link g.W.Sink c.args.self.now c.args.link.now c.args.out.now)
    (scene_of g.L.Link g.W.Sink c.act.new.self c.act.new.link c.act.new.out)
    (so_at test gs _ i c.is_meant_at.result (c.deref.ensures.value ∙ same) c.is_meant_at.ensures ∙ c.if-is_meant_at.true)
    c.act.ensures.acts

pub returns-clause-acts : goal.returns-clause-acts
returns-clause-acts g c =
    let gs = c.args.self.now.guests in
    let hs = hosted_in gs in
    let same = ap (λ (s : NodeState g.row.K.Denot). s.guests) c.self.view_is in
    let i = c.args.place in
    let test = is_meant c.args.whom c.args.care.now.counts i in
    not_due (changing g.K.Keeper.append_gives g.K.Renew.renew_gives) c.args.self.now.cluster (is_so test (slice_get hs i))
    (does_at i (Give 0 input.Tick) (course_at c.args.self.now)) (scene_of g.L.Link g.W.Sink c.args.self.now c.args.link.now c.args.out.now)
    (so_at test gs _ i c.is_meant_at.result (c.deref.ensures.value ∙ same) c.is_meant_at.ensures ∙ c.if-is_meant_at.false)
    c.requires.ready
