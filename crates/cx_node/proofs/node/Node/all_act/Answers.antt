use Rattle.cx_node.proofs.Common.{◌≡◌, ◌<◌, [], Ok, Err, length, arith, rules, refl, ap, ◌∙◌, subst, length-map, err_from_is_err_and}
use Rattle.cx_node.proofs.Common.{Cluster, course_at, Acts, failed, scene_of, changing, hosted_in, hosted_of, does_at, acts_nothing}
use Rattle.cx_node.proofs.Common.{blames_then, no_blame}
use Rattle.cx_course.specs.Run.{first_do}
use Rattle.cx_node.proofs.Parts.{next_done, next_stopped}
use Rattle.cx_node.proofs.node.Node.all_act.Goals as goal

pub loop-place-init : goal.loop-place-init
loop-place-init g c =
    record {
      acts =
          acts_nothing (changing g.K.Keeper.append_gives g.K.Renew.renew_gives) c.args.self.now.cluster
          (scene_of g.L.Link g.W.Sink c.args.self.now c.args.link.now c.args.out.now) c.requires.ready;
      blames = no_blame (failed g.L.Link g.W.Sink c.args.link.now c.args.out.now);
      cluster = refl;
      count = search rules;
    }

pub loop-place-preserved : goal.loop-place-preserved
loop-place-preserved g c =
    let l = c.loop-place in
    let s = course_at c.args.self.now in
    let before = scene_of g.L.Link g.W.Sink l.self l.link l.out in
    let now = scene_of g.L.Link g.W.Sink c.act.new.self c.act.new.link c.act.new.out in
    record {
      acts =
          next_done (changing g.K.Keeper.append_gives g.K.Renew.renew_gives) c.args.self.now.cluster c.args.what.now s l.place
          (scene_of g.L.Link g.W.Sink c.args.self.now c.args.link.now c.args.out.now) before now l.invariant.acts
          (subst (λ (cl : Cluster). Acts (changing g.K.Keeper.append_gives g.K.Renew.renew_gives) cl []
          (does_at l.place c.args.what.now (course_at l.self))
          (Ok tt) before now) l.invariant.cluster c.in_ok-act.ensures.acts);
      blames = blames_then (Ok tt) _ _ _ l.invariant.blames c.in_ok-act.ensures.blames;
      cluster = c.in_ok-act.ensures.cluster ∙ l.invariant.cluster;
      count = l.invariant.count;
    }

pub returns-in_err-act-clause-acts : goal.returns-in_err-act-clause-acts
returns-in_err-act-clause-acts g c =
    let l = c.loop-place in
    let s = course_at c.args.self.now in
    let before = scene_of g.L.Link g.W.Sink l.self l.link l.out in
    let now = scene_of g.L.Link g.W.Sink c.act.new.self c.act.new.link c.act.new.out in
    let p = err_from_is_err_and c.from_residual.result c.from_residual.ensures.1 in
    let is : c.from_residual.result ≡ Err c.in_err-act.field-0.0 = p.1 ∙ ap Err p.2 in
    let more : l.place < length (hosted_in c.args.self.now.guests) = omega (
      arith,
      c.loop-place-test.true,
      l.invariant.count,
      length-map c.args.self.now.guests
          (hosted_of {K = g.row.K.Denot}),
    ) in
    rw is (next_stopped (changing g.K.Keeper.append_gives g.K.Renew.renew_gives) c.args.self.now.cluster c.args.what.now s l.place
    c.in_err-act.field-0.0 (scene_of g.L.Link g.W.Sink c.args.self.now c.args.link.now c.args.out.now) before now more l.invariant.acts
    (subst (λ (cl : Cluster). Acts (changing g.K.Keeper.append_gives g.K.Renew.renew_gives) cl []
    (does_at l.place c.args.what.now (course_at l.self))
    (Err c.in_err-act.field-0.0) before now) l.invariant.cluster c.in_err-act.ensures.acts))

pub returns-clause-acts : goal.returns-clause-acts
returns-clause-acts g c =
    let l = c.loop-place in
    let s = course_at c.args.self.now in
    let all : l.place ≡ length (hosted_in c.args.self.now.guests) = omega (
      arith,
      c.loop-place-test.false,
      l.auto.place-end,
      l.invariant.count,
      length-map c.args.self.now.guests
          (hosted_of {K = g.row.K.Denot}),
    ) in
    subst (λ k. Acts (changing g.K.Keeper.append_gives g.K.Renew.renew_gives) c.args.self.now.cluster [] (first_do k c.args.what.now s)
    (Ok tt) (scene_of g.L.Link g.W.Sink c.args.self.now c.args.link.now c.args.out.now)
    (scene_of g.L.Link g.W.Sink l.self l.link l.out)) all l.invariant.acts
