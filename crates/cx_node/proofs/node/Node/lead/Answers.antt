use Rattle.cx_seat.specs.Prelude.{Give, grid_of, idle_at}
use Rattle.cx_node.proofs.Common.{◌≡◌, ◌<◌, [], Some, None, length, get_or, slice_get, arith, refl, sym, ap, ◌∙◌, subst, slice_get_read}
use Rattle.cx_node.proofs.Common.{role, Acts, scene_of, changing, hosted_in, NodeState, course_at, does_at, hosted_place, place_within}
use Rattle.cx_base.specs.Grid.{Shape}
use Rattle.cx_base.specs.declared.event.Order.TheVariants as order
use Rattle.cx_base.specs.declared.role.Kind.TheVariants as kind
use Rattle.cx_letter.specs.declared.input.Input.TheVariants as input
use Rattle.cx_node.proofs.Parts.{lead_busy, lead_idle, lead_none}
use Rattle.cx_node.proofs.SeatedActs.{hosted_at}
use Rattle.cx_node.proofs.node.Node.lead.Goals as goal

pub returns-in_default-clause-acts : goal.returns-in_default-clause-acts
returns-in_default-clause-acts g c =
    let hs = hosted_in c.args.self.now.guests in
    let found : hosted_place (role kind.Leader 0) hs ≡ None = ap (λ r. hosted_place r hs) (sym c.new.ensures)
    ∙ sym c.find.ensures ∙ c.in_default.is in
    lead_none (changing g.K.Keeper.append_gives g.K.Renew.renew_gives) c.args.self.now.cluster (hosted_place (role kind.Leader 0) hs)
    (scene_of g.L.Link g.W.Sink c.args.self.now c.args.link.now c.args.out.now) found c.requires.ready

pub index-requires : goal.index-requires
index-requires g c =
    let same = ap (λ (s : NodeState g.row.K.Denot). s.guests) c.self.view_is in
    let inside : c.in-Some.place < length c.args.self.now.guests = place_within c.new.result c.args.self.now.guests
    c.in-Some.place (sym c.find.ensures ∙ c.in-Some.is) in
    omega (arith, inside, ap length same, c.self.inside.seats.ok.0)

pub returns-then-not-is_idle_leader-clause-acts : goal.returns-then-not-is_idle_leader-clause-acts
returns-then-not-is_idle_leader-clause-acts g c =
    let gs = c.args.self.now.guests in
    let hs = hosted_in gs in
    let same = ap (λ (s : NodeState g.row.K.Denot). s.guests) c.self.view_is in
    let i = c.in-Some.place in
    let h = c.index.result.now in
    let found : hosted_place (role kind.Leader 0) hs ≡ Some i = ap (λ r. hosted_place r hs) (sym c.new.ensures)
    ∙ sym c.find.ensures ∙ c.in-Some.is in
    let inside : i < length gs = place_within (role kind.Leader 0) gs i found in
    let here : slice_get gs i ≡ Some h = slice_get_read gs (length gs) i h refl inside
    (c.index.ensures ∙ ap (λ xs. get_or xs i h) same) in
    lead_busy (changing g.K.Keeper.append_gives g.K.Renew.renew_gives) c.args.self.now.cluster (hosted_place (role kind.Leader 0) hs) i
    (scene_of g.L.Link g.W.Sink c.args.self.now c.args.link.now c.args.out.now) found
    (ap idle_at (hosted_at gs i h here) ∙ sym c.is_idle_leader.ensures
    ∙ c.if-not-is_idle_leader.true) c.requires.ready

pub act-requires-clause-place : goal.act-requires-clause-place
act-requires-clause-place g c =
    place_within c.new.result c.args.self.now.guests c.in-Some.place (sym c.find.ensures ∙ c.in-Some.is)

pub returns-clause-acts : goal.returns-clause-acts
returns-clause-acts g c =
    let gs = c.args.self.now.guests in
    let hs = hosted_in gs in
    let same = ap (λ (s : NodeState g.row.K.Denot). s.guests) c.self.view_is in
    let same_cluster = ap (λ (s : NodeState g.row.K.Denot). s.cluster) c.self.view_is in
    let i = c.in-Some.place in
    let h = c.index.result.now in
    let found : hosted_place (role kind.Leader 0) hs ≡ Some i = ap (λ r. hosted_place r hs) (sym c.new.ensures)
    ∙ sym c.find.ensures ∙ c.in-Some.is in
    let inside : i < length gs = place_within (role kind.Leader 0) gs i found in
    let here : slice_get gs i ≡ Some h = slice_get_read gs (length gs) i h refl inside
    (c.index.ensures ∙ ap (λ xs. get_or xs i h) same) in
    lead_idle (changing g.K.Keeper.append_gives g.K.Renew.renew_gives) c.args.self.now.cluster (hosted_place (role kind.Leader 0) hs) i
    c.act.result (scene_of g.L.Link g.W.Sink c.args.self.now c.args.link.now c.args.out.now)
    (scene_of g.L.Link g.W.Sink c.act.new.self c.act.new.link c.act.new.out) found
    (ap idle_at (hosted_at gs i h here) ∙ sym c.is_idle_leader.ensures ∙ c.if-not-is_idle_leader.false)
    (subst (λ (s : Shape). Acts (changing g.K.Keeper.append_gives g.K.Renew.renew_gives) c.args.self.now.cluster []
    (does_at i (Give 0 (input.Order (order.Lead s))) (course_at c.args.self.now)) c.act.result
    (scene_of g.L.Link g.W.Sink c.args.self.now c.args.link.now c.args.out.now)
    (scene_of g.L.Link g.W.Sink c.act.new.self c.act.new.link c.act.new.out))
    (c.first_grid.ensures ∙ ap grid_of same_cluster) c.act.ensures.acts)
