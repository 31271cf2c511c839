use Rattle.cx_model.specs.Prelude.{LeaderDurable, LeaderVolatile, Running}
use Rattle.cx_seat.specs.Prelude.{can_collect, is_leader_so}
use Rattle.cx_node.proofs.Common.{◌≡◌, ◌<◌, Some, length, get_or, slice_get, arith, refl, sym, ap, ◌∙◌, slice_get_read, role, hosted_in}
use Rattle.cx_node.proofs.Common.{NodeState, hosted_place, place_within, first_none, first_some}
use Rattle.cx_base.specs.declared.role.Kind.TheVariants as kind
use Rattle.cx_node.proofs.node.Node.can_collect.Goals as goal

pub returns-in_default : goal.returns-in_default
returns-in_default g c =
    sym (ap (is_leader_so (λ (l : Running LeaderDurable LeaderVolatile). can_collect l.volatile)) (first_none c.args.self.now.guests
    (ap (λ r. hosted_place r (hosted_in c.args.self.now.guests)) (sym c.first_name.ensures) ∙ sym c.find.ensures ∙ c.in_default.is)))

pub index-requires : goal.index-requires
index-requires g c =
    let same = ap (λ (s : NodeState g.row.K.Denot). s.guests) c.self.view_is in
    let inside : c.in-Some.place < length c.args.self.now.guests =
    place_within c.first_name.result c.args.self.now.guests c.in-Some.place (sym c.find.ensures ∙ c.in-Some.is) in
    omega (arith, inside, ap length same, c.self.inside.seats.ok.0)

pub returns : goal.returns
returns g c =
    let gs = c.args.self.now.guests in
    let hs = hosted_in gs in
    let same = ap (λ (s : NodeState g.row.K.Denot). s.guests) c.self.view_is in
    let i = c.in-Some.place in
    let h = c.index.result.now in
    let found : hosted_place (role kind.Leader 0) hs ≡ Some i =
    ap (λ r. hosted_place r hs) (sym c.first_name.ensures) ∙ sym c.find.ensures ∙ c.in-Some.is in
    let inside : i < length gs = place_within (role kind.Leader 0) gs i found in
    let here : slice_get gs i ≡ Some h = slice_get_read gs (length gs) i h refl inside (c.index.ensures ∙ ap (λ xs. get_or xs i h) same) in
    c.can_collect.ensures
    ∙ ap (is_leader_so (λ (l : Running LeaderDurable LeaderVolatile). can_collect l.volatile)) (sym (first_some gs i h found here))
