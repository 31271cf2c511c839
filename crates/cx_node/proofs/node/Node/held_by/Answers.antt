use Rattle.cx_node.proofs.Common.{◌≡◌, ◌<◌, Some, length, get_or, slice_get, arith, refl, sym, ap, ◌∙◌, slice_get_read, hosted_in}
use Rattle.cx_node.proofs.Common.{NodeState, hosted_place, place_within}
use Rattle.cx_node.proofs.Tended.{held_none, held_some}
use Rattle.cx_node.proofs.node.Node.held_by.Goals as goal

pub returns-in_default : goal.returns-in_default
returns-in_default g c = held_none c.args.self.now.guests c.args.role (sym c.find.ensures ∙ c.in_default.is)

pub index-requires : goal.index-requires
index-requires g c =
    let same = ap (λ (s : NodeState g.row.K.Denot). s.guests) c.self.view_is in
    let inside : c.in-Some.place < length c.args.self.now.guests =
    place_within c.args.role c.args.self.now.guests c.in-Some.place (sym c.find.ensures ∙ c.in-Some.is) in
    omega (arith, inside, ap length same, c.self.inside.seats.ok.0)

pub returns : goal.returns
returns g c =
    let gs = c.args.self.now.guests in
    let hs = hosted_in gs in
    let same = ap (λ (s : NodeState g.row.K.Denot). s.guests) c.self.view_is in
    let i = c.in-Some.place in
    let h = c.index.result.now in
    let found : hosted_place c.args.role hs ≡ Some i = sym c.find.ensures ∙ c.in-Some.is in
    let inside : i < length gs = place_within c.args.role gs i found in
    let here : slice_get gs i ≡ Some h = slice_get_read gs (length gs) i h refl inside (c.index.ensures ∙ ap (λ xs. get_or xs i h) same) in
    c.held.ensures ∙ held_some gs c.args.role i h found here
