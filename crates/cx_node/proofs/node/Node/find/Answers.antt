use Rattle.std.proofs.Common.{position}
use Rattle.cx_node.proofs.Common.{ap, ◌∙◌, same_role, Guest, NodeState}
use Rattle.cx_seat.specs.Guest.{who}
use Rattle.cx_node.proofs.Places.{place_is}
use Rattle.cx_node.proofs.node.Node.find.Goals as goal

pub returns : goal.returns
returns g c =
    c.place_in.ensures
    ∙ ap (position (λ (guest : Guest g.row.K.Denot). same_role c.args.role (who guest)))
    (c.deref.ensures.value ∙ ap (λ (s : NodeState g.row.K.Denot). s.guests) c.self.view_is)
    ∙ place_is c.args.role c.args.self.now.guests
