use Rattle.cx_node.proofs.Common.{ap, ◌∙◌, list_any, Guest, hosted_of, NodeState, is_client}
use Rattle.cx_node.proofs.Places.{any_hosted}
use Rattle.cx_node.proofs.node.Node.has_client.Goals as goal

pub returns : goal.returns
returns g c =
    c.any_client.ensures
    ∙ ap (list_any (λ (guest : Guest g.row.K.Denot). is_client (hosted_of guest)))
    (c.deref.ensures.value ∙ ap (λ (s : NodeState g.row.K.Denot). s.guests) c.self.view_is)
    ∙ any_hosted is_client c.args.self.now.guests
