use Rattle.cx_node.proofs.Common.{ap, ◌∙◌, list_all, list_any, Guest, hosted_of, NodeState, is_client}
use Rattle.cx_course.specs.Run.{has_finished}
use Rattle.cx_node.proofs.Places.{finished_there, none_there}
use Rattle.cx_node.proofs.node.Node.has_finished.Goals as goal

pub returns-then-any_client : goal.returns-then-any_client
returns-then-any_client g c =
    let same = ap (λ (s : NodeState g.row.K.Denot). s.guests) c.self.view_is in
    finished_there c.args.self.now.guests c.all_finished.result
    (c.if-any_client.ensures ∙ ap (list_any (λ (guest : Guest g.row.K.Denot). is_client (hosted_of guest)))
    (c.deref.ensures.value ∙ same))
    (c.all_finished.ensures ∙ ap (list_all (λ (guest : Guest g.row.K.Denot). has_finished (hosted_of guest)))
    (c.deref-then-any_client.ensures.value ∙ same))

pub returns-else-any_client : goal.returns-else-any_client
returns-else-any_client g c =
    let same = ap (λ (s : NodeState g.row.K.Denot). s.guests) c.self.view_is in
    none_there c.args.self.now.guests c.any_client.result c.if-any_client.false
    (c.any_client.ensures ∙ ap (list_any (λ (guest : Guest g.row.K.Denot). is_client (hosted_of guest)))
    (c.deref.ensures.value ∙ same))
