use Rattle.cx_node.proofs.Common.{sym, ◌∙◌, place_within}
use Rattle.cx_node.proofs.node.Node.act_named.Goals as goal

pub act-requires-clause-place : goal.act-requires-clause-place
act-requires-clause-place g c =
    place_within c.args.role c.args.self.now.guests c.in-Some.place (sym c.find.ensures ∙ c.in-Some.is)
