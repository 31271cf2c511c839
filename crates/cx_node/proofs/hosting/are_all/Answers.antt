use Rattle.std.proofs.Common.{◌∙◌}
use Rattle.cx_node.proofs.AllRoles.{all_kinds}
use Rattle.cx_node.proofs.hosting.are_all.Goals as goal

pub returns : goal.returns
returns c = c.have_kinds.ensures ∙ all_kinds c.args.cluster.now c.args.roles.now
