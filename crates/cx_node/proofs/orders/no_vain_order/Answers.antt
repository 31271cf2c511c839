use Rattle.cx_node.proofs.Vain.{no_vain}
use Rattle.cx_node.proofs.orders.no_vain_order.Goals as goal

pub returns : goal.returns
returns c = no_vain
