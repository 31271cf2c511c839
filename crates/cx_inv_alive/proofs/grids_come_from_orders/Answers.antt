use Rattle.cx_inv_alive.proofs.OrderedGrids.{grids_come_from_orders}
use Rattle.cx_inv_alive.proofs.grids_come_from_orders.Goals as goal

pub returns : goal.returns
returns g = grids_come_from_orders
