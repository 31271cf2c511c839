use Rattle.cx_inv_open.proofs.Begins.{each_begins_once}
use Rattle.cx_inv_open.proofs.matchmakers_begin_once.Goals as goal

pub returns : goal.returns
returns g = each_begins_once
