use Rattle.cx_role.proofs.Own.{own_open}
use Rattle.cx_role.proofs.law.own_records_open.Goals as goal

pub returns : goal.returns
returns g c cluster me records more none fit = own_open g.R.Role.rules cluster me records more none fit
