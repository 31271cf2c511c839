use Rattle.cx_field.proofs.RangeLaws.{name_in_range}
use Rattle.cx_field.proofs.ranges.name_fits.Goals as goal

pub returns : goal.returns
returns g c = name_in_range g.row.N c.args.name.now c.requires c.as_bytes-bytes.ensures.name
