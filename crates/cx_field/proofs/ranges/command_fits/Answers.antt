use Rattle.cx_field.proofs.RangeLaws.{command_in_range}
use Rattle.cx_field.proofs.ranges.command_fits.Goals as goal

pub returns : goal.returns
returns c = command_in_range c.args.command.now c.numbers_fit.ensures.client c.numbers_fit.ensures.number c.requires c.op_fits.ensures
