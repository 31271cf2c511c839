use Rattle.std.proofs.Common.{sym}
use Rattle.cx_node.proofs.Parts.{none_read}
use Rattle.cx_node.proofs.turning.spelled.Goals as goal

pub returns-in_default : goal.returns-in_default
returns-in_default c = sym (none_read c.args.bytes.now c.in-Err.fault c.in_default.not-NoMemory c.in-Err.ensures.exact)
