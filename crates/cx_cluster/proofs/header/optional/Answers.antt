use Rattle.std.proofs.Math.Decide.{dec_le}
use Rattle.std.proofs.Common.{◌≤◌, arith}
use Rattle.cx_cluster.proofs.Numbers.{of_tests}
use Rattle.cx_cluster.proofs.header.optional.Goals as goal

pub returns-in-None : goal.returns-in-None
returns-in-None c =
    let least : c.args.low ≤ c.args.low = omega arith in
    rw (← c.member.ensures, c.in-None.is)
    (of_tests c.args.key c.args.low c.args.high c.args.low least c.requires (dec_le c.args.low c.args.low) (dec_le c.args.low c.args.high))
