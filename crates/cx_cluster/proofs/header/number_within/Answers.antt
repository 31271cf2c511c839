use Rattle.std.proofs.Common.{rules}
use Rattle.std.proofs.lemmas.Int.{to_z-of_z}
use mir.Val.{SFits}
use mir.Syntax.{w64}
use Rattle.cx_cluster.proofs.Numbers.{in_range}
use Rattle.cx_cluster.proofs.header.number_within.Goals as goal

pub returns-in-Ok : goal.returns-in-Ok
returns-in-Ok c =
    let fits : SFits w64 c.args.number = search rules in
    let given = rw (to_z-of_z w64 c.args.number fits) at c.in-Ok.ensures in
    in_range c.args.key c.args.low c.args.high c.args.number c.in-Ok.small given.0 given.1 c.if-low-small.true c.if-small-high.true
