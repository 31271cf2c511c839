use Rattle.std.proofs.Common.{rules}
use Rattle.cx_world.proofs.Standing.{whole_there, woke}
use Rattle.cx_world.proofs.seat.Seat.wake.Goals as goal

pub invariant_of-self-2 : goal.invariant_of-self-2
invariant_of-self-2 g c =
    let i = c.self.inside in
    let whole = whole_there g.R.Role.rules i.cluster i.me i.keeper (g.R.Role.state c.in-Some.role) (search rules) in
    woke g.R.Role.rules g.R.Role.state i.cluster i.me i.keeper i.role i.runs c.self.invariant whole c.in_ok-role.role c.in_ok-role.ensures
