use Rattle.cx_role.proofs.Common.{◌≡◌, true, rules, if◌then◌else◌, None}
use Rattle.cx_world.specs.LastKeeper.{list_kept}
use Rattle.cx_world.proofs.Standing.{seen}
use Rattle.cx_world.proofs.Snapping.{rests}
use Rattle.cx_world.proofs.seat.Seat.rest.Goals as goal

pub returns : goal.returns
returns g c =
    let i = c.self.inside in
    let runs : i.runs ≡ true = search rules in
    let up = c.self.invariant.up runs in
    let rested = rests g.R.Role.rules c.requires g.R.Role.state
    (record { cluster = i.cluster; me = i.me; role = if i.runs then i.role else None; records = list_kept i.keeper })
    c.args.cut up.0 (seen i.runs i.role up.0 runs up.1) in
    rw (← c.self.view_is) rested
