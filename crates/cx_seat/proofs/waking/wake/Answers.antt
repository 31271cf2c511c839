use Rattle.cx_role.proofs.Common.{◌≡◌, ◌+◌, length, Some, arith, rules, refused}
use Rattle.cx_seat.proofs.RefusedPlace.{refused_within}
use Rattle.cx_seat.proofs.waking.wake.Goals as goal

pub place-at-requires : goal.place-at-requires
place-at-requires g c =
    let at : refused g.R.Role.rules c.args.cluster.now c.args.me c.in-Ok.records.items ≡ Some
    c.in-Err-Record.index = search rules in
    let within = refused_within g.R.Role.rules c.args.cluster.now c.args.me c.in-Ok.records.items
    c.in-Err-Record.index at in
    let many : length c.in-Ok.journal.gates ≡ length c.in-Ok.records.items + 1 = search rules in
    omega (arith, within, many)
