use Rattle.cx_base.proofs.Common.{◌≡◌, Err, ap, ◌∙◌, err_from_is_err_and}
use Rattle.cx_seat.proofs.Ends.{snap_ends}
use Rattle.cx_seat.proofs.seat.snap.Goals as goal

pub returns-in_err-snap-clause-step : goal.returns-in_err-snap-clause-step
returns-in_err-snap-clause-step g c =
    let p = err_from_is_err_and c.from_residual.result c.from_residual.ensures.1 in
    let is : c.from_residual.result ≡ Err c.in_err-snap.field-0.0 = p.1 ∙ ap Err p.2 in
    rw (is, c.in-Replica.is)
    (snap_ends g.K.Keeper.append_gives g.K.Renew.renew_gives g.K.Keeper.tells c.in-Replica.keeper c.snap.new.keeper
    c.snap.new._out.list c.in-Replica.role c.snap.new.self c.in_err-snap.field-0.0 c.in_err-snap.ensures.snaps)
