use Rattle.std.proofs.Common.{◌∙◌, ap}
use Rattle.cx_seat.specs.Prelude.{shelf, unwoken_stop}
use Rattle.cx_edge.proofs.ShelfLaws.{without_last}
use Rattle.cx_seat.proofs.Lending.{apart_closed, apart_opened, apart_then, lends_none}
use Rattle.cx_seat.proofs.Lent.{one_stays}
use Rattle.cx_seat.proofs.opening.open_durable.Goals as goal

pub returns-in-Err-clause-lends : goal.returns-in-Err-clause-lends
returns-in-Err-clause-lends g c =
    let lent = c.in-Ok.ensures in
    let back = c.close.ensures in
    lends_none g.D.Depot c.args.me _ c.unwoken.result c.args.depot.now c.close.new.self
    (apart_then g.D.Depot c.args.me c.args.depot.now c.open.new.self c.close.new.self
    (apart_opened g.D.Depot c.args.me _ _ lent.tells_same lent.stored lent.later lent.others)
    (apart_closed g.D.Depot c.args.me 0 _ _ back.tells_same back.others_stored back.later back.others))
    (rw (back.out, lent.out) (without_last (shelf c.args.me 0) (g.D.Depot.out c.args.depot.now) (c.requires.in_depot 0)))
    (λ t. one_stays g.D.Store.Disk.seen c.args.me (g.D.Depot.stored c.args.depot.now) (g.D.Depot.stored c.close.new.self)
    c.in-Ok.store c.in-Err.store c.requires.one (lent.seen t) c.in-Err.ensures.tells c.in-Err.ensures.same
    (back.stored (lent.tells_same ∙ t)))
    (λ none. back.still (c.in-Err.ensures.still (λ failed. none (c.unwoken.ensures.stop ∙ ap (unwoken_stop c.args.me) failed))
    ∙ lent.fresh) ∙ lent.still c.args.me)
