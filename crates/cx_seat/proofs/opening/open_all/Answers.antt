use Rattle.cx_role.proofs.Common.{◌≡◌, ◌∙◌, ap, sym, Result, Err, Some, RoleId}
use Rattle.cx_seat.specs.Prelude.{first_holding, files_of}
use Rattle.cx_seat.specs.declared.opening.OpenStop.{OpenStop}
use Rattle.cx_seat.specs.declared.opening.OpenStop.TheVariants as open_stop
use Rattle.cx_seat.proofs.Lent.{ok_is_err}
use Rattle.cx_seat.proofs.Unused.{first_used}
use Rattle.cx_seat.proofs.opening.open_all.Goals as goal

same_role : {T : Type 0} (a b : RoleId) → ◌≡◌ {A = Result T OpenStop} (Err (open_stop.NotFresh a)) (Err (open_stop.NotFresh b)) → a ≡ b
same_role a b e = cc

pub returns-in-Some-clause-used : goal.returns-in-Some-clause-used
returns-in-Some-clause-used g c = λ role e. (
  c.if-recording.true,
  c.in-Ok.ensures.all,
  λ t. first_used g.D.Store.Disk.seen g.D.Store.Disk.faults c.args.cluster.now c.args.options c.args.events.now
      (g.D.Depot.tells c.args.depot.now) (files_of (g.D.Depot.stored c.args.depot.now)) c.args.roles.now c.open_seats.new.seats.items
      c.in-Ok.ensures.all c.open_seats.ensures.opened t role
      (ap first_holding (sym c.deref.ensures.value) ∙ sym c.first_used.ensures ∙ c.in-Some.is ∙ ap Some (same_role _ _ e)),
)

pub returns-in-Some-clause-others : goal.returns-in-Some-clause-others
returns-in-Some-clause-others g c = λ who no. c.in-Ok.ensures.others who (ok_is_err tt (open_stop.StoreFault who))
