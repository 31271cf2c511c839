use Rattle.cx_inv_run.proofs.Common.{[], refl, ap, subst, start}
use Rattle.cx_role.specs.Outbox.{Outgoing}
use Rattle.cx_world.specs.World.{HasSeats, lists_of}
use Rattle.cx_world.proofs.Seats.{states_are}
use Rattle.cx_world.proofs.Steps.{same_start}
use Rattle.cx_world.proofs.world.World.new.Goals as goal

pub invariant_of-result : goal.invariant_of-result
invariant_of-result c =
    let cluster = c.args.cluster in
    let lists = lists_of c.in_ok-seats.seats in
    let has = c.in_ok-seats.ensures in
    λ _. rw (c.new.ensures, c.new-2.ensures, c.new-3.ensures) (record {
      out = ap (λ (out : Outgoing). out.list) c.new-5.ensures;
      seats = subst (λ r. HasSeats cluster r [] lists) (states_are cluster (start cluster).roles [] lists has) has;
      hears = λ client. c.new-4.ensures client;
      hears_sent = refl;
      ran = same_start cluster lists has;
      taken = refl;
    })

pub returns-clause-world : goal.returns-clause-world
returns-clause-world c =
    rw (c.new.ensures, c.new-2.ensures, c.new-3.ensures) (same_start c.args.cluster (lists_of c.in_ok-seats.seats) c.in_ok-seats.ensures)
