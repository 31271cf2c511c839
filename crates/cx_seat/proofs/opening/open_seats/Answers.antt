use Rattle.std.proofs.lemmas.Option.{slice_get-get_or}
use Rattle.cx_role.proofs.Common.{◌≡◌, ◌∙◌, length, length-append, slice_get, slice_index_or, Some, Result, Err, sym, ap, subst, refl}
use Rattle.cx_role.proofs.Common.{err_from_is_err_and, RoleId}
use Rattle.cx_seat.specs.Prelude.{shelf, Files, name_of, IsBadAs, files_of}
use Rattle.cx_base.specs.declared.role.Kind.TheVariants as kind
use Rattle.cx_base.specs.Role.{role as a_role}
use Rattle.cx_seat.proofs.FirstBad.{first_bad}
use Rattle.cx_seat.proofs.Lent.{files_same, lent_append, next_in_depot, ok_is_err, opened_more, same_records}
use Rattle.cx_seat.proofs.OpenedRoles.{name_opened}
use Rattle.cx_seat.specs.declared.opening.OpenStop.{OpenStop}
use Rattle.cx_seat.specs.declared.opening.OpenStop.TheVariants as open_stop
use Rattle.cx_seat.specs.Opening.{NoneIsOut}
use Rattle.cx_seat.proofs.opening.open_seats.Goals as goal

same_stop : {T : Type 0} (a b : OpenStop) → ◌≡◌ {A = Result T OpenStop} (Err a) (Err b) → a ≡ b
same_stop a b e = cc

pub open_guest-requires-clause-in_depot : goal.open_guest-requires-clause-in_depot
open_guest-requires-clause-in_depot g c =
    let before = c.loop-role.invariant in
    let me : RoleId = slice_index_or c.args.roles.now c.loop-role.role-index (a_role kind.Client 0) in
    let next : slice_get c.args.roles.now (length c.loop-role.seats.items) ≡ Some me =
    subst (λ n. slice_get c.args.roles.now n ≡ Some me) (sym before.size)
    (slice_get-get_or c.args.roles.now c.loop-role.role-index (a_role kind.Client 0) c.loop-role-test.true) in
    subst (NoneIsOut me) (sym before.out)
    (next_in_depot g.D.Store.Disk.seen g.D.Store.Disk.faults c.args.cluster.now c.args.options c.args.events.now
    (g.D.Depot.tells c.args.depot.now)
    (files_of (g.D.Depot.stored c.args.depot.now)) c.args.roles.now c.loop-role.seats.items me
    next before.opened c.requires.distinct)

pub new-requires : goal.new-requires
new-requires g c =
    let me : RoleId = slice_index_or c.args.roles.now c.loop-role.role-index (a_role kind.Client 0) in
    let opened = c.in_ok-guest.ensures.opened in
    sym (ap (λ h. name_of h) opened.hosted ∙ name_opened c.args.cluster.now c.args.options c.args.events.now me opened.records me.kind)

pub loop-role-preserved : goal.loop-role-preserved
loop-role-preserved g c =
    let before = c.loop-role.invariant in
    let me : RoleId = slice_index_or c.args.roles.now c.loop-role.role-index (a_role kind.Client 0) in
    let next : slice_get c.args.roles.now (length c.loop-role.seats.items) ≡ Some me =
    subst (λ n. slice_get c.args.roles.now n ≡ Some me) (sym before.size)
    (slice_get-get_or c.args.roles.now c.loop-role.role-index (a_role kind.Client 0) c.loop-role-test.true) in
    let opened = rw (before.tells_same, before.stored (shelf me 0), before.stored (shelf me 1)) at c.in_ok-guest.ensures.opened in
    let lends = c.in_ok-guest.ensures.lends in
    record {
      opened = rw (c.push_reserved.ensures.items, c.reserve.ensures.items, c.new.ensures)
          (opened_more g.D.Store.Disk.seen g.D.Store.Disk.faults c.args.cluster.now c.args.options c.args.events.now
          (g.D.Depot.tells c.args.depot.now)
          (files_of (g.D.Depot.stored c.args.depot.now)) c.args.roles.now c.loop-role.seats.items me
          next before.opened c.in_ok-guest.guest opened);
      size = rw (c.push_reserved.ensures.items, c.reserve.ensures.items, length-append, before.size) refl;
      out =
          lends.out
          ∙ rw (before.out, c.push_reserved.ensures.items, c.reserve.ensures.items, c.new.ensures, lent_append)
          refl;
      tells_same = lends.tells_same ∙ before.tells_same;
      stored = λ place. lends.stays place ∙ before.stored place;
      still = λ who. lends.others who (ok_is_err c.in_ok-guest.guest (open_stop.StoreFault who)) ∙ before.still who;
    }

pub returns-in_err-guest-clause-stored : goal.returns-in_err-guest-clause-stored
returns-in_err-guest-clause-stored g c = λ tells who.
    let before = c.loop-role.invariant in
    c.open_guest.ensures.lends.stored (before.tells_same ∙ tells) who ∙ same_records _ _ before.stored who

pub returns-in_err-guest-clause-bad : goal.returns-in_err-guest-clause-bad
returns-in_err-guest-clause-bad g c = λ role at e tells.
    let before = c.loop-role.invariant in
    let me : RoleId = slice_index_or c.args.roles.now c.loop-role.role-index (a_role kind.Client 0) in
    let p = err_from_is_err_and c.from_residual.result c.from_residual.ensures.1 in
    let is : ◌≡◌ {A = OpenStop} c.in_err-guest.field-0.0 (open_stop.BadStore role at) = same_stop _ _
    (sym (p.1 ∙ ap Err p.2) ∙ e) in
    let own : role ≡ me = c.in_err-guest.ensures.own role at (ap Err is) in
    let next : slice_get c.args.roles.now (length c.loop-role.seats.items) ≡ Some role =
    subst (λ n. slice_get c.args.roles.now n ≡ Some role) (sym before.size)
    (slice_get-get_or c.args.roles.now c.loop-role.role-index (a_role kind.Client 0) c.loop-role-test.true
    ∙ ap Some (sym own)) in
    first_bad g.D.Store.Disk.seen g.D.Store.Disk.faults c.args.cluster.now c.args.options c.args.events.now
    (g.D.Depot.tells c.args.depot.now) (files_of (g.D.Depot.stored c.args.depot.now)) c.args.roles.now
    c.loop-role.seats.items
    before.opened tells role at next
    (subst (λ (files : Files). IsBadAs c.args.cluster.now role files at role.kind)
    (files_same (g.D.Depot.stored c.args.depot.now) (g.D.Depot.stored c.loop-role.depot) role
    (λ side. before.stored (shelf role side)))
    (c.in_err-guest.ensures.bad role at (ap Err is) (before.tells_same ∙ tells)))

pub returns-in_err-guest-clause-apart : goal.returns-in_err-guest-clause-apart
returns-in_err-guest-clause-apart g c = λ who none.
    let before = c.loop-role.invariant in
    let me : RoleId = slice_index_or c.args.roles.now c.loop-role.role-index (a_role kind.Client 0) in
    let here : slice_get c.args.roles.now c.loop-role.role-index ≡ Some me = slice_get-get_or c.args.roles.now
    c.loop-role.role-index (a_role kind.Client 0) c.loop-role-test.true in
    let stays = c.open_guest.ensures.lends.apart who (λ e. none c.loop-role.role-index (here ∙ ap Some (sym e))) in
    (λ side. stays.0 side ∙ before.stored (shelf who side), stays.1 ∙ before.still who)
