use Rattle.cx_role.proofs.Common.{◌≡◌, ◌∙◌, Bool, true, Result, Err, is_some, refl, sym, ap, subst, inl, names_role}
use Rattle.cx_seat.specs.Prelude.{GivesBack, disks_in, files_of}
use Rattle.cx_node.specs.Hosting.{HostAnswered, Ran, hosting, known_first, store_gives}
use Rattle.cx_node.specs.Acts.{failed, scene_of}
use Rattle.cx_node.specs.Serving.{outside_read, recorded_header}
use Rattle.cx_seat.specs.declared.opening.OpenStop.{OpenStop}
use Rattle.cx_seat.specs.declared.opening.OpenStop.TheVariants as open_stop
use Rattle.cx_node.proofs.ClosedStores.{opened_stays, opened_still, opened_unhosted}
use Rattle.cx_seat.proofs.Lent.{files_same, ok_is_err}
use Rattle.cx_node.proofs.FreshRoles.{recorded_run}
use Rattle.cx_node.proofs.HostedRuns.{host_binding, host_early, host_ran, host_unopened, records_header}
use Rattle.cx_seat.proofs.OpenedRoles.{all_named, distinct_opened, ready_opened}
use Rattle.cx_node.proofs.PlainRuns.{plain_run}
use Rattle.cx_node.proofs.StoredRecords.{rises_still}
use Rattle.cx_seat.proofs.Unused.{NoneIsUsed, all_good, none_holding, none_used}
use Rattle.cx_node.proofs.serving.host.Goals as goal

same_stop : (a b : OpenStop) → ◌≡◌ {A = Result (Unit {0}) OpenStop} (Err a) (Err b) → a ≡ b
same_stop a b e = cc

pub returns-then-not-bind_all-clause-answered : goal.returns-then-not-bind_all-clause-answered
returns-then-not-bind_all-clause-answered g c = λ left left_after reads reads_after.
    let old = outside_read g.L.Link g.D.Depot g.W.Sink left reads c.args.link.now c.args.depot.now c.args.out.now in
    let new = outside_read g.L.Link g.D.Depot g.W.Sink left_after reads_after c.bind_all.new.link c.args.depot.now
    c.args.out.now in
    record {
      did = (
        host_early c.args.tend (recorded_header c.args.recording c.args.header.now) c.args.cluster.now c.args.options
            c.args.events.now c.args.turns c.args.roles.now old new c.bind_all.ensures.part.0 c.bind_all.ensures.part.1 refl
            (λ t i me here durable. refl) (λ me none. (refl, refl)) refl,
        c.bind_all.ensures.failed c.if-not-bind_all.true,
        inl (host_binding c.args.tend (recorded_header c.args.recording c.args.header.now) c.args.cluster.now c.args.options
            c.args.events.now c.args.turns c.args.roles.now old new c.bind_all.ensures.part.0 c.bind_all.ensures.part.1 refl
            (λ t i me here durable. refl) (λ me none. (refl, refl)) refl),
      );
      written = λ no. refl;
      linked = λ no. absurd (no refl);
      good = λ run. absurd run;
      unused = λ run. absurd run;
      stored = λ role no. refl;
    }

pub returns-in_default-clause-answered : goal.returns-in_default-clause-answered
returns-in_default-clause-answered g c = λ left left_after reads reads_after.
    let old = outside_read g.L.Link g.D.Depot g.W.Sink left reads c.args.link.now c.args.depot.now c.args.out.now in
    let new = outside_read g.L.Link g.D.Depot g.W.Sink left_after reads_after c.bind_all.new.link c.args.depot.now
    c.args.out.now in
    record {
      did =
          host_early c.args.tend (recorded_header c.args.recording c.args.header.now) c.args.cluster.now c.args.options
          c.args.events.now c.args.turns c.args.roles.now old new c.bind_all.ensures.part.0 c.bind_all.ensures.part.1 refl
          (λ t i me here durable. refl) (λ me none. (refl, refl)) refl;
      written = λ no. refl;
      linked = λ no. c.bind_all.ensures.still c.if-not-bind_all.false;
      good = λ run. absurd run;
      unused = λ run. absurd run;
      stored = λ role no. refl;
    }

pub open_all-requires-clause-named : goal.open_all-requires-clause-named
open_all-requires-clause-named g c =
    all_named (λ r. names_role c.args.cluster.now r) c.args.roles.now c.requires.named

pub run_behind-requires-clause-ready : goal.run_behind-requires-clause-ready
run_behind-requires-clause-ready g c =
    ready_opened g.D.Store.Disk.seen g.D.Store.Disk.faults c.args.cluster.now c.args.options c.args.events.now
    (g.D.Depot.tells c.args.depot.now)
    (files_of (g.D.Depot.stored c.args.depot.now)) c.args.roles.now c.open_all.new.seats.items
    c.requires.distinct (all_named
    (λ r. names_role c.args.cluster.now r) c.args.roles.now c.requires.named) c.open_all.ensures.opened

pub close_seats-requires-clause-distinct : goal.close_seats-requires-clause-distinct
close_seats-requires-clause-distinct g c =
    distinct_opened g.D.Store.Disk.seen g.D.Store.Disk.faults c.args.cluster.now c.args.options c.args.events.now
    (g.D.Depot.tells c.args.depot.now)
    (files_of (g.D.Depot.stored c.args.depot.now)) c.args.roles.now c.open_all.new.seats.items
    c.requires.distinct c.open_all.ensures.opened

pub returns-in-Ok-open_all-clause-answered : goal.returns-in-Ok-open_all-clause-answered
returns-in-Ok-open_all-clause-answered g c = λ left left_after reads reads_after.
    let disk = g.D.Store.Disk in
    let depot = g.D.Depot in
    let header = recorded_header c.args.recording c.args.header.now in
    let old = outside_read g.L.Link g.D.Depot g.W.Sink left reads c.args.link.now c.args.depot.now c.args.out.now in
    let new = outside_read g.L.Link g.D.Depot g.W.Sink left_after reads_after c.run_behind.new.link
    c.run_behind.new.depot c.run_behind.new.out in
    let run = c.run_behind.ensures.ran in
    let scene_ran = subst (λ (b : Bool). Ran (store_gives disk) c.args.tend c.args.cluster.now c.args.turns c.deref.result.now run.2
    (scene_of g.L.Link g.W.Sink (hosting c.args.cluster.now c.open_all.new.seats.items (known_first b)) c.bind_all.new.link c.args.out.now)
    (scene_of g.L.Link g.W.Sink (hosting c.args.cluster.now run.0 run.1) c.run_behind.new.link c.run_behind.new.out)
    (failed g.L.Link g.W.Sink c.bind_all.new.link c.args.out.now) (failed g.L.Link g.W.Sink c.run_behind.new.link c.run_behind.new.out))
    (sym (records_header c.args.recording c.args.header.now)) run.4 in
    let fresh : is_some header ≡ true → NoneIsUsed c.open_all.new.seats.items = λ is. none_holding c.open_all.new.seats.items
    (c.in-Ok-open_all.ensures.fresh (sym (records_header c.args.recording c.args.header.now) ∙ is)) in
    let ran = subst (λ text. Ran (store_gives disk) c.args.tend c.args.cluster.now c.args.turns text run.2 (scene_of g.L.Link g.W.Sink
    (hosting c.args.cluster.now c.open_all.new.seats.items (known_first (is_some header))) c.bind_all.new.link c.args.out.now)
    (scene_of g.L.Link g.W.Sink (hosting c.args.cluster.now run.0 run.1) c.run_behind.new.link c.run_behind.new.out)
    (failed g.L.Link g.W.Sink c.bind_all.new.link c.args.out.now) (failed g.L.Link g.W.Sink c.run_behind.new.link c.run_behind.new.out))
    (c.deref.ensures.value ∙ c.in-Ok.ensures) scene_ran in
    subst (λ s. HostAnswered c.args.roles.now c.args.tend header c.args.cluster.now c.args.options c.args.events.now
    c.args.turns old new s) (sym run.3)
    (host_ran disk c.args.tend header c.args.cluster.now
    c.args.options c.args.events.now c.args.turns c.args.roles.now old new
    (g.L.Link.history c.bind_all.new.link) (g.L.Link.faults c.bind_all.new.link) (depot.stored c.open_all.new.depot)
    (depot.stored c.run_behind.new.depot) (depot.faults c.open_all.new.depot) c.open_all.new.seats.items run.0 run.1 run.2
    c.requires.distinct c.open_all.ensures.opened c.in-Ok-open_all.ensures.all
    (c.bind_all.ensures.all c.if-not-bind_all.false) (c.bind_all.ensures.still c.if-not-bind_all.false)
    (λ role. c.in-Ok-open_all.ensures.others role (ok_is_err tt (open_stop.StoreFault role)))
    (λ me none. files_same (depot.stored c.args.depot.now) (depot.stored c.open_all.new.depot) me
    (c.open_all.ensures.apart me none).0) (λ me. refl) (c.run_behind.ensures.tells_same ∙ c.open_all.ensures.tells_same) ran
    (subst (λ t. GivesBack disk.seen disk.faults (disks_in run.0) t (depot.stored c.open_all.new.depot)
    (depot.stored c.run_behind.new.depot) (depot.faults c.open_all.new.depot) (depot.faults c.run_behind.new.depot))
    c.open_all.ensures.tells_same run.5)
    (plain_run c.args.tend c.args.cluster.now)
    (λ recovered from is takes. recorded_run disk.seen disk.faults c.args.cluster.now c.args.options c.args.events.now
    (depot.tells c.args.depot.now) (files_of (depot.stored c.args.depot.now)) c.args.roles.now c.open_all.new.seats.items
    c.requires.distinct (all_named (λ r. names_role c.args.cluster.now r) c.args.roles.now c.requires.named)
    c.requires.scripts c.requires.recordable c.requires.some_window c.requires.window
    (record {
      follows = λ tend takes hs fresh. c.recorded_runs_follow.ensures.follows tend c.args.cluster.now takes hs fresh;
      in_flight = λ tend takes hs fresh. c.recorded_runs_follow.ensures.in_flight tend c.args.cluster.now takes hs fresh;
    })
    c.open_all.ensures.opened c.in-Ok-open_all.ensures.all (fresh is) recovered from c.args.tend header is takes)
    (λ is t. none_used disk.seen disk.faults c.args.cluster.now c.args.options c.args.events.now
    (depot.tells c.args.depot.now) (files_of (depot.stored c.args.depot.now)) c.args.roles.now c.open_all.new.seats.items
    c.in-Ok-open_all.ensures.all c.open_all.ensures.opened t (fresh is)))

pub returns-clause-answered : goal.returns-clause-answered
returns-clause-answered g c = λ left left_after reads reads_after.
    let disk = g.D.Store.Disk in
    let depot = g.D.Depot in
    let header = recorded_header c.args.recording c.args.header.now in
    let old = outside_read g.L.Link g.D.Depot g.W.Sink left reads c.args.link.now c.args.depot.now c.args.out.now in
    let new = outside_read g.L.Link g.D.Depot g.W.Sink left_after reads_after c.bind_all.new.link
    c.close_seats.new.depot c.args.out.now in
    let opening = c.open_all.ensures in
    let close = c.close_seats.ensures in
    let back = subst (λ t. GivesBack disk.seen disk.faults (disks_in c.open_all.new.seats.items) t
    (depot.stored c.open_all.new.depot) (depot.stored c.close_seats.new.depot) (depot.faults c.open_all.new.depot)
    (depot.faults c.close_seats.new.depot))
    opening.tells_same close.back in
    let stays = opened_stays disk c.args.cluster.now
    c.args.options c.args.events.now (depot.tells c.args.depot.now) (files_of (depot.stored c.args.depot.now))
    (depot.stored c.open_all.new.depot) (depot.stored c.close_seats.new.depot) (depot.faults c.open_all.new.depot)
    (depot.faults c.close_seats.new.depot) c.args.roles.now c.open_all.new.seats.items
    c.requires.distinct opening.opened back opening.stored in
    let stands = opened_still disk c.args.cluster.now
    c.args.options c.args.events.now (depot.tells c.args.depot.now) (files_of (depot.stored c.args.depot.now))
    (depot.stored c.open_all.new.depot) (depot.stored c.close_seats.new.depot) (depot.faults c.open_all.new.depot)
    (depot.faults c.close_seats.new.depot) c.args.roles.now c.open_all.new.seats.items
    opening.opened back in
    let apart = opened_unhosted disk c.args.cluster.now
    c.args.options c.args.events.now (depot.tells c.args.depot.now) (files_of (depot.stored c.args.depot.now))
    (depot.stored c.open_all.new.depot) (depot.stored c.close_seats.new.depot) (depot.faults c.open_all.new.depot)
    (depot.faults c.close_seats.new.depot) c.args.roles.now c.open_all.new.seats.items opening.opened back in
    let early = host_early c.args.tend header c.args.cluster.now c.args.options c.args.events.now c.args.turns
    c.args.roles.now old new c.bind_all.ensures.part.0 c.bind_all.ensures.part.1 refl stays
    (λ me none. (
      (apart me none).0 ∙ files_same (depot.stored c.args.depot.now) (depot.stored c.open_all.new.depot) me
          (opening.apart me none).0,
      (apart me none).1 ∙ (opening.apart me none).1,
    ))
    (close.tells_same ∙ opening.tells_same) in
    let binding = host_binding c.args.tend header c.args.cluster.now c.args.options c.args.events.now c.args.turns
    c.args.roles.now old new c.bind_all.ensures.part.0 c.bind_all.ensures.part.1 refl stays
    (λ me none. (
      (apart me none).0 ∙ files_same (depot.stored c.args.depot.now) (depot.stored c.open_all.new.depot) me
          (opening.apart me none).0,
      (apart me none).1 ∙ (opening.apart me none).1,
    ))
    (close.tells_same ∙ opening.tells_same) in
    subst (λ s. HostAnswered c.args.roles.now c.args.tend header c.args.cluster.now c.args.options c.args.events.now
    c.args.turns old new s) (sym c.unopened.ensures)
    (host_unopened c.args.tend header c.args.cluster.now c.args.options c.args.events.now c.args.turns c.args.roles.now old
    new c.in-Err.stop early binding
    (λ role e. rises_still (depot.faults c.args.depot.now role) (depot.faults c.open_all.new.depot role)
    (depot.faults c.close_seats.new.depot role) (opening.failed role (c.in-Err.is ∙ ap Err e))
    (close.back.later role))
    (λ role at e t. opening.bad role at (c.in-Err.is ∙ ap Err e) t)
    (λ role e. let used = opening.used role (c.in-Err.is ∙ ap Err e) in
    (records_header c.args.recording c.args.header.now ∙ used.0, refl, used.2))
    (λ role e. let used = opening.used role (c.in-Err.is ∙ ap Err e) in
    all_good disk.seen disk.faults c.args.cluster.now c.args.options c.args.events.now (depot.tells c.args.depot.now)
    (files_of (depot.stored c.args.depot.now)) c.args.roles.now c.open_all.new.seats.items used.1 opening.opened)
    (λ role no. stands role ∙ opening.others role
    (λ e. no (same_stop c.in-Err.stop (open_stop.StoreFault role) (sym c.in-Err.is ∙ e)))) refl
    (c.bind_all.ensures.still c.if-not-bind_all.false))
