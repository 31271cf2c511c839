use Rattle.cx_role.proofs.Common.{◌≡◌, true, Err, None, ap, rules, if◌then◌else◌}
use Rattle.cx_role.specs.Prelude.{snap_of}
use Rattle.cx_world.specs.LastKeeper.{LastState, list_kept}
use Rattle.cx_world.proofs.Standing.{here, knows, seen}
use Rattle.cx_world.proofs.Snapping.{refused_snap, snap_failed, snap_fell, snap_turned, snapped}
use Rattle.cx_world.proofs.seat.Seat.snap.Goals as goal

pub invariant_of-self : goal.invariant_of-self
invariant_of-self g c =
    let i = c.self.inside in
    snapped g.R.Role.rules g.R.Role.state i.cluster i.me i.keeper i.role i.runs c.self.invariant (search rules) c.in-Some.role
    c.in-Some.is
    (snap_of g.R.Role.rules (g.R.Role.state c.in-Some.role)) c.in-Ok.ensures.fits c.in-Ok.why c.cut.new.self c.snap.new.keeper
    c.snap.new.self _ (ap list_kept c.cut.ensures) c.in-Ok.ensures.snaps.ok

pub invariant_of-self-in-Ok : goal.invariant_of-self-in-Ok
invariant_of-self-in-Ok g c =
    let i = c.self.inside in
    snapped g.R.Role.rules g.R.Role.state i.cluster i.me i.keeper i.role i.runs c.self.invariant (search rules) c.in-Some.role
    c.in-Some.is
    (snap_of g.R.Role.rules (g.R.Role.state c.in-Some.role)) c.in-Ok.ensures.fits c.in-Ok.why c.cut.new.self c.snap.new.keeper
    c.snap.new.self _ (ap list_kept c.cut.ensures) c.in-Ok.ensures.snaps.ok

pub invariant_of-self-in-Err-NoMemory : goal.invariant_of-self-in-Err-NoMemory
invariant_of-self-in-Err-NoMemory g c =
    let i = c.self.inside in
    refused_snap g.R.Role.rules g.R.Role.state i.cluster i.me i.keeper i.role i.runs c.self.invariant (search rules)
    c.in-Some.role c.in-Some.is c.cut.new.self c.snap.new.keeper c.snap.new.self _ (ap list_kept c.cut.ensures)
    (c.in-Err-NoMemory.ensures.snaps.no_memory (ap Err c.in-Err-NoMemory.field-0-is))

pub invariant_of-self-in_err-kept-in-Err-Failed : goal.invariant_of-self-in_err-kept-in-Err-Failed
invariant_of-self-in_err-kept-in-Err-Failed g c =
    let i = c.self.inside in
    let failed = ap Err c.in-Err-Failed.field-0-is in
    let fails = c.in-Err-Failed.ensures.snaps.failed failed in
    snap_fell g.R.Role.rules g.R.Role.state i.cluster i.me i.keeper i.role i.runs c.self.invariant (search rules) c.in-Some.role
    c.in-Some.is
    (snap_of g.R.Role.rules (g.R.Role.state c.in-Some.role)) c.in-Err-Failed.ensures.fits c.cut.new.self c.snap.new.keeper
    c.snap.new.self (ap list_kept c.cut.ensures) (ap (λ (k : LastState). k.last) c.cut.ensures) fails.renewal
    fails.dead (c.in-Err-Failed.ensures.snaps.keeps failed)

pub invariant_of-self-in-Err-Failed : goal.invariant_of-self-in-Err-Failed
invariant_of-self-in-Err-Failed g c =
    let i = c.self.inside in
    let failed = ap Err c.in-Err-Failed.field-0-is in
    let fails = c.in-Err-Failed.ensures.snaps.failed failed in
    snap_fell g.R.Role.rules g.R.Role.state i.cluster i.me i.keeper i.role i.runs c.self.invariant (search rules) c.in-Some.role
    c.in-Some.is
    (snap_of g.R.Role.rules (g.R.Role.state c.in-Some.role)) c.in-Err-Failed.ensures.fits c.cut.new.self c.snap.new.keeper
    c.snap.new.self (ap list_kept c.cut.ensures) (ap (λ (k : LastState). k.last) c.cut.ensures) fails.renewal
    fails.dead (c.in-Err-Failed.ensures.snaps.keeps failed)

pub returns-in_ok-kept-in-Ok : goal.returns-in_ok-kept-in-Ok
returns-in_ok-kept-in-Ok g c =
    let i = c.self.inside in
    let stands =
    here g.R.Role.rules g.R.Role.state i.cluster i.me i.keeper i.role i.runs c.self.invariant (search rules) c.in-Some.role
    c.in-Some.is in
    let known =
    knows g.R.Role.rules g.R.Role.state i.cluster i.me i.keeper i.role i.runs c.self.invariant (search rules) c.in-Some.role
    c.in-Some.is in
    let runs : i.runs ≡ true = search rules in
    let turned = snap_turned g.R.Role.rules c.requires.says g.R.Role.state
    (record { cluster = i.cluster; me = i.me; role = if i.runs then i.role else None; records = list_kept i.keeper }) c.in-Some.role
    c.args.cut c.cut.new.self c.snap.new.keeper c.in_ok-kept-in-Ok.kept (seen i.runs i.role c.in-Some.role runs c.in-Some.is)
    stands.cluster stands.me known.1 (ap (λ (k : LastState). k.store.cut) c.cut.ensures) (ap (λ (k : LastState). k.last) c.cut.ensures)
    (ap list_kept c.cut.ensures) c.in_ok-kept-in-Ok.ensures.last c.in-Ok.why c.snap.new.self _ c.in-Ok.ensures.snaps.ok in
    rw (← c.self.view_is, runs) (rw runs at turned)

pub returns-in_ok-kept-in-Err-Failed : goal.returns-in_ok-kept-in-Err-Failed
returns-in_ok-kept-in-Err-Failed g c =
    let i = c.self.inside in
    let fails = c.in-Err-Failed.ensures.snaps.failed (ap Err c.in-Err-Failed.field-0-is) in
    let stands =
    here g.R.Role.rules g.R.Role.state i.cluster i.me i.keeper i.role i.runs c.self.invariant (search rules) c.in-Some.role
    c.in-Some.is in
    let known =
    knows g.R.Role.rules g.R.Role.state i.cluster i.me i.keeper i.role i.runs c.self.invariant (search rules) c.in-Some.role
    c.in-Some.is in
    let turned = snap_failed g.R.Role.rules c.requires.says g.R.Role.state
    (record { cluster = i.cluster; me = i.me; role = if i.runs then i.role else None; records = list_kept i.keeper })
    c.in-Some.role c.args.cut c.cut.new.self c.snap.new.keeper c.in_ok-kept-in-Err-Failed.kept (seen i.runs i.role c.in-Some.role
    (search rules) c.in-Some.is) stands.cluster stands.me known.1 (ap (λ (k : LastState). k.store.cut) c.cut.ensures)
    (ap (λ (k : LastState). k.last) c.cut.ensures) (ap list_kept c.cut.ensures) c.in_ok-kept-in-Err-Failed.ensures.last fails.renewal in
    rw (c.why_of_cut.ensures, fails.sends, ← c.self.view_is) turned
