use Rattle.cx_base.proofs.Common.{Err, None, ap, rules, if◌then◌else◌}
use Rattle.cx_world.specs.LastKeeper.{LastState, list_kept}
use Rattle.cx_world.proofs.Standing.{failed_turned, fell, here, knows, seen, stepped}
use Rattle.cx_world.proofs.seat.Seat.give.Goals as goal

pub invariant_of-self : goal.invariant_of-self
invariant_of-self g c =
    let i = c.self.inside in
    stepped g.R.Role.rules g.R.Role.state i.cluster i.me i.keeper i.role i.runs c.self.invariant (search rules) c.in-Some.role c.in-Some.is
    c.args.input.now c.in-Ok.why c.cut.new.self c.step.new.keeper c.step.new.role c.step.new.out.list (ap list_kept c.cut.ensures)
    c.in-Ok.ensures.step.ok c.in-Ok.ensures.kept

pub invariant_of-self-in-Ok : goal.invariant_of-self-in-Ok
invariant_of-self-in-Ok g c =
    let i = c.self.inside in
    stepped g.R.Role.rules g.R.Role.state i.cluster i.me i.keeper i.role i.runs c.self.invariant (search rules) c.in-Some.role c.in-Some.is
    c.args.input.now c.in-Ok.why c.cut.new.self c.step.new.keeper c.step.new.role c.step.new.out.list (ap list_kept c.cut.ensures)
    c.in-Ok.ensures.step.ok c.in-Ok.ensures.kept

pub invariant_of-self-in_err-kept-in-Err-Failed : goal.invariant_of-self-in_err-kept-in-Err-Failed
invariant_of-self-in_err-kept-in-Err-Failed g c =
    let i = c.self.inside in
    let failed = ap Err c.in-Err-Failed.field-0-is in
    let fails = c.in-Err-Failed.ensures.step.failed failed in
    fell g.R.Role.rules g.R.Role.state i.cluster i.me i.keeper i.role i.runs c.self.invariant (search rules) c.in-Some.role c.in-Some.is
    c.args.input.now c.cut.new.self c.step.new.keeper c.step.new.role (ap list_kept c.cut.ensures) (ap (λ (k : LastState). k.last)
    c.cut.ensures) fails.append fails.dead (c.in-Err-Failed.ensures.step.keeps failed) (c.in-Err-Failed.ensures.fits failed)

pub invariant_of-self-in-Err-Failed : goal.invariant_of-self-in-Err-Failed
invariant_of-self-in-Err-Failed g c =
    let i = c.self.inside in
    let failed = ap Err c.in-Err-Failed.field-0-is in
    let fails = c.in-Err-Failed.ensures.step.failed failed in
    fell g.R.Role.rules g.R.Role.state i.cluster i.me i.keeper i.role i.runs c.self.invariant (search rules) c.in-Some.role c.in-Some.is
    c.args.input.now c.cut.new.self c.step.new.keeper c.step.new.role (ap list_kept c.cut.ensures) (ap (λ (k : LastState). k.last)
    c.cut.ensures) fails.append fails.dead (c.in-Err-Failed.ensures.step.keeps failed) (c.in-Err-Failed.ensures.fits failed)

pub returns-in_ok-kept-in-Err-Failed : goal.returns-in_ok-kept-in-Err-Failed
returns-in_ok-kept-in-Err-Failed g c =
    let i = c.self.inside in
    let fails = c.in-Err-Failed.ensures.step.failed (ap Err c.in-Err-Failed.field-0-is) in
    let stands =
    here g.R.Role.rules g.R.Role.state i.cluster i.me i.keeper i.role i.runs c.self.invariant (search rules) c.in-Some.role c.in-Some.is in
    let known =
    knows g.R.Role.rules g.R.Role.state i.cluster i.me i.keeper i.role i.runs c.self.invariant (search rules) c.in-Some.role c.in-Some.is in
    let turned = failed_turned g.R.Role.rules g.R.Role.state
    (record { cluster = i.cluster; me = i.me; role = if i.runs then i.role else None; records = list_kept i.keeper }) c.in-Some.role
    c.args.cut c.cut.new.self c.step.new.keeper c.in_ok-kept-in-Err-Failed.kept (seen i.runs i.role c.in-Some.role (search rules)
    c.in-Some.is) stands.cluster stands.me known.1 (ap (λ (k : LastState). k.store.cut) c.cut.ensures) (ap (λ (k : LastState). k.last)
    c.cut.ensures) (ap list_kept c.cut.ensures) c.in_ok-kept-in-Err-Failed.ensures.last c.args.input.now fails.append in
    rw (c.why_of_cut.ensures, fails.sends, ← c.self.view_is) turned
