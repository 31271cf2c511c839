use Rattle.std.specs.Prelude.{Some}
use Rattle.cx_base.specs.declared.role.Kind.TheVariants as kind
use Rattle.cx_journal.proofs.Ready.{kept_fit, kept_by_any, told_of}
use Rattle.cx_journal.proofs.Told.{told_two}
use Rattle.cx_journal.proofs.Twos.{two_last}
use Rattle.cx_journal.proofs.TwinReady.{read_ready, rest_read}
use Rattle.cx_journal.proofs.twin.Twin.open.Goals as goal

pub invariant_of-result : goal.invariant_of-result
invariant_of-result g c = read_ready g.D.Disk.seen g.D.Disk.may_leave g.D.Disk.size (Some kind.Replica) c.in-Ok.live c.in-Ok.found
    c.args.first c.args.second c.read_both.new.first c.read_both.new.second
    c.read_both.ensures.first_tells c.read_both.ensures.second_tells c.in-Ok.ensures.rests _ c.in-Ok.ensures.gate c.in-Ok.ensures.sound
    (kept_by_any kind.Replica c.in-Ok.found.records.items c.in-Ok.ensures.fit)

pub returns-in-Ok-clause-fits : goal.returns-in-Ok-clause-fits
returns-in-Ok-clause-fits g c = kept_fit kind.Replica c.in-Ok.found.records.items c.in-Ok.ensures.fit

pub returns-in-Ok-clause-kept : goal.returns-in-Ok-clause-kept
returns-in-Ok-clause-kept g c = λ both.
    let a = told_of (g.D.Disk.seen c.args.first) both.0 in
    let b = told_of (g.D.Disk.seen c.args.second) both.1 in
    told_two g.D.Disk.seen g.D.Disk.may_leave c.in-Ok.live.second c.in-Ok.live.generation c.in-Ok.found.records.items c.read_both.new.first
    c.read_both.new.second (kept_by_any kind.Replica c.in-Ok.found.records.items c.in-Ok.ensures.fit)
    (rest_read g.D.Disk.seen g.D.Disk.may_leave g.D.Disk.size (Some kind.Replica) c.in-Ok.live c.in-Ok.found c.read_both.new.first
    c.read_both.new.second (c.in-Ok.ensures.rests a.0 b.0 a.1 b.1))

pub returns-in-Ok-clause-lasts : goal.returns-in-Ok-clause-lasts
returns-in-Ok-clause-lasts g c = λ both.
    let a = told_of (g.D.Disk.seen c.args.first) both.0 in
    let b = told_of (g.D.Disk.seen c.args.second) both.1 in
    two_last g.D.Disk.seen g.D.Disk.may_leave c.in-Ok.live.second c.in-Ok.live.generation c.in-Ok.found.records.items c.read_both.new.first
    c.read_both.new.second
    (rest_read g.D.Disk.seen g.D.Disk.may_leave g.D.Disk.size (Some kind.Replica) c.in-Ok.live c.in-Ok.found c.read_both.new.first
    c.read_both.new.second (c.in-Ok.ensures.rests a.0 b.0 a.1 b.1))
