use Rattle.std.proofs.Common.{◌∙◌}
use Rattle.cx_journal.proofs.TwinReady.{same_beside, told_still, list_so, outside_so, leaves_same}
use Rattle.cx_journal.proofs.Ready.{told_of}
use Rattle.cx_journal.proofs.pair.read_both.Goals as goal

pub returns-clause-list : goal.returns-clause-list
returns-clause-list g c = λ records both has.
    let a = told_of (g.D.Disk.seen c.args.first.now) both.0 in
    let b = told_of (g.D.Disk.seen c.args.second.now) both.1 in
    list_so c.args.kind a.0 b.0 records c.read_pair.result (has a.0 b.0 a.1 b.1) (c.read_pair.ensures.image a.0 b.0 a.1 b.1)

pub returns-clause-never : goal.returns-clause-never
returns-clause-never g c = λ records both has.
    let a = told_of (g.D.Disk.seen c.args.first.now) both.0 in
    let b = told_of (g.D.Disk.seen c.args.second.now) both.1 in
    outside_so c.args.kind a.0 b.0 records c.read_pair.result (has a.0 b.0 a.1 b.1) (c.read_pair.ensures.broken a.0 b.0 a.1 b.1)

pub returns-clause-records : goal.returns-clause-records
returns-clause-records g c = told_still g.D.Disk.seen c.args.first.now c.args.second.now c.read_pair.new.first c.read_pair.new.second
    c.read_pair.ensures.first_tells c.read_pair.ensures.second_seen c.read_pair.ensures.same

pub returns-clause-same : goal.returns-clause-same
returns-clause-same g c = λ a b x y first_told second_told first_now second_now.
    same_beside x y a b (c.read_pair.ensures.same a x first_told first_now) (g.D.Disk.seen c.read_pair.new.second) second_now
    (c.read_pair.ensures.second_seen ∙ second_told)

pub returns-clause-any_moment : goal.returns-clause-any_moment
returns-clause-any_moment g c = λ both.
    let a = told_of (g.D.Disk.seen c.args.first.now) both.0 in
    leaves_same g.D.Disk.may_leave g.D.Disk.moment g.D.Disk.left_since c.args.first.now c.args.second.now c.read_pair.new.first
    c.read_pair.new.second (c.read_pair.ensures.first_moment a.0 a.1) c.read_pair.ensures.second_moment
