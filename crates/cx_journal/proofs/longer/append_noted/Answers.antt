use Rattle.std.proofs.Common.{[], ◌∷◌, ◌++◌}
use Rattle.cx_journal.proofs.Twos.{two_still}
use Rattle.cx_journal.proofs.longer.append_noted.Goals as goal

pub returns-in-Err-clause-any_moment : goal.returns-in-Err-clause-any_moment
returns-in-Err-clause-any_moment g c = λ old gen two place. two_still g.D.Disk.seen g.D.Disk.may_leave g.D.Disk.moment g.D.Disk.left_since
    g.met.D.Disk.only_now c.args.second_lives gen old (old ++ c.args.what.now ∷ []) c.args.first.now c.args.second.now two
