use Rattle.std.proofs.Common.{inr}
use Rattle.cx_journal.proofs.Moments.{leaves_weaker}
use Rattle.cx_journal.proofs.Readings.{blank_read}
use Rattle.cx_journal.proofs.live.read_blank.Goals as goal

pub returns-in-Ok-clear-clause-found : goal.returns-in-Ok-clear-clause-found
returns-in-Ok-clear-clause-found g c = λ kind file rests blank. blank_read g.D.Disk.seen g.D.Disk.may_leave kind file c.in-Ok.found
    c.clear.new.disk blank (c.in-Ok-clear.ensures.done file rests.0) c.in-Ok.ensures.none c.in-Ok.ensures.gates c.in-Ok.ensures.gate

pub returns-in-Ok-clear-clause-any_moment : goal.returns-in-Ok-clear-clause-any_moment
returns-in-Ok-clear-clause-any_moment g c = λ file rests blank. leaves_weaker g.D.Disk.moment g.D.Disk.left_since
    _ _ _ _ (λ k left. inr (left, blank)) (c.clear.ensures.blank file rests.0 rests.1 blank)

pub returns-in-Err-clear-clause-any_moment : goal.returns-in-Err-clear-clause-any_moment
returns-in-Err-clear-clause-any_moment g c = λ file rests blank. leaves_weaker g.D.Disk.moment g.D.Disk.left_since
    _ _ _ _ (λ k left. inr (left, blank)) (c.clear.ensures.blank file rests.0 rests.1 blank)
