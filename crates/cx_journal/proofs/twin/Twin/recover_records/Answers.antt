use Rattle.cx_base.proofs.Common.{rules, refl, None}
use Rattle.cx_journal.proofs.TwinReady.{read_ready, ready_still, unread_so}
use Rattle.cx_journal.proofs.twin.Twin.recover_records.Goals as goal

pub invariant_of-self : goal.invariant_of-self
invariant_of-self g c = read_ready g.D.Disk.seen g.D.Disk.may_leave g.D.Disk.size None c.in-Ok.live c.in-Ok.found c.self.inside.first
    c.self.inside.second c.read_both.new.first c.read_both.new.second
    c.read_both.ensures.first_tells c.read_both.ensures.second_tells c.in-Ok.ensures.rests _ c.in-Ok.ensures.gate c.in-Ok.ensures.sound
    c.in-Ok.ensures.fit

pub invariant_of-self-in-Err-NoMemory : goal.invariant_of-self-in-Err-NoMemory
invariant_of-self-in-Err-NoMemory g c =
    ready_still g.D.Disk.seen g.D.Disk.may_leave g.D.Disk.size _ c.read_both.new.first c.read_both.new.second c.self.invariant
    (c.read_both.ensures.first_unwritten (search rules)) (c.read_both.ensures.second_unwritten (search rules))

pub invariant_of-self-in-Err-Failed : goal.invariant_of-self-in-Err-Failed
invariant_of-self-in-Err-Failed g c = unread_so g.D.Disk.seen g.D.Disk.may_leave g.D.Disk.size _ _ c.self.invariant
    c.read_both.ensures.first_tells c.read_both.ensures.second_tells c.read_both.ensures.same refl c.self.invariant.sound

pub invariant_of-self-in-Err-NotJournal : goal.invariant_of-self-in-Err-NotJournal
invariant_of-self-in-Err-NotJournal g c = unread_so g.D.Disk.seen g.D.Disk.may_leave g.D.Disk.size _ _ c.self.invariant
    c.read_both.ensures.first_tells c.read_both.ensures.second_tells c.read_both.ensures.same refl c.self.invariant.sound
