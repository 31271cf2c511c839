use Rattle.cx_journal.proofs.Common.{subst, Err, Failed}
use Rattle.cx_journal.specs.Store.{IsRefused}
use Rattle.cx_journal.proofs.Refused.{refused}
use Rattle.cx_journal.proofs.journal.Journal.refuse.Goals as goal

pub returns : goal.returns
returns g c = subst (λ s. IsRefused g.D.Disk.seen g.D.Disk.may_leave g.D.Disk.moment g.D.Disk.left_since s (Err Failed) (record {
  disk = c.self.inside.disk;
  gates = c.self.inside.gates.items;
  gate = c.self.inside.gate;
  whole = c.self.inside.whole;
  faults = c.add.new.self;
})) c.self.view_is
    (refused g.D.Disk.seen g.D.Disk.may_leave g.D.Disk.size g.D.Disk.moment g.D.Disk.left_since _ c.add.new.self c.self.invariant
    g.met.D.Disk.only_now c.add.ensures)
