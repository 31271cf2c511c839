use Rattle.cx_reader.proofs.Entries.{apart_again, length_again}
use Rattle.cx_reader.specs.Running.{running_reads}
use Rattle.cx_reader.proofs.reader.Reader.request.Goals as goal

pub invariant_of-self : goal.invariant_of-self
invariant_of-self g c =
    let i = c.self.inside in
    rw c.put_again.ensures record {
      turn_fits = c.self.invariant.turn_fits;
      few = rw (length_again c.args.one i.waiting) c.self.invariant.few;
      apart = apart_again (running_reads i.running) i.waiting c.args.one c.self.invariant.apart;
    }
