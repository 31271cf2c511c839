use Rattle.cx_reader.proofs.Entries.{none_apart}
use Rattle.cx_reader.proofs.reads.AskedReadsDuplicate.copy.Goals as goal

pub add_all-requires : goal.add_all-requires
add_all-requires c = rw c.new-copied.ensures (none_apart c.args.self.now)
