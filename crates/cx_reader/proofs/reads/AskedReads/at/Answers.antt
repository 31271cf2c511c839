use Rattle.std.proofs.Common.{rules}
use Rattle.cx_reader.proofs.Entries.{fits_at, read_at}
use Rattle.cx_reader.proofs.reads.AskedReads.at.Goals as goal

pub entry_read-requires : goal.entry_read-requires
entry_read-requires c =
    fits_at c.self.inside.map.entries c.args.place (c.in-Some.number.now, c.in-Some.question.now) c.self.invariant (search rules)

pub returns : goal.returns
returns c = rw (← c.self.view_is, c.entry_read.ensures) (read_at c.self.inside.map.entries c.args.place _ (search rules))
