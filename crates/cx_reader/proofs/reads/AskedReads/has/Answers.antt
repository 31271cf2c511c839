use Rattle.std.proofs.Common.{◌∙◌}
use Rattle.cx_reader.proofs.Entries.{found}
use Rattle.cx_reader.proofs.reads.AskedReads.has.Goals as goal

pub returns : goal.returns
returns c =
    rw (← c.self.view_is) (c.contains_key.ensures ∙ rw c.read_number.ensures (found c.args.token c.self.inside.map.entries))
