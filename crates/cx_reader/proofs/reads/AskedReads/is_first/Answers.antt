use Rattle.std.proofs.Common.{rules, ◌∙◌}
use Rattle.cx_reader.proofs.Entries.{first_is}
use Rattle.cx_reader.proofs.reads.AskedReads.is_first.Goals as goal

pub returns-in-Some : goal.returns-in-Some
returns-in-Some c =
    rw (← c.self.view_is) (c.is_of.ensures
    ∙ first_is c.args.token c.self.inside.map.entries (c.in-Some.number.now, c.in-Some.field-0-1.now) (search rules))
