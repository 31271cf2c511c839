use Rattle.cx_reader.proofs.Entries.{is_there, replaced, replaced_fits}
use Rattle.cx_reader.proofs.reads.AskedReads.put_again.Goals as goal

pub unreachable-requires : goal.unreachable-requires
unreachable-requires c =
    is_there c.args.one.read c.self.inside.map.entries (rw (← c.self.view_is) at c.requires)
    (rw (c.read_number.ensures, c.token.ensures.token) at c.in-Err.ensures.absent)

pub invariant_of-self : goal.invariant_of-self
invariant_of-self c =
    rw (c.in-Ok.ensures.entries, c.read_number.ensures, c.token.ensures.token, c.read_question.ensures)
    (replaced_fits c.args.one c.self.inside.map.entries (rw (← c.self.view_is) at c.requires)
    (rw c.token.ensures.token at c.token.ensures.fits) c.self.invariant)

pub returns : goal.returns
returns c =
    rw (← c.self.view_is, c.in-Ok.ensures.entries, c.read_number.ensures, c.token.ensures.token, c.read_question.ensures)
    (replaced c.args.one c.self.inside.map.entries (rw (← c.self.view_is) at c.requires))
