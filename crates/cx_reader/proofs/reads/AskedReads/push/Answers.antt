use Rattle.cx_reader.proofs.Entries.{pushed, pushed_fits}
use Rattle.cx_reader.proofs.reads.AskedReads.push.Goals as goal

pub invariant_of-self-2 : goal.invariant_of-self-2
invariant_of-self-2 c =
    rw (c.in_ok-insert.ensures.entries, c.read_number.ensures, c.token.ensures.token, c.read_question.ensures)
    (pushed_fits c.args.one c.self.inside.map.entries (rw (← c.self.view_is) at c.requires)
    (rw c.token.ensures.token at c.token.ensures.fits) c.self.invariant)

pub returns-clause-ok : goal.returns-clause-ok
returns-clause-ok c =
    rw (← c.self.view_is, c.in_ok-insert.ensures.entries, c.read_number.ensures, c.token.ensures.token, c.read_question.ensures)
    (pushed c.args.one c.self.inside.map.entries (rw (← c.self.view_is) at c.requires))
