use Rattle.cx_acceptor.proofs.SoundLaws.{renewable}
use Rattle.cx_acceptor.proofs.acceptor.Acceptor.has_promised.Goals as goal

pub returns-clause-fits : goal.returns-clause-fits
returns-clause-fits c =
    let i = c.self.inside in
    rw (← c.self.view_is) (renewable i.cluster i.me _ c.self.invariant)
