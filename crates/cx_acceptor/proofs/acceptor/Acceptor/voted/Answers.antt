use Rattle.cx_acceptor.proofs.SoundLaws.{voted_fits}
use Rattle.cx_acceptor.proofs.acceptor.Acceptor.voted.Goals as goal

pub returns-clause-fits : goal.returns-clause-fits
returns-clause-fits c =
    let i = c.self.inside in
    rw (c.in_ok-votes.ensures.votes, ← c.self.view_is) (voted_fits i.cluster i.me _ c.self.invariant
    (rw (← c.self.view_is) at c.requires) (rw (c.in_ok-votes.ensures.votes, ← c.self.view_is) at c.in_ok-votes.ensures.fit))
