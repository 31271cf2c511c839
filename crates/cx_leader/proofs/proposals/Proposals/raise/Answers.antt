use Rattle.cx_leader.proofs.Proposed.{holding_raised}
use Rattle.cx_leader.proofs.proposals.Proposals.raise.Goals as goal

pub invariant_of-self : goal.invariant_of-self
invariant_of-self c =
    let p = c.self.inside in
    rw (c.raise-2.ensures, c.raise-3.ensures, c.cw-cw.ensures.cw, c.raise.ensures)
    (holding_raised p.slots.cw p.slots.next c.args.cw p.list p.chosen.first c.self.invariant c.requires)
