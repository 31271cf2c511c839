use Rattle.cx_role.proofs.Common.{arith, rules}
use Rattle.cx_acceptor.proofs.VoteLaws.{votes_told}
use Rattle.cx_acceptor.proofs.acceptor.Acceptor.told_votes.Goals as goal

pub from_vec-requires : goal.from_vec-requires
from_vec-requires c =
    let told = votes_told c.self.inside.cw c.self.inside.votes.items c.self.invariant.votes c.self.invariant.rising in
    let few = rw (← c.deref.ensures.value, ← c.in_ok-copy_all.ensures) at told.0 in
    (search rules, (omega arith, omega (arith, few, c.in_ok-copy_all.field-0.ok.0)))

pub returns-clause-fit : goal.returns-clause-fit
returns-clause-fit c =
    let told = votes_told c.self.inside.cw c.self.inside.votes.items c.self.invariant.votes c.self.invariant.rising in
    rw (← c.self.view_is, c.from_vec.ensures, c.in_ok-copy_all.ensures, c.deref.ensures.value) told.1
