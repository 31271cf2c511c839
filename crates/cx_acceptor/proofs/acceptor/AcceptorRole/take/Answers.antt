use Rattle.cx_role.proofs.Common.{◌≡◌, ◌&&◌, true, sym, ◌∙◌, and_parts, rules, names, names_round, names_value, same_role}
use Rattle.cx_role.proofs.Named.{body_named}
use Rattle.cx_acceptor.proofs.FitLaws.{vote_fit}
use Rattle.cx_acceptor.proofs.acceptor.AcceptorRole.take.Goals as goal

pub returns-in-Phase2A-clause-fits : goal.returns-in-Phase2A-clause-fits
returns-in-Phase2A-clause-fits g c =
    let vote = c.in-Phase2A in
    vote_fit c.args.self.now vote.round vote.slot vote.cw vote.value c.args.datagram.now
    (sym c.msg.ensures.msg ∙ vote.is) (rw c.msg.ensures.msg at c.msg.ensures.parts)

pub phase1a-requires-clause-named : goal.phase1a-requires-clause-named
phase1a-requires-clause-named g c =
    let s = c.args.self.now in
    let l = c.args.datagram.now in
    let ours : (same_role l.to s.me && names s.cluster l) ≡ true = search rules in
    rw (sym c.msg.ensures.msg ∙ c.in-Phase1A.is) at (body_named s.cluster s.me l ours)

pub phase2a-requires-clause-named : goal.phase2a-requires-clause-named
phase2a-requires-clause-named g c =
    let s = c.args.self.now in
    let l = c.args.datagram.now in
    let vote = c.in-Phase2A in
    let ours : (same_role l.to s.me && names s.cluster l) ≡ true = search rules in
    (and_parts (names_round s.cluster vote.round) (names_value s.cluster vote.value)
    (rw (sym c.msg.ensures.msg ∙ vote.is) at (body_named s.cluster s.me l ours))).0

pub phase2a-requires-clause-values : goal.phase2a-requires-clause-values
phase2a-requires-clause-values g c =
    let s = c.args.self.now in
    let l = c.args.datagram.now in
    let vote = c.in-Phase2A in
    let ours : (same_role l.to s.me && names s.cluster l) ≡ true = search rules in
    (and_parts (names_round s.cluster vote.round) (names_value s.cluster vote.value)
    (rw (sym c.msg.ensures.msg ∙ vote.is) at (body_named s.cluster s.me l ours))).1

pub inform-requires-clause-named : goal.inform-requires-clause-named
inform-requires-clause-named g c =
    let s = c.args.self.now in
    let l = c.args.datagram.now in
    let ours : (same_role l.to s.me && names s.cluster l) ≡ true = search rules in
    rw (sym c.msg.ensures.msg ∙ c.in-Inform.is) at (body_named s.cluster s.me l ours)
