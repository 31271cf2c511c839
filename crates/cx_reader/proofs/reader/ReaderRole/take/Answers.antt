use Rattle.cx_role.proofs.Common.{◌≡◌, ◌≤◌, ◌&&◌, true, rules, subst, same_role, names, Running, ReaderDurable, ReaderVolatile, last_turn}
use Rattle.cx_reader.proofs.FitLaws.{take_fit}
use Rattle.cx_reader.proofs.reader.ReaderRole.take.Goals as goal

pub returns-in-ReadReq-clause-fits : goal.returns-in-ReadReq-clause-fits
returns-in-ReadReq-clause-fits g c =
    let s = c.args.self.now in
    let range =
    subst (λ (r : Running ReaderDurable ReaderVolatile). r.durable.turn ≤ last_turn) c.self.view_is c.self.invariant.turn_fits in
    take_fit s.cluster s.me s.durable range s.volatile c.args.datagram.now

pub returns-in-MatchReadAck-clause-fits : goal.returns-in-MatchReadAck-clause-fits
returns-in-MatchReadAck-clause-fits g c =
    let s = c.args.self.now in
    let range =
    subst (λ (r : Running ReaderDurable ReaderVolatile). r.durable.turn ≤ last_turn) c.self.view_is c.self.invariant.turn_fits in
    take_fit s.cluster s.me s.durable range s.volatile c.args.datagram.now

pub returns-in-PreReadAck-clause-fits : goal.returns-in-PreReadAck-clause-fits
returns-in-PreReadAck-clause-fits g c =
    let s = c.args.self.now in
    let range =
    subst (λ (r : Running ReaderDurable ReaderVolatile). r.durable.turn ≤ last_turn) c.self.view_is c.self.invariant.turn_fits in
    take_fit s.cluster s.me s.durable range s.volatile c.args.datagram.now

pub returns-in_default : goal.returns-in_default
returns-in_default g c =
    let s = c.args.self.now in
    let l = c.args.datagram.now in
    let there : (same_role l.to s.me && names s.cluster l) ≡ true = search rules in
    let range =
    subst (λ (r : Running ReaderDurable ReaderVolatile). r.durable.turn ≤ last_turn) c.self.view_is c.self.invariant.turn_fits in
    record { step = rw there (search rules); fits = take_fit s.cluster s.me s.durable range s.volatile l }
