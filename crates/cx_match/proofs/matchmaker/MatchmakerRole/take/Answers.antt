use Rattle.cx_match.proofs.FitLaws.{take_fit}
use Rattle.cx_match.proofs.matchmaker.MatchmakerRole.take.Goals as goal

pub returns-in-MatchA-clause-fits : goal.returns-in-MatchA-clause-fits
returns-in-MatchA-clause-fits g c = take_fit c.args.self.now.cluster c.args.self.now.me c.args.self.now.durable c.args.datagram.now

pub returns-in-MatchA-3-clause-fits : goal.returns-in-MatchA-3-clause-fits
returns-in-MatchA-3-clause-fits g c = take_fit c.args.self.now.cluster c.args.self.now.me c.args.self.now.durable c.args.datagram.now

pub returns-in-GarbageA-clause-fits : goal.returns-in-GarbageA-clause-fits
returns-in-GarbageA-clause-fits g c = take_fit c.args.self.now.cluster c.args.self.now.me c.args.self.now.durable c.args.datagram.now

pub returns-in-StopA-clause-fits : goal.returns-in-StopA-clause-fits
returns-in-StopA-clause-fits g c = take_fit c.args.self.now.cluster c.args.self.now.me c.args.self.now.durable c.args.datagram.now

pub returns-in-NextA-clause-fits : goal.returns-in-NextA-clause-fits
returns-in-NextA-clause-fits g c = take_fit c.args.self.now.cluster c.args.self.now.me c.args.self.now.durable c.args.datagram.now

pub returns-in-BootA-clause-fits : goal.returns-in-BootA-clause-fits
returns-in-BootA-clause-fits g c = take_fit c.args.self.now.cluster c.args.self.now.me c.args.self.now.durable c.args.datagram.now
