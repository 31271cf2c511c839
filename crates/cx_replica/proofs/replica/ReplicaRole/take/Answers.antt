use Rattle.cx_role.proofs.Common.{◌≡◌, ◌&&◌, true, rules, same_role, names}
use Rattle.cx_replica.proofs.replica.ReplicaRole.take.Goals as goal

pub returns-in_default : goal.returns-in_default
returns-in_default g c =
    let there : (same_role c.args.datagram.now.to c.args.self.now.me && names c.args.self.now.cluster c.args.datagram.now) ≡ true =
    search rules in
    record { step = rw there (search rules); fits = rw there (search rules) }
