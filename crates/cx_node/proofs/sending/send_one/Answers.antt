use Rattle.std.proofs.Common.{rules}
use Rattle.cx_node.proofs.Asking.{asks_one}
use Rattle.cx_node.proofs.sending.send_one.Goals as goal

pub returns-in_ok-encode_into-clause-sent : goal.returns-in_ok-encode_into-clause-sent
returns-in_ok-encode_into-clause-sent g c =
    asks_one c.args.cluster.now c.args.letter.now (g.L.Link.history c.args.link.now)
    (g.L.Link.history c.send.new.self) c.send.result (search rules) (search rules)
