use Rattle.std.proofs.Common.{rules}
use Rattle.cx_node.proofs.Asking.{asks_part}
use Rattle.cx_node.proofs.sending.send_all.Goals as goal

pub returns-in_err-send_one-clause-part : goal.returns-in_err-send_one-clause-part
returns-in_err-send_one-clause-part g c =
    let still = c.in_err-send_one.ensures.nothing in
    let part = asks_part c.args.cluster.now c.args.letters.now c.loop-letter.letter-index
    (g.L.Link.history c.args.link.now) (g.L.Link.history c.loop-letter.link)
    (g.L.Link.history c.send_one.new.link) c.loop-letter.invariant.asks still in
    search (rules, part)
