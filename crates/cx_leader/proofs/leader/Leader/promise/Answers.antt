use Rattle.cx_role.proofs.Common.{◌≡◌, Some, sym, subst, ap, ◌∙◌, Outcome, IsReply, LeaderVolatile, leader_rules}
use Rattle.cx_leader.proofs.PromiseLaws.{promised_is}
use Rattle.cx_leader.proofs.leader.Leader.promise.Goals as goal

pub returns : goal.returns
returns c =
    let a = c.args in
    let s = a.self.now in
    let own : s.durable.own ≡ Some c.in-Some.own = ap (λ s. s.durable.own) (sym c.self.view_is) ∙ c.in-Some.is in
    let asks = sym c.asks.ensures ∙ c.if-not-asks.false in
    let row = promised_is s.cluster s.me s.durable c.in-Some.own s.volatile a.from a.round a.cw a.votes.now own asks in
    let Is = λ (o : Outcome LeaderVolatile). IsReply leader_rules s o c.promised.result c.promised.new.self c.promised.new.out.list in
    subst Is (sym row) c.promised.ensures
