use Rattle.cx_role.proofs.Common.{◌≡◌, ◌<◌, ◌≤◌, ◌+◌, ◌-◌, not, arith, subst, refl, Placed, Leader, is_in, role}
use Rattle.cx_model.specs.Leader.{propose_to}
use Rattle.cx_leader.specs.Proposing.{ProposalsState, IsProposing}
use Rattle.cx_leader.proofs.BySlot.{sent_on, sent_all}
use Rattle.cx_leader.proofs.proposals.Proposals.propose_each.Goals as goal

abbrev Holds : ProposalsState → Type 0
Holds p = IsProposing p.cw p.next p.proposed

pub loop-slot-init : goal.loop-slot-init
loop-slot-init c =
    let cw = c.args.self.now.cw in
    let first : c.cw-slot.result ≡ cw = rw (← c.self.view_is) c.cw-slot.ensures.cw in
    let none : cw - cw ≡ 0 = omega arith in
    record {
      list = rw (first, none) refl;
      low = omega (arith, first);
      room = omega (arith, first, c.requires.spare);
      spare = omega (arith, first);
    }

pub loop-slot-preserved : goal.loop-slot-preserved
loop-slot-preserved c =
    let p = c.args.self.now in
    let l = c.loop-slot in
    let is : Holds p = subst Holds c.self.view_is c.self.invariant.proposing in
    let next : c.next-slot-end.result ≡ p.next = rw (← c.self.view_is) c.next-slot-end.ensures.next in
    let high : l.slot < p.cw + (p.next - p.cw) = omega (arith, is.window.low, next, c.loop-slot-test.true) in
    let send = propose_to c.args.cluster.now (role Leader c.args.leader) c.args.own.now p.cw in
    let test = λ (x : Placed). not (is_in x.slot c.args.known.now.list) in
    let sent = sent_on send test p.cw (p.next - p.cw) l.slot p.proposed l.out.list _ is.slots l.invariant.low high l.invariant.list in
    record {
      list = rw c.in_ok-propose.ensures.list sent;
      low = omega (arith, l.invariant.low);
      room = omega (arith, l.invariant.room, c.in_ok-propose.ensures.spare);
      spare = omega (arith, l.invariant.spare, c.in_ok-propose.ensures.spare);
    }

pub returns-clause-list : goal.returns-clause-list
returns-clause-list c =
    let p = c.args.self.now in
    let l = c.loop-slot in
    let is : Holds p = subst Holds c.self.view_is c.self.invariant.proposing in
    let next : c.next-slot-end.result ≡ p.next = rw (← c.self.view_is) c.next-slot-end.ensures.next in
    let end : p.cw + (p.next - p.cw) ≤ l.slot = omega (arith, is.window.low, next, c.loop-slot-test.false) in
    let send = propose_to c.args.cluster.now (role Leader c.args.leader) c.args.own.now p.cw in
    let test = λ (x : Placed). not (is_in x.slot c.args.known.now.list) in
    sent_all send test p.cw (p.next - p.cw) l.slot p.proposed l.out.list _ is.slots end l.invariant.list
