use Rattle.cx_role.proofs.Common.{◌≡◌, ◌≤◌, ◌+◌, ◌-◌, ◌++◌, drop}
use Rattle.cx_model.specs.Leader.{without_known}
use Rattle.cx_leader.specs.Proposing.{propose_sends}
use Rattle.cx_leader.proofs.proposals.Proposals.propose_each.Given as goal

abbrev pub invariant-loop-slot : goal.invariant-loop-slot
invariant-loop-slot l = record {
  list : l.out.list
      ++ propose_sends l.cluster l.leader l.own l.self.cw
      (without_known l.known.list (drop (l.slot - l.self.cw) l.self.proposed))
      ≡ l.fn.out.list ++ propose_sends l.cluster l.leader l.own l.self.cw (without_known l.known.list l.self.proposed);
  low : l.self.cw ≤ l.slot;
  room : 32 + l.self.cw ≤ l.out.spare + l.slot;
  spare : l.fn.out.spare + l.self.cw ≤ l.out.spare + l.slot;
}
