use Rattle.cx_role.proofs.Common.{◌≡◌, drop, IsTrue, all_fit, folded_from, refused_from, leader_rules}
use Rattle.cx_leader.specs.State.{own_fits}
use Rattle.cx_leader.proofs.opening.last_begun.Given as goal

abbrev pub invariant-loop-index : goal.invariant-loop-index
invariant-loop-index l = record {
  folded : folded_from leader_rules (record { own = l.own }) (drop l.index l.records)
      ≡ folded_from leader_rules (record { own = l.fn.before }) l.records;
  refused : refused_from leader_rules l.cluster l.me (record { own = l.own }) l.index (drop l.index l.records)
      ≡ refused_from leader_rules l.cluster l.me (record { own = l.fn.before }) 0 l.records;
  own : IsTrue (own_fits l.me.index l.own);
  rest : IsTrue (all_fit (drop l.index l.records));
}
