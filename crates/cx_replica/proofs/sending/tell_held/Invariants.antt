use Rattle.cx_model.specs.Prelude.{◌≡◌, ◌≤◌, ◌+◌, ◌-◌, ◌++◌, map, below, numbers, held_to}
use Rattle.cx_replica.proofs.sending.tell_held.Given as goal

abbrev pub invariant-loop-leader : goal.invariant-loop-leader
invariant-loop-leader l = record {
  list : l.out.list ++ map (held_to l.me l.mark) (numbers l.leader (l.cluster.leaders - l.leader))
      ≡ l.fn.out.list ++ map (held_to l.me l.mark) (below l.cluster.leaders);
  spare : l.fn.out.spare ≤ l.out.spare + l.leader;
}
