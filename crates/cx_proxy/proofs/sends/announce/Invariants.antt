use Rattle.cx_model.specs.Prelude.{◌≡◌, ◌+◌, ◌-◌, ◌++◌, map, length, numbers, below, chosen_to}
use Rattle.cx_proxy.proofs.sends.announce.Given as goal

abbrev pub invariant-loop-replica : goal.invariant-loop-replica
invariant-loop-replica l = record {
  list : l.out.list ++ map (chosen_to l.me l.pending) (numbers l.replica (l.cluster.replicas - l.replica))
      ≡ l.fn.out.list ++ map (chosen_to l.me l.pending) (below l.cluster.replicas);
  room : length l.out.list ≡ length l.fn.out.list + l.replica;
}
