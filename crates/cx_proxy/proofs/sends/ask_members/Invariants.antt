use Rattle.cx_model.specs.Prelude.{◌≡◌, ◌-◌, ◌++◌, filter, map, is_in, numbers, phase2a_to, members_for}
use Rattle.cx_proxy.proofs.sends.ask_members.Given as goal

abbrev pub invariant-loop-acceptor : goal.invariant-loop-acceptor
invariant-loop-acceptor l = record {
  list : l.out.list ++ map (phase2a_to l.me l.pending)
      (filter (λ a. is_in a l.pending.grid.members) (numbers l.acceptor (l.cluster.acceptors - l.acceptor)))
      ≡ l.fn.out.list ++ map (phase2a_to l.me l.pending) (members_for l.cluster l.pending);
}
