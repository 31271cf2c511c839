use Rattle.cx_model.specs.Prelude.{◌≡◌, ◌-◌, ◌≤◌, ◌++◌, filter, map, length, is_in, numbers, column_of, phase2a_to, column_for}
use Rattle.cx_proxy.proofs.sends.ask_column.Given as goal

abbrev pub invariant-loop-acceptor : goal.invariant-loop-acceptor
invariant-loop-acceptor l = record {
  list : l.out.list ++ map (phase2a_to l.me l.pending)
      (filter (λ a. is_in a (column_of l.pending.grid l.col)) (numbers l.acceptor (l.cluster.acceptors - l.acceptor)))
      ≡ map (phase2a_to l.me l.pending) (column_for l.cluster l.pending);
  room : length l.out.list ≤ l.acceptor;
}
