use Rattle.cx_letter.specs.Prelude.{◌≡◌, ◌≤◌, ◌+◌, ◌++◌, drop, map, role, Leader}
use Rattle.cx_model.specs.Leader.{garbage_a_to}
use Rattle.cx_leader.proofs.sending.ask_to_forget.Given as goal

abbrev pub invariant-loop-matchmaker : goal.invariant-loop-matchmaker
invariant-loop-matchmaker l =
    let ask = garbage_a_to (role Leader l.leader) l.own in
    (l.out.list ++ map ask (drop l.matchmaker-index l.set) ≡ l.fn.out.list ++ map ask l.set)
    × (l.fn.out.spare ≤ l.out.spare + l.matchmaker-index)
