use Rattle.cx_letter.specs.Prelude.{◌≡◌, ◌≤◌, ◌+◌, ◌++◌, drop, map, role, Leader}
use Rattle.cx_model.specs.Leader.{match_a_to}
use Rattle.cx_leader.proofs.sending.ask_to_record.Given as goal

abbrev pub invariant-loop-matchmaker : goal.invariant-loop-matchmaker
invariant-loop-matchmaker l =
    let ask = match_a_to (role Leader l.leader) l.round l.grid in
    (l.out.list ++ map ask (drop l.matchmaker-index l.set) ≡ l.fn.out.list ++ map ask l.set)
    × (l.fn.out.spare ≤ l.out.spare + l.matchmaker-index)
