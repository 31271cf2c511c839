use Rattle.cx_letter.specs.Prelude.{◌≡◌, ◌≤◌, ◌+◌, Replacer, ◌++◌, drop, map, role}
use Rattle.cx_model.specs.Replacer.{stop_a_to}
use Rattle.cx_replace.proofs.sends.ask_to_stop.Given as goal

abbrev pub invariant-loop-matchmaker : goal.invariant-loop-matchmaker
invariant-loop-matchmaker l =
    let ask = stop_a_to (role Replacer l.replacer) l.ballot in
    (l.out.list ++ map ask (drop l.matchmaker-index l.set) ≡ l.fn.out.list ++ map ask l.set)
    × (l.fn.out.spare ≤ l.out.spare + l.matchmaker-index)
