use Rattle.cx_letter.specs.Prelude.{◌≡◌, ◌≤◌, ◌+◌, Replacer, ◌++◌, drop, map, role}
use Rattle.cx_model.specs.Replacer.{boot_a_to}
use Rattle.cx_replace.proofs.sends.ask_each_to_begin.Given as goal

abbrev pub invariant-loop-matchmaker : goal.invariant-loop-matchmaker
invariant-loop-matchmaker l =
    let ask = boot_a_to (role Replacer l.replacer) l.next l.watermark l.entries in
    (l.out.list ++ map ask (drop l.matchmaker-index l.ids) ≡ l.fn.out.list ++ map ask l.ids)
    × (l.fn.out.spare ≤ l.out.spare + l.matchmaker-index)
