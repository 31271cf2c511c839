use Rattle.cx_letter.specs.Prelude.{◌≡◌, ◌≤◌, ◌+◌, ◌++◌, drop, role, Reader}
use Rattle.cx_model.specs.Reader.{ask_matchmakers}
use Rattle.cx_reader.proofs.sends.ask_matchmakers.Given as goal

abbrev pub invariant-loop-matchmaker : goal.invariant-loop-matchmaker
invariant-loop-matchmaker l =
    let me = role Reader l.reader in
    (l.out.list ++ ask_matchmakers me (drop l.matchmaker-index l.set) l.turn ≡ l.fn.out.list ++ ask_matchmakers me l.set l.turn)
    × (l.fn.out.spare ≤ l.out.spare + l.matchmaker-index)
