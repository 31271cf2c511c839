use Rattle.cx_role.proofs.Common.{◌≡◌, ◌++◌, map, drop, note_of}
use Rattle.cx_replica.proofs.snap.notes_from.Given as goal

abbrev pub invariant-loop-answer : goal.invariant-loop-answer
invariant-loop-answer l = l.notes.items ++ map note_of (drop l.answer-index l.answers) ≡ map note_of l.answers
