use Rattle.cx_role.proofs.Common.{◌≡◌, take}
use Rattle.cx_reader.proofs.batch.copied.Given as goal

abbrev pub invariant-loop-answer : goal.invariant-loop-answer
invariant-loop-answer l = l.list.items ≡ take l.answer-index l.told
