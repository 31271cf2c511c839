use Rattle.cx_model.specs.Prelude.{◌≡◌, ◌≤◌, ◌+◌, ◌++◌, true, map, drop, length, list_all, Answered, answer_to}
use Rattle.cx_field.specs.Fields.{answered}
use Rattle.cx_batch.proofs.unbatcher.answer_all.Given as goal

abbrev pub invariant-loop-answer : goal.invariant-loop-answer
invariant-loop-answer l = record {
  list : l.out.list ++ map (answer_to l.me) (drop l.answer-index l.answers)
      ≡ l.fn.out.list ++ map (answer_to l.me) l.answers;
  spare : length l.answers ≤ l.out.spare + l.answer-index;
  fit : list_all (λ (a : Answered). answered.fits a) (drop l.answer-index l.answers) ≡ true;
}
