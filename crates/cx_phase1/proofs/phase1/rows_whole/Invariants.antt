use Rattle.cx_model.specs.Prelude.{◌≡◌, drop, rows_whole}
use Rattle.cx_phase1.proofs.phase1.rows_whole.Given as goal

abbrev pub invariant-loop-entry : goal.invariant-loop-entry
invariant-loop-entry l = rows_whole (drop l.entry-index l.live) l.marks ≡ rows_whole l.live l.marks
