use Rattle.cx_base.proofs.Common.{vec_len, All}
use Rattle.cx_edge.specs.Notes.{FrontFits}
use Rattle.cx_edge.proofs.notes.front_rows.Given as goal

abbrev pub invariant-loop-front : goal.invariant-loop-front
invariant-loop-front l = All (FrontFits (vec_len l.bytes)) l.rows.items
