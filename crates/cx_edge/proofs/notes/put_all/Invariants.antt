use Rattle.cx_base.proofs.Common.{ℕ, All}
use Rattle.cx_edge.specs.Notes.{Fits, FrontFits}
use Rattle.cx_edge.proofs.notes.put_all.Given as goal

abbrev pub invariant-loop-front : goal.invariant-loop-front
invariant-loop-front l = (n : ℕ) → All (FrontFits n) l.fronts → All (Fits n) l.fn.waiting.items → All (Fits n) l.waiting.items
