use Rattle.std.proofs.Common.{take}
use Rattle.cx_table.proofs.Pushing.{IsPushed}
use Rattle.cx_table.proofs.table.Table.push.Given as goal

abbrev pub invariant-loop-note : goal.invariant-loop-note
invariant-loop-note l = IsPushed l.client l.floor l.initial.self.table (take l.note-index l.notes) l.self.table
