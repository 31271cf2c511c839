use Rattle.cx_base.proofs.Common.{◌≡◌, ◌∷◌, drop, rises}
use Rattle.cx_table.specs.Entries.{has_lower}
use Rattle.cx_replica.proofs.orders.numbers_behind.Given as goal

abbrev pub invariant-loop-note : goal.invariant-loop-note
invariant-loop-note l = rises has_lower (l.last ∷ drop l.note-index l.notes) ≡ rises has_lower (l.first ∷ l.notes)
