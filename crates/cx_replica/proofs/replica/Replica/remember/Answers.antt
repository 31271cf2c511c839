use Rattle.cx_replica.proofs.Rows.{base_held, log_fits, notes_fit, tail_fits}
use Rattle.cx_replica.proofs.replica.Replica.remember.Goals as goal

pub remember_log-requires-clause-ranges : goal.remember_log-requires-clause-ranges
remember_log-requires-clause-ranges c = rw c.as_slice.ensures.items (log_fits c.in-Log.values (rw c.in-Log.is at c.requires.ranges))

pub remember_base-requires-clause-held : goal.remember_base-requires-clause-held
remember_base-requires-clause-held c =
    base_held c.in-Base.first c.in-Base.held c.in-Base.pairs c.in-Base.clients (rw c.in-Base.is at c.requires.ranges)

pub remember_notes-requires-clause-fit : goal.remember_notes-requires-clause-fit
remember_notes-requires-clause-fit c = rw c.as_slice-in-Notes.ensures.items
    (notes_fit c.in-Notes.client c.in-Notes.floor c.in-Notes.notes (rw c.in-Notes.is at c.requires.ranges))

pub remember_tail-requires-clause-ranges : goal.remember_tail-requires-clause-ranges
remember_tail-requires-clause-ranges c =
    rw c.as_slice-in-Tail.ensures.items (tail_fits c.in-Tail.values (rw c.in-Tail.is at c.requires.ranges))
