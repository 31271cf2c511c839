use Rattle.cx_role.proofs.Common.{◌∙◌, live_entries, acked_by}
use Rattle.cx_reader.proofs.Counted.{acked_are, rows_alike}
use Rattle.cx_reader.proofs.batch.Batch.rows_whole.Goals as goal

pub returns : goal.returns
returns c =
    let i = c.self.inside in
    rw (← c.self.view_is, c.rows_whole.ensures, c.deref.ensures.value)
    (rows_alike (live_entries i.told.items) i.counted (acked_by i.acks.items)
    (λ id. c.self.invariant.marked id ∙ acked_are id i.acks.items))
