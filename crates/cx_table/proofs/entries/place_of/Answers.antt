use Rattle.cx_table.proofs.Held.{entry_at}
use Rattle.cx_table.proofs.entries.place_of.Goals as goal

pub returns-clause-place : goal.returns-clause-place
returns-clause-place c = entry_at c.args.client c.in_ok-place.place c.in_ok-place.field-0-1.now c.in_ok-place.field-0-2.now
    c.args.entries.now.entries c.in_ok-place.ensures.entry c.in_ok-place.ensures.key c.in_ok-place.ensures.value
