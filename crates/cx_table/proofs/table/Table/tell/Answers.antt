use Rattle.indexmap.specs.IndexMap.{set_value_at}
use Rattle.cx_base.proofs.Common.{◌≡◌, arith, subst, nat_eq, Some, lookup, Table}
use Rattle.cx_table.specs.Entries.{rooms_in}
use Rattle.cx_table.specs.State.{KeepsRoom, TableState}
use Rattle.cx_table.proofs.Held.{write_changed, write_found, write_kept}
use Rattle.cx_table.proofs.Telling.{entry_rise, told_held}
use Rattle.cx_table.proofs.table.Table.tell.Goals as goal
use Rattle.cx_table.proofs.table.Table.tell.Goals.{After-index_mut}

abbrev table : After-index_mut → Table
table c = record { floors = c.self.inside.floors.items; notes = c.self.inside.notes.items }

found : (c : After-index_mut)
    → lookup (nat_eq c.args.client) c.self.inside.entries.entries ≡ Some c.index_mut.result.now
found c = write_found c.self.inside.entries c.in-Some.place c.args.client c.index_mut.result.now c.index_mut.result.now
    c.place_of.ensures.unique c.in-Some.ensures.place c.index_mut.ensures.value

pub tell-requires : goal.tell-requires
tell-requires c =
    let i = (goal.at.tell-requires c).After-index_mut in
    entry_rise (table i) c.self.inside.entries.entries c.self.invariant c.args.client c.index_mut.result.now (found i)

pub invariant_of-self : goal.invariant_of-self
invariant_of-self c =
    let i = (goal.at.invariant_of-self c).After-index_mut in
    let old = c.index_mut.result.now in
    let es = c.self.inside.entries.entries in
    let changed = write_changed c.self.inside.entries c.in-Some.place c.args.client old c.tell.new.entry c.place_of.ensures.unique
    c.in-Some.ensures.place c.index_mut.ensures.value in
    rw (c.with_floor.ensures, c.still_noted.ensures) (told_held (table i) es (set_value_at es c.in-Some.place c.tell.new.entry)
    c.self.invariant c.args.client c.args.floor old c.tell.new.entry (found i) changed c.tell.ensures.floor c.tell.ensures.notes)

pub returns-clause-room : goal.returns-clause-room
returns-clause-room c =
    subst (λ (s : TableState). KeepsRoom s.rooms (rooms_in (set_value_at c.self.inside.entries.entries c.in-Some.place c.tell.new.entry)))
    c.self.view_is
    (write_kept c.self.inside.entries c.in-Some.place c.args.client c.index_mut.result.now c.tell.new.entry c.place_of.ensures.unique
    c.in-Some.ensures.place c.index_mut.ensures.value (omega arith))
