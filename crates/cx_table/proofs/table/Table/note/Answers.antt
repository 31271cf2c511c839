use Rattle.indexmap.specs.IndexMap.{set_value_at}
use Rattle.cx_base.proofs.Common.{◌≡◌, ◌∙◌, arith, refl, sym, subst, nat_eq, Some, lookup, Table}
use Rattle.cx_table.specs.Entries.{AreClientEntries, rooms_in}
use Rattle.cx_table.specs.Judged.{judge_of}
use Rattle.cx_table.specs.State.{TableState, TakesRoom}
use Rattle.cx_table.specs.declared.judge.Judge.TheVariants as judge
use Rattle.cx_table.proofs.Held.{room_there, write_changed, write_found, write_taken}
use Rattle.cx_table.proofs.Telling.{entry_noted, entry_own, entry_rise, new_number, noted_held}
use Rattle.cx_table.proofs.table.Table.note.Goals as goal
use Rattle.cx_table.proofs.table.Table.note.Goals.{After-index_mut}

-- the table that is noted when the entry is written
abbrev table : After-index_mut → Table
table c = record { floors = c.self.inside.floors.items; notes = c.self.inside.notes.items }

sound : (c : After-index_mut) → AreClientEntries (table c) c.room_at.new.entries.entries
sound c = c.room_at.ensures.still (table c) c.self.invariant

found : (c : After-index_mut)
    → lookup (nat_eq c.args.client) c.room_at.new.entries.entries ≡ Some c.index_mut.result.now
found c = write_found c.room_at.new.entries c.in_ok-place.place c.args.client c.index_mut.result.now c.index_mut.result.now
    c.room_at.ensures.unique c.in_ok-place.ensures.place.at c.index_mut.ensures.value

new : (c : After-index_mut) → judge_of (table c) c.args.client c.args.seq ≡ judge.New
new c = subst (λ (s : TableState). judge_of s.table c.args.client c.args.seq ≡ judge.New) (sym c.self.view_is) c.requires.new

pub note-requires-clause-own : goal.note-requires-clause-own
note-requires-clause-own c =
    let i = (goal.at.note-requires-clause-own c).After-index_mut in
    entry_own (table i) c.room_at.new.entries.entries (sound i) c.args.client c.index_mut.result.now (found i)

pub note-requires-clause-rise : goal.note-requires-clause-rise
note-requires-clause-rise c =
    let i = (goal.at.note-requires-clause-rise c).After-index_mut in
    entry_rise (table i) c.room_at.new.entries.entries (sound i) c.args.client c.index_mut.result.now (found i)

pub note-requires-clause-new : goal.note-requires-clause-new
note-requires-clause-new c =
    let i = (goal.at.note-requires-clause-new c).After-index_mut in
    entry_noted (table i) c.room_at.new.entries.entries (sound i) c.args.client c.index_mut.result.now (found i) c.args.seq
    ∙ (new_number (table i) c.args.client c.args.seq (new i)).1

pub note-requires-clause-room : goal.note-requires-clause-room
note-requires-clause-room c =
    let room = room_there c.args.client 1 c.room_at.new.entries.entries c.in_ok-place.place c.index_mut.result.now
    c.in_ok-place.ensures.place c.index_mut.ensures.value in
    omega arith

pub invariant_of-self-2 : goal.invariant_of-self-2
invariant_of-self-2 c =
    let i = (goal.at.invariant_of-self-2 c).After-index_mut in
    let old = c.index_mut.result.now in
    let es = c.room_at.new.entries.entries in
    let ns = set_value_at es c.in_ok-place.place c.note.new.entry in
    let changed = write_changed c.room_at.new.entries c.in_ok-place.place c.args.client old c.note.new.entry c.room_at.ensures.unique
    c.in_ok-place.ensures.place.at c.index_mut.ensures.value in
    rw (c.with_floor.ensures, c.with_answer.ensures)
    (noted_held (table i) es ns (sound i) c.args.client c.args.floor old c.note.new.entry (found i) changed c.note.ensures.floor
    (record { client = c.args.client; seq = c.args.seq; at = c.args.at; reply = c.args.reply.now }) refl (new i) c.note.ensures.notes)

pub returns-clause-room : goal.returns-clause-room
returns-clause-room c =
    let old = c.index_mut.result.now in
    let taken = write_taken c.room_at.new.entries c.in_ok-place.place c.args.client old c.note.new.entry c.room_at.ensures.unique
    c.in_ok-place.ensures.place.at c.index_mut.ensures.value (omega arith) in
    subst (λ (s : TableState). TakesRoom c.args.client s.rooms
    (rooms_in (set_value_at c.room_at.new.entries.entries c.in_ok-place.place c.note.new.entry))) c.self.view_is
    (λ k. omega (arith, c.room_at.ensures.room k, taken k))
