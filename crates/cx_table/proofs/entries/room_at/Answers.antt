use Rattle.cx_base.proofs.Common.{◌≡◌, ℕ, ◌<◌, ◌≤◌, List, arith, sym, true≢false, nat_eq, None, Some, lookup}
use Rattle.cx_table.specs.Entries.{room_in, rooms_in}
use Rattle.cx_table.specs.State.{room_for}
use Rattle.cx_table.specs.declared.entry.ClientEntry.{ClientEntry}
use Rattle.cx_table.proofs.Held.{enter_kept, enter_room, room_is, room_read, write_held, write_kept, write_room, write_unique}
use Rattle.cx_table.proofs.entries.room_at.Goals as goal

pub returns-in_err-make_room-clause-still : goal.returns-in_err-make_room-clause-still
returns-in_err-make_room-clause-still c =
    write_held c.args.entries.now c.in-Some.place c.args.client c.index_mut.result.now c.make_room.new.entry c.place_of.ensures.unique
    c.in-Some.ensures.place c.index_mut.ensures.value c.make_room.ensures.floor c.make_room.ensures.notes

pub returns-in_err-make_room-clause-room : goal.returns-in_err-make_room-clause-room
returns-in_err-make_room-clause-room c = write_kept c.args.entries.now c.in-Some.place c.args.client c.index_mut.result.now
    c.make_room.new.entry c.place_of.ensures.unique c.in-Some.ensures.place c.index_mut.ensures.value c.make_room.ensures.grows

pub returns-in_err-make_room-clause-succeeds : goal.returns-in_err-make_room-clause-succeeds
returns-in_err-make_room-clause-succeeds c = λ some enough.
    let read : room_for c.args.client (rooms_in c.args.entries.now.entries) ≡ room_in (Some c.index_mut.result.now) =
    room_read c.args.entries.now c.in-Some.place c.args.client c.index_mut.result.now c.make_room.new.entry c.place_of.ensures.unique
    c.in-Some.ensures.place c.index_mut.ensures.value in
    absurd (true≢false (sym (c.in_err-make_room.ensures.succeeds (rw (← read) enough))))

pub returns-in_err-make_room-clause-unique : goal.returns-in_err-make_room-clause-unique
returns-in_err-make_room-clause-unique c = write_unique c.args.entries.now c.in-Some.place c.args.client c.index_mut.result.now
    c.make_room.new.entry c.place_of.ensures.unique c.in-Some.ensures.place c.index_mut.ensures.value

pub returns-in-Some-clause-place : goal.returns-in-Some-clause-place
returns-in-Some-clause-place c = write_room c.args.entries.now c.in-Some.place c.args.client c.index_mut.result.now c.make_room.new.entry
    c.place_of.ensures.unique c.in-Some.ensures.place c.index_mut.ensures.value c.args.count c.in_ok-make_room.ensures.room

pub returns-in-Some-clause-still : goal.returns-in-Some-clause-still
returns-in-Some-clause-still c = write_held c.args.entries.now c.in-Some.place c.args.client c.index_mut.result.now c.make_room.new.entry
    c.place_of.ensures.unique c.in-Some.ensures.place c.index_mut.ensures.value c.make_room.ensures.floor c.make_room.ensures.notes

pub returns-in-Some-clause-room : goal.returns-in-Some-clause-room
returns-in-Some-clause-room c = write_kept c.args.entries.now c.in-Some.place c.args.client c.index_mut.result.now c.make_room.new.entry
    c.place_of.ensures.unique c.in-Some.ensures.place c.index_mut.ensures.value c.make_room.ensures.grows

pub returns-in-Some-clause-unique : goal.returns-in-Some-clause-unique
returns-in-Some-clause-unique c = write_unique c.args.entries.now c.in-Some.place c.args.client c.index_mut.result.now c.make_room.new.entry
    c.place_of.ensures.unique c.in-Some.ensures.place c.index_mut.ensures.value

-- there is no room for a client without an entry
no_room : (client count : ℕ) (es : List (ℕ × ClientEntry)) → lookup (nat_eq client) es ≡ None → 0 < count
    → count ≤ room_for client (rooms_in es) → ⊥
no_room client count es none some enough = (let at_most : count ≤ room_in None = rw (room_is client es, none) at enough in omega arith)

pub returns-in_err-notes-clause-succeeds : goal.returns-in_err-notes-clause-succeeds
returns-in_err-notes-clause-succeeds c =
    λ some enough. absurd (no_room c.args.client c.args.count c.args.entries.now.entries c.in_default.ensures.none some enough)

pub returns-in_err-place-clause-succeeds : goal.returns-in_err-place-clause-succeeds
returns-in_err-place-clause-succeeds c =
    λ some enough. absurd (no_room c.args.client c.args.count c.args.entries.now.entries c.in_default.ensures.none some enough)

pub returns-clause-place : goal.returns-clause-place
returns-clause-place c = enter_room c.args.client (record { floor = None; notes = c.in_ok-notes.notes }) c.args.entries.now.entries
    c.insert_full.new.self.entries c.in_default.ensures.none c.in_ok-place.ensures.entries
    c.in_ok-place.ensures.updates.0 c.args.count c.in_ok-place.place c.in_ok-place.ensures.index
    (omega (arith, c.in_ok-notes.ensures.capacity, c.in_ok-notes.ensures.len))

pub returns-clause-room : goal.returns-clause-room
returns-clause-room c = enter_kept c.args.client (record { floor = None; notes = c.in_ok-notes.notes }) c.args.entries.now.entries
    c.insert_full.new.self.entries c.in_default.ensures.none c.in_ok-place.ensures.entries c.in_ok-place.ensures.updates.0
