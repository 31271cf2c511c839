-- The places of stores in memory.
use Rattle.std.specs.Prelude.{Bool}
use Rattle.cx_edge.specs.declared.shelf.Shelf.{Shelf}
use Rattle.cx_edge.specs.declared.slot.Slot.{Slot}
use Rattle.cx_edge.specs.Held.{ShelfContent, shelf_row, bytes_of}
use Rattle.cx_edge.specs.Shelf.{same_shelf}

abbrev pub slot_held : Slot → ShelfContent
slot_held slot = shelf_row slot.place (bytes_of slot.disk slot.before.items)

abbrev pub is_slot_at : Shelf → Slot → Bool
is_slot_at place slot = same_shelf place slot.place
