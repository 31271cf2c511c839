use Rattle.cx_base.proofs.Common.{ap, sym, ◌∙◌, position}
use Rattle.cx_disk.specs.MemDiskViews.{mem_disk_bytes}
use Rattle.cx_edge.specs.Slot.{is_slot_at}
use Rattle.cx_edge.proofs.SlotLaws.{slot_filled, slot_nowhere}
use Rattle.cx_edge.proofs.slots.put_back.Goals as goal

pub returns-in-None : goal.returns-in-None
returns-in-None c =
    let found = ap (position (is_slot_at c.args.place)) (sym c.deref.ensures.value) ∙ sym c.slot_at.ensures ∙ c.in-None.is in
    sym (slot_nowhere c.args.place (mem_disk_bytes c.args.disk) c.args.slots.now.items found)

pub returns-in-Some : goal.returns-in-Some
returns-in-Some c =
    let found = ap (position (is_slot_at c.args.place)) (sym c.deref.ensures.value) ∙ sym c.slot_at.ensures ∙ c.in-Some.is in
    slot_filled c.args.place c.args.slots.now.items c.in-Some.at c.index_mut.result.now found c.index_mut.ensures.value c.args.disk
