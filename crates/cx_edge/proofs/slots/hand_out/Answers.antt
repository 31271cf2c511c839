use Rattle.cx_base.proofs.Common.{◌≡◌, ℕ, List, IfSome, ap, sym, subst, ◌∙◌, position}
use Rattle.cx_disk.specs.Disk.{Only}
use Rattle.cx_disk.specs.MemDiskViews.{mem_disk_bytes, IsCrashImage}
use Rattle.cx_disk.specs.declared.memory.MemDisk.{MemDisk}
use Rattle.cx_edge.specs.Slot.{is_slot_at}
use Rattle.cx_edge.proofs.SlotLaws.{slot_same, slot_has, slot_bytes, if_some}
use Rattle.cx_edge.proofs.slots.hand_out.Goals as goal

pub returns-in-Some-clause-stored : goal.returns-in-Some-clause-stored
returns-in-Some-clause-stored c =
    let found = ap (position (is_slot_at c.args.place)) (sym c.deref.ensures.value) ∙ sym c.slot_at.ensures ∙ c.in-Some.is in
    slot_same c.args.place c.args.slots.now.items c.in-Some.at c.index_mut.result.now found c.index_mut.ensures.value c.handed_from.new.slot
    c.handed_from.ensures.stored

pub returns-in-Some-clause-known : goal.returns-in-Some-clause-known
returns-in-Some-clause-known c =
    let found = ap (position (is_slot_at c.args.place)) (sym c.deref.ensures.value) ∙ sym c.slot_at.ensures ∙ c.in-Some.is in
    if_some c.handed_from.result
    (slot_has c.args.place c.args.slots.now.items c.in-Some.at c.index_mut.result.now found c.index_mut.ensures.value)

pub returns-in-Some-clause-bytes : goal.returns-in-Some-clause-bytes
returns-in-Some-clause-bytes c =
    let found = ap (position (is_slot_at c.args.place)) (sym c.deref.ensures.value) ∙ sym c.slot_at.ensures ∙ c.in-Some.is in
    let bytes = slot_bytes c.args.place c.args.slots.now.items c.in-Some.at c.index_mut.result.now found c.index_mut.ensures.value in
    subst (λ (file : List ℕ). IfSome c.handed_from.result (λ (disk : MemDisk). mem_disk_bytes disk ≡ file)) bytes
    c.handed_from.ensures.bytes

pub returns-in-Some-clause-durable : goal.returns-in-Some-clause-durable
returns-in-Some-clause-durable c =
    let found = ap (position (is_slot_at c.args.place)) (sym c.deref.ensures.value) ∙ sym c.slot_at.ensures ∙ c.in-Some.is in
    let bytes = slot_bytes c.args.place c.args.slots.now.items c.in-Some.at c.index_mut.result.now found c.index_mut.ensures.value in
    subst (λ (file : List ℕ). IfSome c.handed_from.result (λ (disk : MemDisk). Only file (IsCrashImage disk))) bytes
    c.handed_from.ensures.durable
