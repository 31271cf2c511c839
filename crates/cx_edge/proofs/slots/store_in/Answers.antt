use Rattle.std.proofs.Common.{◌≡◌, ℕ, List, IfSome, Bor, subst, sym, ◌∙◌}
use Rattle.cx_disk.specs.MemDiskViews.{mem_disk_bytes}
use Rattle.cx_disk.specs.declared.memory.MemDisk.{MemDisk}
use Rattle.cx_edge.proofs.SlotLaws.{slot_bytes}
use Rattle.cx_edge.proofs.slots.store_in.Goals as goal

pub returns-in-Some : goal.returns-in-Some
returns-in-Some c =
    let s = c.index-slots-at.result in
    let bytes = slot_bytes c.args.place c.args.slots.now c.in-Some.at s (sym c.slot_at.ensures ∙ c.in-Some.is) c.index-slots-at.is in
    subst (λ (file : List ℕ). IfSome c.shown.result (λ (disk : Bor MemDisk). mem_disk_bytes disk.now ≡ file)) bytes c.shown.ensures
