use Rattle.cx_base.proofs.Common.{ℕ, List, map, ap, sym, subst, ◌∙◌, same_Some}
use Rattle.cx_disk.specs.declared.memory.MemDisk.{MemDisk}
use Rattle.cx_disk.specs.MemDiskViews.{mem_disk_bytes}
use Rattle.cx_edge.specs.Depot.{IsOut}
use Rattle.cx_edge.specs.Held.{ShelfContent, shelf_bytes, has_store}
use Rattle.cx_edge.specs.MemDepot.{DepotState}
use Rattle.cx_edge.specs.Shelf.{shelf}
use Rattle.cx_edge.specs.Slot.{slot_held}
use Rattle.cx_edge.proofs.HeldLaws.{with_own, with_other, with_has}
use Rattle.cx_edge.proofs.ShelfLaws.{still_out}
use Rattle.cx_edge.proofs.mem_depot.MemDepotDepot.close.Goals as goal

pub invariant_of-self : goal.invariant_of-self
invariant_of-self c = λ which out.
    let place = c.new-place.result in
    let before : IsOut which c.self.inside.desk.out = still_out which place c.self.inside.desk.out (rw c.take_back.ensures.out at out) in
    ap (has_store which) c.put_back.ensures ∙ with_has which place _ (map slot_held c.self.inside.slots.items)
    ∙ c.self.invariant which before

pub returns-clause-stored : goal.returns-clause-stored
returns-clause-stored c = λ tells file is_seen.
    let place = shelf c.args.role c.args.side in
    let out : IsOut place c.self.inside.desk.out = subst (λ (d : DepotState). IsOut place d.out) (sym c.self.view_is) c.requires in
    ap (λ (rows : List ShelfContent). shelf_bytes rows place) (rw c.new-place.ensures at c.put_back.ensures)
    ∙ with_own place _ (map slot_held c.self.inside.slots.items) (c.self.invariant place out)
    ∙ ap (λ (p : MemDisk × ℕ). mem_disk_bytes p.0) c.into_parts-disk.ensures
    ∙ same_Some _ _ is_seen

pub returns-clause-others_stored : goal.returns-clause-others_stored
returns-clause-others_stored c = λ which other.
    let place = shelf c.args.role c.args.side in
    ap (λ (rows : List ShelfContent). shelf_bytes rows which) (rw c.new-place.ensures at c.put_back.ensures)
    ∙ with_other which place _ (map slot_held c.self.inside.slots.items) other
    ∙ ap (λ (d : DepotState). shelf_bytes d.stores which) c.self.view_is
