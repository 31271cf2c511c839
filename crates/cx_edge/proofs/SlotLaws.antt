-- A change of one slot, as what all stores hold shows it.
use Rattle.std.proofs.Math.ListN.{get_or-map}
use Rattle.std.proofs.lemmas.List.{map-set, set-get_or}
use Rattle.cx_base.proofs.Common.{◌≡◌, ◌<◌, ℕ, true, false, List, length, map, arith, refl, sym, ap, subst, ◌∙◌, Option, None, Some, IfSome}
use Rattle.cx_base.proofs.Common.{slice_index_or, slice_set, ◌≤◌, [], ◌∷◌, inl, inr, cases_Bool, position, position_or_len, length-map}
use Rattle.cx_base.proofs.Common.{position-Some}
use Rattle.cx_disk.specs.declared.memory.MemDisk.{MemDisk}
use Rattle.cx_disk.specs.MemDiskViews.{mem_disk_bytes}
use Rattle.cx_edge.specs.declared.shelf.Shelf.{Shelf}
use Rattle.cx_edge.specs.declared.slot.Slot.{Slot}
use Rattle.cx_edge.specs.Held.{ShelfContent, is_held_at, has_store, shelf_bytes, with_bytes}
use Rattle.cx_edge.specs.Slot.{slot_held, is_slot_at}
use Rattle.cx_edge.proofs.HeldLaws.{held_at, with_at}
use Rattle.cx_edge.proofs.DeskLaws.{past_end}

pub if_some : {T : Type 0} {P : Type 0} (o : Option T) → P → IfSome o (λ x. P)
if_some None p = tt
if_some (Some x) p = p

module _ (place : Shelf) (slots : List Slot) (i : ℕ) (s : Slot) (found : position (is_slot_at place) slots ≡ Some i)
    (there : s ≡ slice_index_or slots i s) where
  row : (k : ℕ) → slice_index_or (map slot_held slots) k (slot_held s) ≡ slot_held (slice_index_or slots k s)
  row k = get_or-map slot_held slots k s

  within : i < length (map slot_held slots)
  within = subst (λ n. i < n) (sym (length-map _ _)) (position-Some (is_slot_at place) slots i s found).0

  is : is_held_at place (slice_index_or (map slot_held slots) i (slot_held s)) ≡ true
  is = ap (is_held_at place) (row i) ∙ (position-Some (is_slot_at place) slots i s found).1

  before : (k : ℕ) → k < i → is_held_at place (slice_index_or (map slot_held slots) k (slot_held s)) ≡ false
  before k less = ap (is_held_at place) (row k) ∙ (position-Some (is_slot_at place) slots i s found).2 k less

  this : slice_index_or (map slot_held slots) i (slot_held s) ≡ slot_held s
  this = row i ∙ ap slot_held (sym there)

  pub slot_same : (new : Slot) → slot_held new ≡ slot_held s → map slot_held (slice_set slots i new) ≡ map slot_held slots
  slot_same new same = map-set slot_held slots i new ∙ ap (slice_set (map slot_held slots) i) (same ∙ sym this)
      ∙ set-get_or (map slot_held slots) i (slot_held s)

  pub slot_has : has_store place (map slot_held slots) ≡ true
  slot_has = (held_at place (map slot_held slots) i (slot_held s) within is before).1

  pub slot_bytes : (slot_held s).bytes ≡ shelf_bytes (map slot_held slots) place
  slot_bytes = sym ((held_at place (map slot_held slots) i (slot_held s) within is before).0 ∙ ap (λ (r : ShelfContent). r.bytes) this)

  pub slot_filled : (disk : MemDisk) → map slot_held (slice_set slots i (record { place = s.place; disk = Some disk; before = s.before }))
      ≡ with_bytes place (mem_disk_bytes disk) (map slot_held slots)
  slot_filled disk =
      map-set slot_held slots i (record { place = s.place; disk = Some disk; before = s.before })
      ∙ ap (λ (r : ShelfContent). slice_set (map slot_held slots) i (record r { bytes = mem_disk_bytes disk })) (sym this)
      ∙ with_at place (mem_disk_bytes disk) (map slot_held slots) i (slot_held s) within is before

pub slot_nowhere : (place : Shelf) (bytes : List ℕ) (slots : List Slot) → position (is_slot_at place) slots ≡ None
    → with_bytes place bytes (map slot_held slots) ≡ map slot_held slots
slot_nowhere place bytes slots none = go slots (past_end (is_slot_at place) slots none)
  where
    go : (ss : List Slot) → length ss ≤ position_or_len (is_slot_at place) ss → with_bytes place bytes (map slot_held ss) ≡ map slot_held ss
    go [] past = refl
    go (s ∷ rest) past = elim (cases_Bool (is_slot_at place s)) [
      | inl is ↦ absurd (omega (arith, rw is at past))
      | inr other ↦ rw other (ap (λ (rs : List ShelfContent). slot_held s ∷ rs) (go rest (omega (arith, rw other at past))))
    ]
