-- What stores hold.
use Rattle.std.specs.Prelude.{ℕ, Bool, if◌then◌else◌, List, [], ◌∷◌, Option, None, Some}
use Rattle.std.specs.List.{list_any}
use Rattle.cx_base.specs.declared.role.RoleId.{RoleId}
use Rattle.cx_disk.specs.declared.memory.MemDisk.{MemDisk}
use Rattle.cx_disk.specs.MemDiskViews.{mem_disk_bytes}
use Rattle.cx_edge.specs.declared.shelf.Shelf.{Shelf}
use Rattle.cx_edge.specs.Shelf.{same_shelf}

-- the place of a store, and what it holds
pub record ShelfContent : Type 0 where
  pub place : Shelf
  pub bytes : List ℕ

abbrev pub shelf_row : Shelf → List ℕ → ShelfContent
shelf_row place bytes = record { place = place; bytes = bytes }

abbrev pub is_held_at : Shelf → ShelfContent → Bool
is_held_at place row = same_shelf place row.place

-- whether there is a store in this place
abbrev pub has_store : Shelf → List ShelfContent → Bool
has_store place rows = list_any (is_held_at place) rows

-- what the store in a place holds, nothing where there is none
abbrev pub shelf_bytes : List ShelfContent → Shelf → List ℕ
shelf_bytes [] place = []
shelf_bytes (row ∷ rest) place = if is_held_at place row then row.bytes else shelf_bytes rest place

-- the same with other bytes in the store in this place
abbrev pub with_bytes : Shelf → List ℕ → List ShelfContent → List ShelfContent
with_bytes place bytes [] = []
with_bytes place bytes (row ∷ rest) =
    if is_held_at place row then record row { bytes = bytes } ∷ rest else row ∷ with_bytes place bytes rest

-- what a store holds, and while it is out what it held before
abbrev pub bytes_of : Option MemDisk → List ℕ → List ℕ
bytes_of (Some disk) before = mem_disk_bytes disk
bytes_of None before = before

-- a store that isn't out, in its place
abbrev pub store_of : (Shelf × MemDisk) → ShelfContent
store_of pair = shelf_row pair.0 (mem_disk_bytes pair.1)

-- the role that it is one of
abbrev pub shelf_role : (Shelf × MemDisk) → RoleId
shelf_role pair = pair.0.role
