-- What the giving back of stores leaves of a depot.
use Rattle.std.specs.Prelude.{◌≡◌, ◌≤◌, ℕ, Bool, true, List, Option, Some, slice_get}
use Rattle.cx_letter.specs.Prelude.{RoleId, Rises}
use Rattle.cx_disk.specs.declared.disk.Disk.{Ghosts as DiskGhosts}
use Rattle.cx_edge.specs.declared.depot.Depot.{Ghosts as DepotGhosts}
use Rattle.cx_edge.specs.declared.shelf.Shelf.{Shelf}
use Rattle.cx_journal.specs.declared.store.RecordStore.{RecordStore}
use Rattle.cx_seat.specs.declared.guest.Guest.{Guest}
use Rattle.cx_seat.specs.Opening.{disks_in}
use Rattle.cx_seat.specs.Stores.{Lent}

-- These disks were given back: the depot holds at its place what each holds, elsewhere what it had, and each fault of
-- one, and nothing else, has raised its role's count.
pub record GivesBack {D : Type 0} (seen : D → Option (List ℕ)) (disk_faults : D → ℕ) (lent : List (Lent D))
    (tells : Bool) (stored stored_after : Shelf → List ℕ) (faults faults_after : RoleId → ℕ) : Type 0 where
  pub holds : tells ≡ true → (i : ℕ) (l : Lent D) (file : List ℕ) → slice_get lent i ≡ Some l
      → seen l.disk ≡ Some file → stored_after l.place ≡ file
  pub others : (place : Shelf) → ((i : ℕ) (l : Lent D) → slice_get lent i ≡ Some l → l.place ≡ place → ⊥)
      → stored_after place ≡ stored place
  pub failed : (i : ℕ) (l : Lent D) → slice_get lent i ≡ Some l → Rises 0 (disk_faults l.disk)
      → Rises (faults l.place.role) (faults_after l.place.role)
  pub still : (role : RoleId)
      → ((i : ℕ) (l : Lent D) → slice_get lent i ≡ Some l → l.place.role ≡ role → disk_faults l.disk ≡ 0)
      → faults_after role ≡ faults role
  pub later : (role : RoleId) → faults role ≤ faults_after role

-- the disks of these roles were given back to this depot
abbrev pub AreGivenBack : {D S : Type 0} → DepotGhosts D S → DiskGhosts S → List (Guest (RecordStore S)) → D → D → Type 0
AreGivenBack by_depot by_disk guests old new =
    GivesBack by_disk.seen by_disk.faults (disks_in guests) (by_depot.tells old)
    (by_depot.stored old) (by_depot.stored new) (by_depot.faults old) (by_depot.faults new)
