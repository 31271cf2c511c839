-- The stores of a role in a depot: one, or of a replica two.
use Rattle.std.specs.Prelude.{◌≡◌, ℕ, Bool, true, false, List, [], ◌∷◌, map, Option, None, Some}
use Rattle.cx_letter.specs.Prelude.{Kind, RoleId}
use Rattle.cx_base.specs.declared.role.Kind.TheVariants as kind
use Rattle.cx_edge.specs.declared.shelf.Shelf.{Shelf}
use Rattle.cx_edge.specs.Shelf.{shelf}
use Rattle.cx_journal.specs.Files.{Files, OneFile, TwoFiles, files_records}
use Rattle.cx_journal.specs.declared.store.RecordStore.{RecordStore}
use Rattle.cx_journal.specs.declared.store.RecordStore.TheVariants.{One, Two}

-- whether a role of this kind has a second store
abbrev pub has_second : Kind → Bool
has_second kind.Replica = true
has_second other = false

abbrev pub files_by : Bool → List ℕ → List ℕ → Files
files_by false first second = OneFile first
files_by true first second = TwoFiles first second

-- what the stores of a role hold, of what is stored at each place
abbrev pub files_of : (Shelf → List ℕ) → RoleId → Files
files_of stored me = files_by (has_second me.kind) (stored (shelf me 0)) (stored (shelf me 1))

-- a store is over two disks
abbrev pub is_two : {D : Type 0} → RecordStore D → Bool
is_two (One j) = false
is_two (Two t) = true

-- a disk that is lent, and its place in the depot
pub record Lent (D : Type 0) : Type 0 where
  pub place : Shelf
  pub disk : D

-- the disks of a role's store, where it has one
abbrev pub disks_of : {D : Type 0} → RoleId → Option (RecordStore D) → List (Lent D)
disks_of me None = []
disks_of me (Some (One j)) = record { place = shelf me 0; disk = j.disk } ∷ []
disks_of me (Some (Two t)) =
    record { place = shelf me 0; disk = t.first } ∷ record { place = shelf me 1; disk = t.second } ∷ []

-- no disk of a store has failed
abbrev pub NoneFailed : {D : Type 0} → (D → ℕ) → RecordStore D → Type 0
NoneFailed disk_faults (One j) = disk_faults j.disk ≡ 0
NoneFailed disk_faults (Two t) = (disk_faults t.first ≡ 0) × (disk_faults t.second ≡ 0)

-- the places of these disks
abbrev pub places_of : {D : Type 0} → List (Lent D) → List Shelf
places_of lent = map (λ l. l.place) lent

-- each role's stores hold the records that they had
abbrev pub SameRecords : (RoleId → Files) → (RoleId → Files) → Type 0
SameRecords stored stored_after = (who : RoleId) → files_records (Some (stored_after who)) ≡ files_records (Some (stored who))
