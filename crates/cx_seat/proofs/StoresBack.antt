-- Disks that are given back to their depot, one after the other.
use Rattle.cx_letter.specs.Prelude.{◌≡◌, ◌≤◌, ℕ, Bool, true, List, [], ◌∷◌, Option, Some, RoleId, Rises}
use Rattle.cx_seat.specs.Prelude.{Shelf, Lent}
use Rattle.cx_disk.specs.declared.disk.Disk.{Ghosts as DiskGhosts}
use Rattle.cx_edge.specs.declared.depot.Depot.{Ghosts as DepotGhosts}

-- what a depot shows: what it holds, whether that is known, and its counts
pub record Shown (D S : Type 0) : Type 0 where
  pub tells : D → Bool
  pub stored : D → Shelf → List ℕ
  pub faults : D → RoleId → ℕ
  pub seen : S → Option (List ℕ)
  pub failures : S → ℕ

abbrev pub shown_by : {D S : Type 0} → DepotGhosts D S → DiskGhosts S → Shown D S
shown_by by_depot by_disk =
    record {
      tells = by_depot.tells;
      stored = by_depot.stored;
      faults = by_depot.faults;
      seen = by_disk.seen;
      failures = by_disk.faults;
    }

-- a disk was given back
pub record IsGivenBack {D S : Type 0} (shown : Shown D S) (l : Lent S) (old new : D) : Type 0 where
  pub tells_same : shown.tells new ≡ shown.tells old
  pub stored : shown.tells old ≡ true → (file : List ℕ) → shown.seen l.disk ≡ Some file → shown.stored new l.place ≡ file
  pub others_stored : (a : Shelf) → (a ≡ l.place → ⊥) → shown.stored new a ≡ shown.stored old a
  pub cause : Rises 0 (shown.failures l.disk) → Rises (shown.faults old l.place.role) (shown.faults new l.place.role)
  pub still : shown.failures l.disk ≡ 0 → shown.faults new l.place.role ≡ shown.faults old l.place.role
  pub others : (a : RoleId) → (a ≡ l.place.role → ⊥) → shown.faults new a ≡ shown.faults old a
  pub later : shown.faults old l.place.role ≤ shown.faults new l.place.role

-- all of these were
abbrev pub GiveBack : {D S : Type 0} → Shown D S → List (Lent S) → D → D → Type 0
GiveBack shown [] old new = new ≡ old
GiveBack {D} shown (l ∷ ls) old new = (mid : D) × IsGivenBack shown l old mid × GiveBack shown ls mid new
