-- A role with records, as it was woken from its store.
use Rattle.std.specs.Prelude.{◌≡◌, ℕ, Bool, true, List, Option, None, Some, Ok}
use Rattle.cx_model.specs.Prelude.{Cluster, RoleId, Rules, Running, opened, refused, Record}
use Rattle.cx_journal.specs.Files.{Files, files_image}
use Rattle.cx_journal.specs.declared.store.RecordStore.{RecordStore}
use Rattle.cx_seat.specs.Opening.{HasRecords}
use Rattle.cx_seat.specs.Stores.{has_second}

-- It is as the records of its bytes leave it, and its store has them.
pub record IsDurablyOpened {S D V : Type 0} (rules : Rules D V) (seen : S → Option (List ℕ)) (disk_faults : S → ℕ)
    (c : Cluster) (tells : Bool) (files : Files) (me : RoleId) (store : RecordStore S)
    (role : Running D V) : Type 0 where
  pub records : List Record
  pub state : role ≡ opened rules c me records
  pub accepted : refused rules c me records ≡ None
  pub read : tells ≡ true → files_image (Some me.kind) files ≡ Ok records
  pub stored : HasRecords seen disk_faults tells (has_second me.kind) records store
