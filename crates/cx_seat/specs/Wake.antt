-- How a role is woken from the bytes of its store.
use Rattle.std.specs.Prelude.{◌≡◌, ◌⊎◌, ◌+◌, ◌++◌, ℕ, List, length, take, Option, None, Some, Ok, Err, is_some}
use Rattle.cx_model.specs.Prelude.{Cluster, RoleId, Rules, Running, opened, refused, Record}
use Rattle.cx_journal.specs.Files.{Files, files_image, files_records, front_in}
use Rattle.cx_journal.specs.Journal.{frames}
use Rattle.cx_journal.specs.Payload.{payloads}

-- A role as the records of a store leave it: they are those of its bytes, each is one that the role could have
-- appended, and the store has them, each with a gate.
pub record IsWoken {D V : Type 0} (rules : Rules D V) (c : Cluster) (me : RoleId) (seen seen_after : Option Files)
    (gates : List ℕ) (role : Running D V) : Type 0 where
  pub records : List Record
  pub state : role ≡ opened rules c me records
  pub accepted : refused rules c me records ≡ None
  pub read : (files : Files) → seen ≡ Some files → files_image (Some me.kind) files ≡ Ok records
  pub kept : (files : Files) → seen ≡ Some files → files_records seen_after ≡ records
  pub seen_same : is_some seen_after ≡ is_some seen
  pub each : length gates ≡ length records + 1

-- The place, in the only or live file, at which the bytes are no store of this role: their first break, or that of the
-- first record which the role could not have appended, or the end of records that end too early.
abbrev pub IsBadStore : {D V : Type 0} → Rules D V → Cluster → RoleId → Files → ℕ → Type 0
IsBadStore rules c me files at =
    (files_image (Some me.kind) files ≡ Err at)
    ⊎ ((records : List Record) × (files_image (Some me.kind) files ≡ Ok records)
    × (index : ℕ) × (refused rules c me records ≡ Some index)
    × (at ≡ length (front_in files ++ frames (payloads (take index records)))))
