-- What contracts see of a store: a journal on one disk, or a twin over two.
use Rattle.std.specs.Prelude.{◌≡◌, ℕ, Bool, true, is_some, List, Option, Result, Err}
use Rattle.cx_base.specs.Faults.{one_more}
use Rattle.cx_disk.specs.Disk.{LeavesOnly}
use Rattle.cx_disk.specs.declared.disk.Disk.{Ghosts as DiskGhosts}
use Rattle.cx_keep.specs.Keeper.{KeeperChange, Append, Renewal}
use Rattle.cx_keep.specs.declared.keeper.KeepFault.{KeepFault}
use Rattle.cx_keep.specs.declared.keeper.KeepFault.TheVariants.{Failed}
use Rattle.cx_journal.specs.Appends.{IsJournalAppend}
use Rattle.cx_journal.specs.Files.{Files, OneFile, TwoFiles, both_told, one_told}
use Rattle.cx_journal.specs.State.{JournalState, told_records, IsImageOf}
use Rattle.cx_journal.specs.TwinChanges.{IsTwinChange}
use Rattle.cx_journal.specs.declared.store.RecordStore.{RecordStore}
use Rattle.cx_journal.specs.declared.store.RecordStore.TheVariants.{One, Two}

-- the bytes that its disks tell
abbrev pub store_told : {D : Type 0} → (D → Option (List ℕ)) → RecordStore D → Option Files
store_told seen (One j) = one_told (seen j.disk)
store_told seen (Two t) = both_told (seen t.first) (seen t.second)

-- whether no change has failed since it was read
abbrev pub store_whole : {D : Type 0} → RecordStore D → Bool
store_whole (One j) = j.whole
store_whole (Two t) = t.whole

-- the places of its gates: one for each record, and the closed one
abbrev pub store_gates : {D : Type 0} → RecordStore D → List ℕ
store_gates (One j) = j.gates
store_gates (Two t) = t.gates

-- how often it has failed
abbrev pub store_faults : {D : Type 0} → RecordStore D → ℕ
store_faults (One j) = j.faults
store_faults (Two t) = t.faults

-- a crash may leave these files now
abbrev pub StoreMayLeave : {D : Type 0} → (D → List ℕ → Type 0) → RecordStore D → Files → Type 0
StoreMayLeave may_leave (One j) (OneFile c) = may_leave j.disk c
StoreMayLeave may_leave (Two t) (TwoFiles a b) = may_leave t.first a × may_leave t.second b
StoreMayLeave may_leave other files = ⊥

-- a crash may have left these files, at some moment since the store was as it was
abbrev pub StoreLeftSince : {D : Type 0} → (D → ℕ) → (D → ℕ → List ℕ → Type 0) → RecordStore D → RecordStore D → Files → Type 0
StoreLeftSince moment left_since (One old) (One new) (OneFile c) = left_since new.disk (moment old.disk) c
StoreLeftSince moment left_since (Two old) (Two new) (TwoFiles a b) =
    left_since new.first (moment old.first) a × left_since new.second (moment old.second) b
StoreLeftSince moment left_since old new files = ⊥

-- A change that is refused: it is counted as a failure, and nothing else changes. A crash leaves what it might have left before, which is
-- the records, unless an append has failed.
pub record IsRefused {D : Type 0} (seen : D → Option (List ℕ)) (may_leave : D → List ℕ → Type 0) (moment : D → ℕ) (left_since : D → ℕ
    → List ℕ → Type 0) (old : JournalState D) (answer : Result (Unit {0}) KeepFault) (new : JournalState D) : Type 0 where
  pub failed : answer ≡ Err Failed
  pub counted : new ≡ record old { faults = one_more old.faults }
  pub quiet : LeavesOnly moment left_since old.disk new.disk (may_leave old.disk)
  pub any_moment : old.whole ≡ true → is_some (seen old.disk) ≡ true
      → LeavesOnly moment left_since old.disk new.disk (IsImageOf (told_records (seen old.disk)))

-- a change of a journal on one disk, which can't be put anew
abbrev pub IsJournalChange : {D : Type 0} → DiskGhosts D → JournalState D → KeeperChange → Result (Unit {0}) KeepFault
    → JournalState D → Type 0
IsJournalChange by old (Append r) answer new = IsJournalAppend by.seen by.may_leave by.moment by.left_since by.faults old r answer new
IsJournalChange by old (Renewal records) answer new = IsRefused by.seen by.may_leave by.moment by.left_since old answer new

-- a change of a store: of a journal, or of a twin
abbrev pub IsStoreChange : {D : Type 0} → DiskGhosts D → RecordStore D → KeeperChange → Result (Unit {0}) KeepFault → RecordStore D → Type 0
IsStoreChange by (One old) change answer (One new) = IsJournalChange by old change answer new
IsStoreChange by (Two old) change answer (Two new) =
    IsTwinChange by.seen by.may_leave by.moment by.left_since by.faults old change answer new
IsStoreChange by old change answer new = ⊥
