-- What a change of a twin gives.
use Rattle.std.specs.Prelude.{◌≡◌, ◌⊎◌, ◌+◌, ◌≤◌, ◌&&◌, ℕ, Bool, true, false, is_some, List, length, Option, None, Result, Ok, Err}
use Rattle.cx_base.specs.Faults.{Rises}
use Rattle.cx_letter.specs.declared.kept.Record.{Record}
use Rattle.cx_keep.specs.Keeper.{KeeperChange, Append, Renewal, IsKeeperChange, list_after}
use Rattle.cx_keep.specs.declared.keeper.KeepFault.{KeepFault}
use Rattle.cx_keep.specs.declared.keeper.KeepFault.TheVariants.{Failed, NoMemory}
use Rattle.cx_journal.specs.Appends.{count_append}
use Rattle.cx_journal.specs.Payload.{all_kept_by}
use Rattle.cx_journal.specs.Twin.{TwinState, BothTell, seen_pair_records, LeavesSame, LeavesTwo, IsPairImageOf}

-- whether the bytes of both disks are known
abbrev pub both_tell : {D : Type 0} → (D → Option (List ℕ)) → D → D → Bool
both_tell seen first second = is_some (seen first) && is_some (seen second)

-- how many gates there are after a change, the closed one counted
abbrev pub gates_after : KeeperChange → ℕ → ℕ
gates_after (Append r) gates = gates + 1
gates_after (Renewal records) gates = length records + 1

-- the count of one of two disks rose
abbrev pub OneRises : {D : Type 0} → (D → ℕ) → D → D → D → D → Type 0
OneRises disk_faults first second new_first new_second =
    Rises (disk_faults first) (disk_faults new_first) ⊎ Rises (disk_faults second) (disk_faults new_second)

-- The records were read again, and then changed: a crash before the change leaves what one before the call might have left; one since
-- then leaves the records, or those after the change.
pub record IsAgain {D : Type 0} (may_leave : D → List ℕ → Type 0) (moment : D → ℕ) (left_since : D → ℕ → List ℕ → Type 0)
    (first second new_first new_second : D) (old new : List Record) : Type 0 where
  pub read_first : D
  pub read_second : D
  pub before : LeavesSame may_leave moment left_since first second read_first read_second
  pub since : LeavesTwo moment left_since read_first read_second new_first new_second old new

-- A change as of each keeper, where all records have their fields in their ranges, and: a crash at any moment of it leaves the records, or
-- those after the change; where they had to be read again first, it may before that leave what it might have left before the call.
-- At Ok, every crash from then on leaves the records after the change. Out of memory, nothing changes, unless they had to be
-- read again. It fails only where the count of one of the disks rose, unless their bytes are not known; and these rise only where it fails.
pub record IsTwinChange {D : Type 0} (seen : D → Option (List ℕ)) (may_leave : D → List ℕ → Type 0) (moment : D → ℕ)
    (left_since : D → ℕ → List ℕ → Type 0) (disk_faults : D → ℕ)
    (old : TwinState D) (change : KeeperChange) (answer : Result (Unit {0}) KeepFault) (new : TwinState D) : Type 0 where
  pub changes : IsKeeperChange (λ (t : TwinState D). both_tell seen t.first t.second)
      (λ (t : TwinState D). seen_pair_records seen t.first t.second) (λ (t : TwinState D). t.faults) old change answer new
  pub fit : BothTell seen old.first old.second → all_kept_by None (seen_pair_records seen old.first old.second) ≡ true
  pub fit_after : BothTell seen old.first old.second
      → all_kept_by None (list_after (seen_pair_records seen old.first old.second) change) ≡ true
  pub any_moment : old.whole ≡ true → BothTell seen old.first old.second → LeavesTwo moment left_since old.first old.second new.first
      new.second (seen_pair_records seen old.first old.second) (list_after (seen_pair_records seen old.first old.second) change)
  pub read_again : old.whole ≡ false → BothTell seen old.first old.second
      → LeavesSame may_leave moment left_since old.first old.second new.first new.second
      ⊎ IsAgain may_leave moment left_since old.first old.second new.first new.second (seen_pair_records seen old.first old.second)
      (list_after (seen_pair_records seen old.first old.second) change)
  pub lasts : answer ≡ Ok tt → BothTell seen old.first old.second → (a b : List ℕ) → may_leave new.first a → may_leave new.second b
      → IsPairImageOf (list_after (seen_pair_records seen old.first old.second) change) a b
  pub whole : answer ≡ Ok tt → new.whole ≡ true
  pub placed : answer ≡ Ok tt → old.whole ≡ true → length new.gates ≡ gates_after change (length old.gates)
  pub disk_cause : answer ≡ Err Failed → BothTell seen old.first old.second → OneRises disk_faults old.first old.second new.first new.second
  pub whole_cause : answer ≡ Err Failed → old.whole ≡ true → OneRises disk_faults old.first old.second new.first new.second
  pub first_later : disk_faults old.first ≤ disk_faults new.first
  pub second_later : disk_faults old.second ≤ disk_faults new.second
  pub disk_still : (answer ≡ Err Failed → ⊥)
      → (disk_faults new.first ≡ disk_faults old.first) × (disk_faults new.second ≡ disk_faults old.second)
  pub counted : new.faults ≡ count_append answer old.faults
  pub no_memory : answer ≡ Err NoMemory → old.whole ≡ true → new ≡ old
