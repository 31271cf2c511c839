-- Why a change of a store is one of a keeper, whether it is over one disk or two.
use Rattle.std.specs.Prelude.{◌≡◌, ℕ, Bool, ◌&&◌, is_some, List, Option, Some, None, Result}
use Rattle.std.proofs.Common.{refl, sym, ◌∙◌, ap, inl}
use Rattle.cx_base.specs.Faults.{one_more_rises, one_more_later}
use Rattle.cx_letter.specs.declared.kept.Record.{Record}
use Rattle.cx_disk.specs.declared.disk.Disk.{Ghosts as DiskGhosts}
use Rattle.cx_keep.specs.Keeper.{KeeperChange, Append, Renewal, IsKeeperChange}
use Rattle.cx_keep.specs.declared.keeper.KeepFault.{KeepFault}
use Rattle.cx_journal.specs.Files.{both_told, files_records, one_told}
use Rattle.cx_journal.specs.State.{JournalState, told_records}
use Rattle.cx_journal.specs.Store.{store_told, store_faults, IsRefused, IsStoreChange}
use Rattle.cx_journal.specs.Twin.{pair_records, seen_pair_records}
use Rattle.cx_journal.specs.TwinChanges.{both_tell}
use Rattle.cx_journal.specs.declared.store.RecordStore.{RecordStore}
use Rattle.cx_journal.specs.declared.store.RecordStore.TheVariants.{One, Two}

-- what one disk tells, or two, as files
pub one_tells : (seen : Option (List ℕ)) → is_some (one_told seen) ≡ is_some seen
one_tells None = refl
one_tells (Some file) = refl

pub one_records : (seen : Option (List ℕ)) → files_records (one_told seen) ≡ told_records seen
one_records None = refl
one_records (Some file) = refl

pub both_tells : (a b : Option (List ℕ)) → is_some (both_told a b) ≡ (is_some a && is_some b)
both_tells None b = refl
both_tells (Some a) None = refl
both_tells (Some a) (Some b) = refl

pub both_records : (a b : Option (List ℕ)) → files_records (both_told a b) ≡ pair_records a b
both_records None b = refl
both_records (Some a) None = refl
both_records (Some a) (Some b) = refl

-- what a keeper does is what one does that tells, keeps and counts the same
changed_so : {K L : Type 0} (as_other : K → L) (tells : K → Bool) (kept : K → List Record) (faults : K → ℕ) (other_tells : L → Bool)
    (other_kept : L → List Record) (other_faults : L → ℕ)
    → ((k : K) → other_tells (as_other k) ≡ tells k) → ((k : K) → other_kept (as_other k) ≡ kept k)
    → ((k : K) → other_faults (as_other k) ≡ faults k)
    → (old : K) (change : KeeperChange) (answer : Result (Unit {0}) KeepFault) (new : K) → IsKeeperChange tells kept faults old change
    answer new → IsKeeperChange other_tells other_kept other_faults (as_other old) change answer (as_other new)
changed_so as_other tells kept faults other_tells other_kept other_faults tells_is kept_is faults_is old change answer new is =
    record {
      ok = λ ok is_seen. rw (kept_is new, kept_is old) (is.ok ok (sym (tells_is old) ∙ is_seen));
      failed = λ failed. rw (kept_is new, kept_is old) (is.failed failed);
      cause = λ failed. rw (faults_is new, faults_is old) (is.cause failed);
      no_memory = λ lacks. rw (kept_is new, kept_is old) (is.no_memory lacks);
      tells_same = rw (tells_is new, tells_is old) is.tells_same;
      still = λ no. rw (faults_is new, faults_is old) (is.still no);
      later = rw (faults_is new, faults_is old) is.later;
    }

module _ {D : Type 0} (by : DiskGhosts D) where
  abbrev store_tells : RecordStore D → Bool
  store_tells s = is_some (store_told by.seen s)

  abbrev store_kept : RecordStore D → List Record
  store_kept s = files_records (store_told by.seen s)

  refused_is : (old : JournalState D) (change : KeeperChange) (answer : Result (Unit {0}) KeepFault) (new : JournalState D)
      → IsRefused by.seen by.may_leave by.moment by.left_since old answer new
      → IsKeeperChange store_tells store_kept store_faults (One old) change answer (One new)
  refused_is old change answer new is =
      let disk = ap (λ (j : JournalState D). j.disk) is.counted in
      let faults = ap (λ (j : JournalState D). j.faults) is.counted in
      let failed = is.failed in
      record {
        ok = λ ok is_seen. cc;
        failed = λ _. inl (rw disk refl);
        cause = λ _. rw faults (one_more_rises old.faults);
        no_memory = λ lacks. cc;
        tells_same = rw disk refl;
        still = λ no. absurd (no failed);
        later = rw faults (one_more_later old.faults);
      }

  -- a change of a store is one of a keeper
  pub store_change_is : (old : RecordStore D) (change : KeeperChange) (answer : Result (Unit {0}) KeepFault) (new : RecordStore D)
      → IsStoreChange by old change answer new → IsKeeperChange store_tells store_kept store_faults old change answer new
  store_change_is (One old) (Append r) answer (One new) is = changed_so One (λ j. is_some (by.seen j.disk))
      (λ j. told_records (by.seen j.disk)) (λ j. j.faults) store_tells store_kept store_faults
      (λ j. one_tells (by.seen j.disk)) (λ j. one_records (by.seen j.disk)) (λ j. refl) old (Append r) answer new is.appends
  store_change_is (One old) (Renewal records) answer (One new) is = refused_is old (Renewal records) answer new is
  store_change_is (Two old) change answer (Two new) is = changed_so Two (λ t. both_tell by.seen t.first t.second)
      (λ t. seen_pair_records by.seen t.first t.second) (λ t. t.faults) store_tells store_kept store_faults
      (λ t. both_tells (by.seen t.first) (by.seen t.second)) (λ t. both_records (by.seen t.first) (by.seen t.second)) (λ t. refl) old change
      answer new is.changes
  store_change_is (One old) change answer (Two new) is = absurd is
  store_change_is (Two old) change answer (One new) is = absurd is
