-- What a change of a store leaves, whether it is over one disk or two.
use Rattle.std.proofs.Common.{◌≡◌, ◌⊎◌, inl, ℕ, true, List, Option, Result, Ok, refl, sym, ◌∙◌}
use Rattle.std.specs.Prelude.{is_some}
use Rattle.cx_disk.specs.declared.disk.Disk.{Ghosts as DiskGhosts}
use Rattle.cx_keep.specs.Keeper.{KeeperChange, Append, Renewal, list_after}
use Rattle.cx_keep.specs.declared.keeper.KeepFault.{KeepFault}
use Rattle.cx_journal.specs.Files.{Files, OneFile, TwoFiles, files_records, IsFilesImageOf}
use Rattle.cx_journal.specs.Store.{store_told, store_whole, StoreMayLeave, StoreLeftSince, IsStoreChange}
use Rattle.cx_journal.specs.StoreLaw.{one_tells, one_records, both_tells, both_records}
use Rattle.cx_journal.specs.Twin.{TwinState, BothTell}
use Rattle.cx_journal.specs.declared.store.RecordStore.{RecordStore}
use Rattle.cx_journal.specs.declared.store.RecordStore.TheVariants.{One, Two}
use Rattle.cx_journal.proofs.Payloads.{both_so}

-- The files of a twin are known exactly where both disks tell.
pub two_tell : {D : Type 0} (seen : D → Option (List ℕ)) (t : TwinState D) → is_some (store_told seen (Two t)) ≡ true
    → BothTell seen t.first t.second
two_tell seen t is_seen =
    both_so (is_some (seen t.first)) (is_some (seen t.second)) (sym (both_tells (seen t.first) (seen t.second)) ∙ is_seen)

pub tells_two : {D : Type 0} (seen : D → Option (List ℕ)) (t : TwinState D) → BothTell seen t.first t.second
    → is_some (store_told seen (Two t)) ≡ true
tells_two seen t is_seen = both_tells (seen t.first) (seen t.second) ∙ rw (is_seen.0, is_seen.1) refl

module _ {D : Type 0} (by : DiskGhosts D) where
  -- At Ok a store is whole, and every crash from then on leaves the list after the change.
  pub store_whole_after : (old : RecordStore D) (change : KeeperChange) (new : RecordStore D) → IsStoreChange by old change (Ok tt) new
      → store_whole new ≡ true
  store_whole_after (One old) (Append r) (One new) is = is.whole refl
  store_whole_after (One old) (Renewal records) (One new) is = absurd cc
  store_whole_after (Two old) change (Two new) is = is.whole refl
  store_whole_after (One old) change (Two new) is = absurd is
  store_whole_after (Two old) change (One new) is = absurd is

  -- files of one kind
  pub store_lasts : (old : RecordStore D) (change : KeeperChange) (new : RecordStore D) → IsStoreChange by old change (Ok tt) new
      → is_some (store_told by.seen old) ≡ true
      → (files : Files) → StoreMayLeave by.may_leave new files
      → IsFilesImageOf (list_after (files_records (store_told by.seen old)) change) files
  store_lasts (One old) (Append r) (One new) is is_seen (OneFile c) left =
      rw (one_records (by.seen old.disk)) (is.lasts refl (sym (one_tells (by.seen old.disk)) ∙ is_seen) c left)
  store_lasts (One old) (Renewal records) (One new) is is_seen files left = absurd cc
  store_lasts (Two old) change (Two new) is is_seen (TwoFiles a b) left =
      rw (both_records (by.seen old.first) (by.seen old.second)) (is.lasts refl (two_tell by.seen old is_seen) a b left.0 left.1)
  store_lasts old change (One new) is is_seen (TwoFiles a b) left = absurd left
  store_lasts old change (Two new) is is_seen (OneFile c) left = absurd left
  store_lasts (One old) change (Two new) is is_seen files left = absurd is
  store_lasts (Two old) change (One new) is is_seen files left = absurd is

  -- From a whole store on, a crash at any moment of a change leaves the list, or the list after the change.
  pub store_at_any_moment : (old : RecordStore D) (change : KeeperChange) (answer : Result (Unit {0}) KeepFault) (new : RecordStore D)
      → IsStoreChange by old change answer new → store_whole old ≡ true → is_some (store_told by.seen old) ≡ true
      → (files : Files) → StoreLeftSince by.moment by.left_since old new files → IsFilesImageOf (files_records (store_told by.seen old))
      files ⊎ IsFilesImageOf (list_after (files_records (store_told by.seen old)) change) files
  store_at_any_moment (One old) (Append r) answer (One new) is whole is_seen (OneFile c) left =
      rw (one_records (by.seen old.disk)) ((is.any_moment whole (sym (one_tells (by.seen old.disk)) ∙ is_seen)).each c left)
  store_at_any_moment (One old) (Renewal records) answer (One new) is whole is_seen (OneFile c) left =
      inl (rw (one_records (by.seen old.disk)) ((is.any_moment whole (sym (one_tells (by.seen old.disk)) ∙ is_seen)).each c left))
  store_at_any_moment (Two old) change answer (Two new) is whole is_seen (TwoFiles a b) left =
      rw (both_records (by.seen old.first) (by.seen old.second))
      ((is.any_moment whole (two_tell by.seen old is_seen)).each a b left.0 left.1)
  store_at_any_moment (One old) change answer (One new) is whole is_seen (TwoFiles a b) left = absurd left
  store_at_any_moment (Two old) change answer (Two new) is whole is_seen (OneFile c) left = absurd left
  store_at_any_moment (One old) change answer (Two new) is whole is_seen files left = absurd is
  store_at_any_moment (Two old) change answer (One new) is whole is_seen files left = absurd is
