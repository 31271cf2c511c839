-- What a keeper does that holds the last change of its list alone.
use Rattle.std.specs.Prelude.{◌≡◌, ℕ, Bool, true, false, IsTrue, List, [], ◌∷◌, Option, Some, Result, Ok, Err, refl, option_to_list}
use Rattle.cx_role.specs.Prelude.{Cut, Whole, Torn, Written, Record, KeepFault, Failed, NoMemory, KeeperChange, Append, Renewal, all_fit}
use Rattle.cx_base.specs.declared.event.Cut.TheVariants.{Kept}
use Rattle.cx_letter.specs.declared.input.Written.TheVariants as written
use Rattle.cx_letter.specs.declared.kept.Record.TheVariants as kept
use Rattle.cx_keep.specs.Keeper.{IsAppend, IsKeeperChange}
use Rattle.cx_keeper.specs.MemKeeper.{MemKeeperState, kept_of, faults_of, mem_gives, mem_append_is, mem_renew_is}
use Rattle.cx_history.specs.Kept.{all_changes_fit}

-- a keeper in memory, and the last change of its list, if there was one
pub record LastState : Type 0 where
  pub store : MemKeeperState
  pub last : Option Written

abbrev pub list_kept : LastState → List Record
list_kept k = kept_of k.store

abbrev pub faults_kept : LastState → ℕ
faults_kept k = faults_of k.store

-- it doesn't tell what it keeps
abbrev pub tells_nothing : LastState → Bool
tells_nothing k = false

-- the first slot of a list that begins anew
abbrev pub base_slot : Record → ℕ
base_slot (kept.Base first held pairs clients) = first
base_slot other = 0

abbrev pub first_slot_of : List Record → ℕ
first_slot_of [] = 0
first_slot_of (r ∷ rs) = base_slot r

-- a change as the history has it
abbrev pub written_by : KeeperChange → Written
written_by (Append r) = written.Record r
written_by (Renewal records) = written.Snap (first_slot_of records)

-- the last change after one that failed, which was lost or kept as it was set
abbrev pub last_cut : Cut → Option Written → KeeperChange → Option Written
last_cut Whole last change = last
last_cut Torn last change = last
last_cut Kept last change = Some (written_by change)

-- the last change after one that was answered so
abbrev pub last_after : Cut → Option Written → KeeperChange → Result (Unit {0}) KeepFault → Option Written
last_after cut last change (Ok u) = Some (written_by change)
last_after cut last change (Err Failed) = last_cut cut last change
last_after cut last change (Err NoMemory) = last

-- a change is that of a keeper in memory
abbrev pub last_gives : LastState → KeeperChange → Result (Unit {0}) KeepFault → LastState → Type 0
last_gives old change answer new =
    mem_gives old.store change answer new.store × (new.last ≡ last_after old.store.cut old.last change answer)

abbrev pub last_append_gives : LastState → Record → Result (Unit {0}) KeepFault → LastState → Type 0
last_append_gives old r answer new = last_gives old (Append r) answer new

abbrev pub last_renew_gives : LastState → List Record → Result (Unit {0}) KeepFault → LastState → Type 0
last_renew_gives old records answer new = last_gives old (Renewal records) answer new

-- whether a change put the list anew
abbrev pub is_renewal : Option Written → Bool
is_renewal (Some (written.Snap first)) = true
is_renewal other = false

-- the list that was put anew is held where that was the last change, and what is held has a spelling
pub record IsLastKeeperState (records : List Record) (last : Option Written) (renewed : List Record) : Type 0 where
  pub list : is_renewal last ≡ true → renewed ≡ records
  pub fit : IsTrue (all_changes_fit (option_to_list last))
  pub renewed_fit : IsTrue (all_fit renewed)

pub last_append_is : (old : LastState) (r : Record) (answer : Result (Unit {0}) KeepFault) (new : LastState)
    → last_append_gives old r answer new → IsAppend tells_nothing list_kept faults_kept old r answer new
last_append_is old r answer new h =
    let is = mem_append_is old.store r answer new.store h.0 in
    record {
      ok = λ _ e. cc;
      failed = is.failed;
      cause = is.cause;
      no_memory = is.no_memory;
      tells_same = refl;
      still = is.still;
      later = is.later;
    }

pub last_renew_is : (old : LastState) (records : List Record) (answer : Result (Unit {0}) KeepFault) (new : LastState)
    → last_renew_gives old records answer new → IsKeeperChange tells_nothing list_kept faults_kept old (Renewal records) answer new
last_renew_is old records answer new h =
    let is = mem_renew_is old.store records answer new.store h.0 in
    record {
      ok = λ _ e. cc;
      failed = is.failed;
      cause = is.cause;
      no_memory = is.no_memory;
      tells_same = refl;
      still = is.still;
      later = is.later;
    }
