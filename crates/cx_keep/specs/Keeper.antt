-- What a change does to the list of records and to the count of faults.
use Rattle.std.specs.Prelude.{◌≡◌, ◌⊎◌, ◌≤◌, ℕ, Bool, true, List, [], ◌∷◌, ◌++◌, Result, Ok, Err}
use Rattle.cx_letter.specs.Prelude.{list_all, Rises, fits}
use Rattle.cx_letter.specs.declared.kept.Record.{Record}
use Rattle.cx_keep.specs.declared.keeper.KeepFault.{KeepFault}
use Rattle.cx_keep.specs.declared.keeper.KeepFault.TheVariants.{Failed, NoMemory}

-- whether each record's fields are in their ranges
abbrev pub all_fit : List Record → Bool
all_fit records = list_all (λ (r : Record). fits r) records

-- what a keeper is asked to do with its list: to put a record at the end, or these records in the place of all
pub data KeeperChange : Type 0 where
  Append : Record → KeeperChange
  Renewal : List Record → KeeperChange

-- the list after a change
abbrev pub list_after : List Record → KeeperChange → List Record
list_after list (Append r) = list ++ r ∷ []
list_after list (Renewal records) = records

-- Ok: the list after the change, where what is kept is known. Failed, exactly where the count of faults rose: the list, or the
-- list after the change. Out of memory: the list.
pub record IsKeeperChange {K : Type 0} (tells : K → Bool) (kept : K → List Record) (faults : K → ℕ) (old : K) (change : KeeperChange)
    (answer : Result (Unit {0}) KeepFault) (new : K) : Type 0 where
  pub ok : answer ≡ Ok tt → tells old ≡ true → kept new ≡ list_after (kept old) change
  pub failed : answer ≡ Err Failed → (kept new ≡ kept old) ⊎ (kept new ≡ list_after (kept old) change)
  pub cause : answer ≡ Err Failed → Rises (faults old) (faults new)
  pub no_memory : answer ≡ Err NoMemory → kept new ≡ kept old
  pub tells_same : tells new ≡ tells old
  pub still : (answer ≡ Err Failed → ⊥) → faults new ≡ faults old
  pub later : faults old ≤ faults new

-- the same of an append
abbrev pub IsAppend : {K : Type 0} → (K → Bool) → (K → List Record) → (K → ℕ) → K → Record → Result (Unit {0}) KeepFault → K → Type 0
IsAppend tells kept faults old r answer new = IsKeeperChange tells kept faults old (Append r) answer new
