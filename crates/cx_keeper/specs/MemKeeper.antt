-- What a keeper in memory does.
use Rattle.std.specs.Prelude.{◌≡◌, ℕ, Bool, true, List, [], ◌∷◌, ◌++◌, Result, Ok, Err, refl}
use Rattle.std.proofs.Common.{inl, inr, arith, ap}
use Rattle.cx_letter.specs.Prelude.{one_more, Cut, Whole, Torn, Kept}
use Rattle.cx_base.specs.Faults.{one_more_rises, one_more_later}
use Rattle.cx_letter.specs.declared.kept.Record.{Record}
use Rattle.cx_keep.specs.declared.keeper.KeepFault.{KeepFault}
use Rattle.cx_keep.specs.declared.keeper.KeepFault.TheVariants.{Failed, NoMemory}
use Rattle.cx_keep.specs.Keeper.{KeeperChange, Append, Renewal, IsAppend, IsKeeperChange, list_after}

-- the records, how changes go from here on, and how many have failed
pub record MemKeeperState : Type 0 where
  pub kept : List Record
  pub cut : Cut
  pub faults : ℕ

-- what is left of the keeper after a failed change, where this is the list after it
abbrev pub is_left_by_cut : Cut → MemKeeperState → List Record → MemKeeperState → Type 0
is_left_by_cut Whole old list new = ⊥
is_left_by_cut Torn old list new = new ≡ record old { faults = one_more old.faults }
is_left_by_cut Kept old list new = new ≡ record old { kept = list; faults = one_more old.faults }

-- the same of an append
abbrev pub cut_short : Cut → MemKeeperState → Record → MemKeeperState → Type 0
cut_short cut old r new = is_left_by_cut cut old (old.kept ++ r ∷ []) new

-- a change is whole, or cut short as it was set
abbrev pub mem_gives : MemKeeperState → KeeperChange → Result (Unit {0}) KeepFault → MemKeeperState → Type 0
mem_gives old change (Ok u) new = (old.cut ≡ Whole) × (new ≡ record old { kept = list_after old.kept change })
mem_gives old change (Err Failed) new = is_left_by_cut old.cut old (list_after old.kept change) new
mem_gives old change (Err NoMemory) new = new ≡ old

abbrev pub mem_append_gives : MemKeeperState → Record → Result (Unit {0}) KeepFault → MemKeeperState → Type 0
mem_append_gives old r answer new = mem_gives old (Append r) answer new

abbrev pub mem_renew_gives : MemKeeperState → List Record → Result (Unit {0}) KeepFault → MemKeeperState → Type 0
mem_renew_gives old records answer new = mem_gives old (Renewal records) answer new

-- a keeper in memory always tells what it keeps
abbrev pub tells_of : MemKeeperState → Bool
tells_of k = true

abbrev pub kept_of : MemKeeperState → List Record
kept_of k = k.kept

abbrev pub cut_of : MemKeeperState → Cut
cut_of k = k.cut

abbrev pub faults_of : MemKeeperState → ℕ
faults_of k = k.faults

cut_at_is : (cut : Cut) (old : MemKeeperState) (change : KeeperChange) (new : MemKeeperState)
    → is_left_by_cut cut old (list_after old.kept change) new → IsKeeperChange tells_of kept_of faults_of old change (Err Failed) new
cut_at_is Whole old change new h = absurd h
cut_at_is Torn old change new h =
    let e = ap faults_of h in
    record {
      ok = λ e. cc;
      failed = λ _. inl (ap kept_of h);
      cause = λ _. rw e (one_more_rises old.faults);
      no_memory = λ e. cc;
      tells_same = refl;
      still = λ no. absurd (no refl);
      later = rw e (one_more_later old.faults);
    }
cut_at_is Kept old change new h =
    let e = ap faults_of h in
    record {
      ok = λ e. cc;
      failed = λ _. inr (ap kept_of h);
      cause = λ _. rw e (one_more_rises old.faults);
      no_memory = λ e. cc;
      tells_same = refl;
      still = λ no. absurd (no refl);
      later = rw e (one_more_later old.faults);
    }

mem_is : (old : MemKeeperState) (change : KeeperChange) (answer : Result (Unit {0}) KeepFault) (new : MemKeeperState)
    → mem_gives old change answer new → IsKeeperChange tells_of kept_of faults_of old change answer new
mem_is old change (Ok u) new h =
    let e = ap faults_of h.1 in
    record {
      ok = λ _ _. ap kept_of h.1;
      failed = λ e. cc;
      cause = λ e. cc;
      no_memory = λ e. cc;
      tells_same = refl;
      still = λ _. e;
      later = omega arith;
    }
mem_is old change (Err Failed) new h = cut_at_is old.cut old change new h
mem_is old change (Err NoMemory) new h =
    let e = ap faults_of h in
    record {
      ok = λ e. cc;
      failed = λ e. cc;
      cause = λ e. cc;
      no_memory = λ _. ap kept_of h;
      tells_same = refl;
      still = λ _. e;
      later = omega arith;
    }

pub mem_append_is : (old : MemKeeperState) (r : Record) (answer : Result (Unit {0}) KeepFault) (new : MemKeeperState)
    → mem_append_gives old r answer new → IsAppend tells_of kept_of faults_of old r answer new
mem_append_is old r answer new h = mem_is old (Append r) answer new h

pub mem_renew_is : (old : MemKeeperState) (records : List Record) (answer : Result (Unit {0}) KeepFault) (new : MemKeeperState)
    → mem_renew_gives old records answer new → IsKeeperChange tells_of kept_of faults_of old (Renewal records) answer new
mem_renew_is old records answer new h = mem_is old (Renewal records) answer new h
