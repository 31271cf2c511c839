-- A role that could not be woken: the place in its store, and why it wasn't opened.
use Rattle.cx_model.specs.Prelude.{Cluster, RoleId, Rules, refused}
use Rattle.cx_journal.proofs.Common.{◌≡◌, ◌++◌, ℕ, true, List, length, take, Option, Some, Ok, ap, subst, sym, ◌∙◌, inr, Kind, TwoFiles}
use Rattle.cx_journal.proofs.Common.{front_in, frames, front_of, payloads, pair_image, Record}
use Rattle.cx_seat.specs.Prelude.{shelf, Shelf, unwoken_stop, files_of, has_second}
use Rattle.cx_seat.specs.declared.opening.OpenStop.TheVariants as open_stop
use Rattle.cx_seat.specs.declared.waking.WakeStop.{WakeStop}
use Rattle.cx_seat.specs.declared.waking.WakeStop.TheVariants as wake_stop
use Rattle.cx_seat.specs.Wake.{IsBadStore}
use Rattle.cx_seat.proofs.Lent.{two_files}

-- a record of two files that is refused, or the end of records that end too early
pub bad_place : {D V : Type 0} (rules : Rules D V) (c : Cluster) (me : RoleId) (a b : List ℕ)
    (records recovered : List Record) (index at : ℕ) (gen : Option ℕ) (k : Kind)
    → me.kind ≡ k → pair_image (Some k) a b ≡ Ok records → refused rules c me records ≡ Some index
    → recovered ≡ records → front_of gen ≡ front_in (TwoFiles a b)
    → at ≡ length (front_of gen ++ frames (payloads (take index recovered))) → IsBadStore rules c me (TwoFiles a b) at
bad_place rules c me a b records recovered index at gen k kind read refused same front place =
    inr (
      records,
      ap (λ (k : Kind). pair_image (Some k) a b) kind ∙ read,
      index,
      refused,
      place ∙ ap (λ (bytes : List ℕ). length (bytes ++ frames (payloads (take index recovered)))) front
          ∙ ap (λ (rs : List Record). length (front_in (TwoFiles a b) ++ frames (payloads (take index rs)))) same,
    )

-- the same of what a depot holds
pub bad_two : {D V : Type 0} (rules : Rules D V) (c : Cluster) (stored : Shelf → List ℕ) (me : RoleId) (at : ℕ)
    → has_second me.kind ≡ true → IsBadStore rules c me (TwoFiles (stored (shelf me 0)) (stored (shelf me 1))) at
    → IsBadStore rules c me (files_of stored me) at
bad_two rules c stored me at two bad = subst (λ files. IsBadStore rules c me files at) (sym (two_files stored me two)) bad

-- a store is said to be bad where its role's own is
pub unwoken_bad : (me : RoleId) (stop : WakeStop) (role : RoleId) (at : ℕ)
    → unwoken_stop me stop ≡ open_stop.BadStore role at → (stop ≡ wake_stop.Bad at) × (role ≡ me)
unwoken_bad me wake_stop.Failed role at e = absurd cc
unwoken_bad me (wake_stop.Bad place) role at e = (ap wake_stop.Bad (same_place e), same_role e)
  where
    same_place : open_stop.BadStore me place ≡ open_stop.BadStore role at → place ≡ at
    same_place e = cc

    same_role : open_stop.BadStore me place ≡ open_stop.BadStore role at → role ≡ me
    same_role e = cc
unwoken_bad me wake_stop.NoMemory role at e = absurd cc
