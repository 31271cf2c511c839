-- A record that is refused stands in the list, or the list ends too early, and its end is refused.
use Rattle.cx_inv_run.proofs.Common.{◌≡◌, ◌+◌, ◌≤◌, ℕ, List, [], ◌∷◌, length, None, Some, arith, inl, inr, cases_Bool, same_Some, Cluster}
use Rattle.cx_inv_run.proofs.Common.{RoleId, Rules, refused, refused_from, Record}

refused_before : {D V : Type 0} (rules : Rules D V) (c : Cluster) (me : RoleId) (d : D) (start : ℕ) (rs : List Record)
    (i : ℕ) → refused_from rules c me d start rs ≡ Some i → i ≤ start + length rs
refused_before rules c me d start [] i at = elim (cases_Bool (rules.whole d)) [
  | inl whole ↦ let none : None ≡ Some i = rw whole at at in cc
  | inr early ↦ let here : start ≡ i = same_Some start i (rw early at at) in omega (arith, here)
]
refused_before rules c me d start (r ∷ rs) i at = elim (cases_Bool (rules.fits c me d r)) [
  | inl fits ↦ let further = refused_before rules c me (rules.after d r) (start + 1) rs i (rw fits at at) in omega
      (arith, further)
  | inr not ↦ let here : start ≡ i = same_Some start i (rw not at at) in omega (arith, here)
]

pub refused_within : {D V : Type 0} (rules : Rules D V) (c : Cluster) (me : RoleId) (rs : List Record) (i : ℕ)
    → refused rules c me rs ≡ Some i → i ≤ length rs
refused_within rules c me rs i at =
    let within = refused_before rules c me rules.empty 0 rs i at in omega (arith, within)
