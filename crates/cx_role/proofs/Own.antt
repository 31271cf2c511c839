-- A role opens from what its own steps appended.
use Rattle.cx_role.proofs.Common.{◌≡◌, ◌+◌, ℕ, true, List, [], ◌∷◌, ◌++◌, None, refl, arith, nat_tests, Cluster, RoleId, Rules, folded}
use Rattle.cx_role.proofs.Common.{folded_from, refused, refused_from, Record}
use Rattle.cx_role.specs.Own.{FitAlong}

module _ {D V : Type 0} (rules : Rules D V) (c : Cluster) (me : RoleId) where
  none_refused : (d : D) (i : ℕ) (rs : List Record) → rules.whole d ≡ true → FitAlong rules c me d rs
      → refused_from rules c me d i rs ≡ None
  none_refused d i [] whole fit = rw whole refl
  none_refused d i (r ∷ rs) whole fit = rw fit.0.0 (none_refused (rules.after d r) (i + 1) rs fit.0.1 fit.1)

  goes_on : (d : D) (i : ℕ) (rs more : List Record) → refused_from rules c me d i rs ≡ None
      → FitAlong rules c me (folded_from rules d rs) more → refused_from rules c me d i (rs ++ more) ≡ None
  goes_on d i [] more none fit =
      let whole : rules.whole d ≡ true = grind (arith, nat_tests) in none_refused d i more whole fit
  goes_on d i (r ∷ rs) more none fit = grind (arith, nat_tests, goes_on (rules.after d r) (i + 1) rs more)

  pub own_open : (rs more : List Record) → refused rules c me rs ≡ None → FitAlong rules c me (folded rules rs) more
      → refused rules c me (rs ++ more) ≡ None
  own_open rs more none fit = goes_on rules.empty 0 rs more none fit
