-- A role without records refuses the first.
use Rattle.cx_role.proofs.Common.{◌≡◌, ◌≤◌, List, [], ◌∷◌, length, Some, refl, arith, Cluster, RoleId, Record, refused_from, batcher_rules}
use Rattle.cx_role.proofs.Common.{unbatcher_rules}

module _ (c : Cluster) (me : RoleId) (d : Unit {0}) where
  pub batcher_refuses : (rs : List Record) → 1 ≤ length rs → refused_from batcher_rules c me d 0 rs ≡ Some 0
  batcher_refuses [] h = absurd (omega arith)
  batcher_refuses (r ∷ rs) h = refl

  pub unbatcher_refuses : (rs : List Record) → 1 ≤ length rs → refused_from unbatcher_rules c me d 0 rs ≡ Some 0
  unbatcher_refuses [] h = absurd (omega arith)
  unbatcher_refuses (r ∷ rs) h = refl
