-- What a role's own steps append.
use Rattle.std.specs.Prelude.{List, [], ◌∷◌, Some}
use Rattle.cx_model.specs.Prelude.{Cluster, RoleId, Rules, IsFit, Record}

-- each of these records is one that the role may append, in the state that those before it leave
abbrev pub FitAlong : {D V : Type 0} → Rules D V → Cluster → RoleId → D → List Record → Type 0
FitAlong rules c me d [] = Unit {0}
FitAlong rules c me d (r ∷ rs) = IsFit rules c me d (Some r) × FitAlong rules c me (rules.after d r) rs
