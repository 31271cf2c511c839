-- What a replica's kept values leave.
use Rattle.std.specs.Prelude.{ℕ, List, [], ◌∷◌, ◌++◌, if◌then◌else◌, length}
use Rattle.cx_model.specs.Prelude.{fold, same_role, Value, RoleId, log_of, values_in, KeptRecord}
use Rattle.cx_trace.specs.declared.summary.Folded.{Folded}

-- how many values it kept, and the fold of their commands
abbrev pub folded_of : ℕ → List KeptRecord → Folded
folded_of p kept = record { held = length (log_of p kept); store = fold (log_of p kept) }

-- the values of a change, where this role's store it is
abbrev pub values_by : RoleId → KeptRecord → List Value
values_by me k = if same_role me k.role then values_in k.what else []

-- the values of all changes of this role's store, in order
abbrev pub values_kept : RoleId → List KeptRecord → List Value
values_kept me [] = []
values_kept me (k ∷ ks) = values_by me k ++ values_kept me ks
