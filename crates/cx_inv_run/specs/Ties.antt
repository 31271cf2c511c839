-- At every moment each replica's durable part is what all values that it kept leave, without those that it forgot.
use Rattle.std.specs.Prelude.{ℕ, List}
use Rattle.cx_model.specs.Prelude.{RoleId, role, Letter, KeptRecord, IsTied, replica_rules, State}
use Rattle.cx_base.specs.declared.role.Kind.TheVariants as kind
use Rattle.cx_inv_run.specs.States.{durable_of, log_in}

pub record Ties (history : List KeptRecord) (sent : List Letter) (states : RoleId → State) : Type 0 where
  pub tied : (p : ℕ) → IsTied (durable_of replica_rules (role kind.Replica p) history) (log_in history p)
