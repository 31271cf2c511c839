-- A role that is being opened again.
use Rattle.cx_role.specs.Prelude.{◌≡◌, ℕ, true, List, Rules, Running, folded_from, refused_from, Record, refused_behind}

-- The records from this place on are left: they leave what all records leave after the role that was there before, and the
-- first of them that is refused is the first of all.
pub record IsReopening {D V : Type 0} (rules : Rules D V) (before role : Running D V) (place : ℕ) (rest records : List Record)
    : Type 0 where
  pub cluster : role.cluster ≡ before.cluster
  pub me : role.me ≡ before.me
  pub live : role.live ≡ true
  pub folded : folded_from rules role.durable rest ≡ folded_from rules before.durable records
  pub refused : refused_from rules before.cluster before.me role.durable place rest ≡ refused_behind rules before records
