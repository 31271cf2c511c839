-- What a link is asked to do, and what it gives.
use Rattle.std.specs.Prelude.{◌≡◌, ◌==◌, ◌||◌, ◌⊎◌, ◌≤◌, ℕ, Bool, false, List, [], ◌∷◌, ◌++◌, length, take, Option, None, Some, option_map}
use Rattle.std.specs.Prelude.{Result, Ok, Err}
use Rattle.cx_base.specs.Prelude.{list_any, same_role}
use Rattle.cx_base.specs.declared.role.RoleId.{RoleId}
use Rattle.cx_edge.specs.declared.link.TakeEnd.{TakeEnd}
use Rattle.cx_edge.specs.declared.link.TakeEnd.TheVariants.{Got, Nothing, Failed}
use Rattle.cx_disk.specs.declared.disk.Failed.{Failed as Failure}

-- a role was bound to a port
pub record Bind : Type 0 where
  pub role : RoleId
  pub port : ℕ

-- a role sent bytes to a port
pub record Sending : Type 0 where
  pub from : RoleId
  pub port : ℕ
  pub bytes : List ℕ

-- The history of a link, each list in order of time: its binds, what each take gave (None: nothing was there), and what it was asked
-- to send.
pub record LinkHistory : Type 0 where
  pub binds : List Bind
  pub taken : List (Option (List ℕ))
  pub sent : List Sending

-- whether it binds this role or this port
abbrev pub binds_either : RoleId → ℕ → Bind → Bool
binds_either role port bind = same_role role bind.role || port == bind.port

-- neither the role nor the port is bound
abbrev pub IsUnbound : RoleId → ℕ → LinkHistory → Type 0
IsUnbound role port h = list_any (binds_either role port) h.binds ≡ false

abbrev pub with_bind : RoleId → ℕ → LinkHistory → LinkHistory
with_bind role port h = record h { binds = h.binds ++ record { role = role; port = port } ∷ [] }

abbrev pub with_taken : Option (List ℕ) → LinkHistory → LinkHistory
with_taken what h = record h { taken = h.taken ++ what ∷ [] }

abbrev pub with_sent : RoleId → ℕ → List ℕ → LinkHistory → LinkHistory
with_sent from port bytes h = record h { sent = h.sent ++ record { from = from; port = port; bytes = bytes } ∷ [] }

-- a bind that succeeded is in the history; one that failed isn't
abbrev pub Binds : Option LinkHistory → Option LinkHistory → RoleId → ℕ → Result (Unit {0}) Failure → Type 0
Binds old new role port (Ok u) = new ≡ option_map (with_bind role port) old
Binds old new role port (Err e) = new ≡ old

-- What the link was asked to send is in the history, also where it was lost; once a send is lost, the history may not be known any more.
abbrev pub Sends : Option LinkHistory → Option LinkHistory → RoleId → ℕ → List ℕ → Result (Unit {0}) Failure → Type 0
Sends old new from port bytes (Ok u) = new ≡ option_map (with_sent from port bytes) old
Sends old new from port bytes (Err e) = (new ≡ option_map (with_sent from port bytes) old) ⊎ (new ≡ None)

-- what a take gave is in the history; one that failed isn't
abbrev pub Takes : Option LinkHistory → Option LinkHistory → List ℕ → TakeEnd → Type 0
Takes old new buffer (Got count) = (count ≤ length buffer) × (new ≡ option_map (with_taken (Some (take count buffer))) old)
Takes old new buffer Nothing = new ≡ option_map (with_taken None) old
Takes old new buffer Failed = new ≡ old
