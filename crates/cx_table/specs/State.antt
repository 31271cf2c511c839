-- A client table as contracts see it, with the room that it has.
use Rattle.std.specs.Prelude.{ℕ, ◌+◌, ◌==◌, ◌≤◌, if◌then◌else◌, List, [], ◌∷◌}
use Rattle.cx_base.specs.Noted.{Table}

-- for how many more answers of a client there is room
pub record Room : Type 0 where
  pub client : ℕ
  pub count : ℕ

pub record TableState : Type 0 where
  pub table : Table
  pub rooms : List Room

-- for how many more answers of this client there is room
abbrev pub room_for : ℕ → List Room → ℕ
room_for client [] = 0
room_for client (r ∷ rooms) = if r.client == client then r.count else room_for client rooms

-- no client has less room
abbrev pub KeepsRoom : List Room → List Room → Type 0
KeepsRoom old new = (k : ℕ) → room_for k old ≤ room_for k new

-- no client has less room, but for this one, which may have room for one answer less
abbrev pub TakesRoom : ℕ → List Room → List Room → Type 0
TakesRoom client old new = (k : ℕ) → room_for k old ≤ room_for k new + (if client == k then 1 else 0)
