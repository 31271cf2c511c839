-- What executing values leaves, with the room that it has.
use Rattle.std.specs.Prelude.{◌≡◌, ℕ, ◌+◌, ◌==◌, ◌≤◌, Bool, true, false, if◌then◌else◌, List, [], ◌∷◌, ◌++◌, length, Vec, vec_capacity}
use Rattle.std.specs.declared.alloc.Global.{Global}
use Rattle.cx_model.specs.Prelude.{Answered, Command, Value, Machine, Record}
use Rattle.cx_letter.specs.declared.kept.Record.TheVariants as kept
use Rattle.cx_table.specs.State.{Room, room_for}

-- what values left, and for how many more keys, and more answers of each client, there is room
pub record MachineState : Type 0 where
  pub left : Machine
  pub spare : ℕ
  pub rooms : List Room

-- how many of these commands are a client's
abbrev pub command_count_of : ℕ → List Command → ℕ
command_count_of client [] = 0
command_count_of client (c ∷ cs) = if c.client == client then command_count_of client cs + 1 else command_count_of client cs

-- there is room for the answers of commands
abbrev pub IsRoomFor : List Room → List Command → Type 0
IsRoomFor rooms commands = (client : ℕ) → command_count_of client commands ≤ room_for client rooms

-- commands can be executed without taking memory
pub record HasRoom (m : MachineState) (commands : List Command) : Type 0 where
  pub keys : length commands ≤ m.spare
  pub answers : IsRoomFor m.rooms commands

-- what is left of the room once commands are executed is enough for others for which there was room behind them
abbrev pub LeavesRoom : MachineState → List Command → MachineState → Type 0
LeavesRoom old commands new = (later : List Command) → HasRoom old (commands ++ later) → HasRoom new later

-- a vector is empty, with room for the answers of eight commands
pub record IsVacant (room : Vec Answered Global) : Type 0 where
  pub empty : room.items ≡ []
  pub wide : 8 ≤ vec_capacity room

-- the values of a record, if it holds some
abbrev pub values_of : Record → List Value
values_of (kept.Log vs) = vs
values_of other = []

abbrev pub is_log : Record → Bool
is_log (kept.Log vs) = true
is_log other = false
