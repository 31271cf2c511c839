-- A replica's log as contracts see it.
use Rattle.std.specs.Prelude.{◌≡◌, ℕ, ◌+◌, ◌-◌, ◌^◌, ◌<◌, ◌≤◌, List, [], ◌∷◌, length, drop, slice_get, nat_lt, if◌then◌else◌, Option, None}
use Rattle.cx_base.specs.Log.{ready_values}
use Rattle.cx_base.specs.declared.command.Value.{Value}
use Rattle.cx_base.specs.declared.command.Placed.{Placed}

-- the first slot whose value it has, the values from there on in slot order, those that came before their turn, and for
-- how many more values there is room
pub record LogState : Type 0 where
  pub first : ℕ
  pub list : List Value
  pub early : List Placed
  pub spare : ℕ

-- how many slots are held: those below the first, and those of the list
abbrev pub held : LogState → ℕ
held s = s.first + length s.list

-- the value of a slot, where it is in the list
abbrev pub value_in : LogState → ℕ → Option Value
value_in s slot = if nat_lt slot s.first then None else slice_get s.list (slot - s.first)

-- the log without the values below a slot
abbrev pub from_slot : ℕ → LogState → LogState
from_slot slot s = record s { first = slot; list = drop (slot - s.first) s.list; spare = 0 }

-- a value that waits has a slot above the ones held, near them, and below the end of slots
pub record IsEarly (held : ℕ) (p : Placed) : Type 0 where
  pub above : held < p.slot
  pub near : p.slot < held + 32
  pub real : p.slot < 2 ^ 40

abbrev pub AreEarly : ℕ → List Placed → Type 0
AreEarly held [] = Unit {0}
AreEarly held (p ∷ early) = IsEarly held p × AreEarly held early

-- the values are all that can be held now: one for the slot held, and those waiting that follow it
abbrev pub AreReadyValues : LogState → List Value → Type 0
AreReadyValues s [] = ⊥
AreReadyValues s (v ∷ later) = v ∷ later ≡ ready_values (held s) s.early v

-- there is the room that was asked for, slots end at 2^40, what waits is near, and its window begins at the slots held
pub record IsLog (first count capacity spare window : ℕ) (early : List Placed) : Type 0 where
  pub room : count + spare ≤ capacity
  pub short : first + count ≤ 2 ^ 40
  pub waiting : AreEarly (first + count) early
  pub begins : window ≡ first + count
