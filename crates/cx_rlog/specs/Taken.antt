-- What becomes of a value that comes for a slot.
use Rattle.std.specs.Prelude.{ℕ, ◌+◌, ◌==◌, nat_lt, nat_le, if◌then◌else◌, List, [], ◌∷◌, ◌++◌, Option, None, Some}
use Rattle.cx_base.specs.Log.{value_for}
use Rattle.cx_base.specs.declared.command.Value.{Value}
use Rattle.cx_base.specs.declared.command.Placed.{Placed}
use Rattle.cx_rlog.specs.declared.taken.Taken.{Taken}
use Rattle.cx_rlog.specs.declared.taken.Taken.TheVariants.{Past, Full, Early, Next}

-- where a slot is, beside the number of slots held
abbrev pub taken_at : ℕ → ℕ → Taken
taken_at held slot =
    if nat_lt slot held then Past
    else if nat_le (held + 32) slot then Full
    else if slot == held then Next
    else Early

-- the waiting values with one more at the end, where none waits for its slot
abbrev pub waiting_with : Option Value → ℕ → Value → List Placed → List Placed
waiting_with None slot v early = early ++ record { slot = slot; value = v } ∷ []
waiting_with (Some first) slot v early = early

-- the waiting values after a value that came: one that came early waits
abbrev pub early_after : Taken → ℕ → Value → List Placed → List Placed
early_after Past slot v early = early
early_after Full slot v early = early
early_after Next slot v early = early
early_after Early slot v early = waiting_with (value_for slot early) slot v early
