-- What the client table says of a client's number.
use Rattle.std.specs.Prelude.{ℕ, Bool, true, false, if◌then◌else◌, List, Option, None, Some}
use Rattle.cx_base.specs.declared.command.Answered.{Answered}
use Rattle.cx_base.specs.Noted.{Table, floor_of, is_done, noted_for}
use Rattle.cx_table.specs.declared.judge.Judge.{Judge}
use Rattle.cx_table.specs.declared.judge.Judge.TheVariants.{New, Last, Past}

-- a number that has an answer has that one again, one that has none is new
abbrev pub judge_noted : Option Answered → Judge
judge_noted None = New
judge_noted (Some a) = Last a.at a.reply

-- a number with which a client with this floor is done is past
abbrev pub judge_in : Option ℕ → List Answered → ℕ → ℕ → Judge
judge_in floor notes client seq = if is_done seq floor then Past else judge_noted (noted_for client seq notes)

abbrev pub judge_of : Table → ℕ → ℕ → Judge
judge_of t client seq = judge_in (floor_of client t.floors) t.notes client seq

abbrev pub is_new : Judge → Bool
is_new New = true
is_new (Last at reply) = false
is_new Past = false
