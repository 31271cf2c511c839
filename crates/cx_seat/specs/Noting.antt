-- How a node that records takes down a step: its events, the datagrams that it sends, and the text.
use Rattle.std.specs.Prelude.{ℕ, ◌+◌, List, ◌++◌, Option, None, Some}
use Rattle.cx_letter.specs.Prelude.{Event, Letter}
use Rattle.cx_record.specs.Lines.{events_text}
use Rattle.cx_record.specs.Numbers.{Recorded}

-- these datagrams were sent besides
abbrev pub noting : List Letter → Recorded → Recorded
noting sends r = record { sent = r.sent ++ sends; lines = r.lines }

-- so many lines were written besides
abbrev pub with_more_lines : ℕ → Recorded → Recorded
with_more_lines more r = record { sent = r.sent; lines = r.lines + more }

-- what is printed of a step: the role's text, or in a record the lines of the step
abbrev pub shown : Option Recorded → List Event → List ℕ → List ℕ
shown None events text = text
shown (Some r) events text = events_text events
