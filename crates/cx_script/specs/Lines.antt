-- The lines of a schedule after its header, and the events that they spell.
use Rattle.std.specs.Prelude.{ℕ, ◌+◌, ◌==◌, nat_lt, List, [], ◌∷◌, ◌++◌, map, Option, None, Some, option_to_list, Result, Ok, Err}
use Rattle.std.specs.Prelude.{if◌then◌else◌}
use Rattle.cx_base.specs.Prelude.{slice_split, strip_carriage_return}
use Rattle.cx_base.specs.declared.cluster.Cluster.{Cluster}
use Rattle.cx_base.specs.declared.event.Event.{Event}
use Rattle.cx_script.specs.declared.fault.LineFault.{LineFault}
use Rattle.cx_script.specs.Grammar.{line_event}
use Rattle.cx_script.specs.Words.{is_empty}

-- the parts round the line feeds, but the last where it is empty
abbrev pub lines_in : List (List ℕ) → List (List ℕ)
lines_in [] = []
lines_in (part ∷ []) = if is_empty part then [] else part ∷ []
lines_in (part ∷ next ∷ parts) = part ∷ lines_in (next ∷ parts)

-- the lines: each without its line feed and one carriage return at its end, the last one also where its line feed is missing
abbrev pub lines_of : List ℕ → List (List ℕ)
lines_of bytes = map strip_carriage_return (lines_in (slice_split (λ b. b == 10) bytes))

-- the events before the first bad line, and its number, or all events
pub record ParsedLines : Type 0 where
  pub events : List Event
  pub bad : Option ℕ

-- what the lines from the n-th on spell, whose event or fault is known
abbrev pub with_line : ℕ → Result (Option Event) LineFault → ParsedLines → ParsedLines
with_line n (Err fault) later = record { events = []; bad = Some n }
with_line n (Ok event) later = record { events = option_to_list event ++ later.events; bad = later.bad }

-- what the lines from the n-th on spell; no schedule has more than 65,535
abbrev pub spelled_from : Cluster → ℕ → List (List ℕ) → ParsedLines
spelled_from c n [] = record { events = []; bad = None }
spelled_from c n (line ∷ lines) =
    if nat_lt 65535 n then record { events = []; bad = Some n } else with_line n (line_event c line) (spelled_from c (n + 1) lines)

-- what the bytes after a header spell; lines count from 1
unfoldable pub schedule_of : Cluster → List ℕ → ParsedLines
schedule_of c bytes = spelled_from c 1 (lines_of bytes)
