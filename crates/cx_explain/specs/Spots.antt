-- Where in a line its first fault is, and the rule that it breaks.
use Rattle.std.specs.Prelude.{ℕ, ◌+◌, Bool, true, false, ◌==◌, ◌&&◌, not, nat_lt}
use Rattle.std.specs.Prelude.{List, [], ◌++◌, length, take, drop, codes, find, position, slice_get}
use Rattle.std.specs.Prelude.{Option, None, Some, Result, Ok, Err, unwrap_or, if◌then◌else◌}
use Rattle.std.specs.List.{list_all}
use Rattle.std.specs.Option.{option_map_or}
use Rattle.cx_base.specs.declared.cluster.Cluster.{Cluster}
use Rattle.cx_base.specs.declared.event.Event.{Event}
use Rattle.cx_base.specs.declared.event.Event.TheVariants.{Write, Read, Session}
use Rattle.cx_base.specs.Lists.{below}
use Rattle.cx_explain.specs.declared.rule.Rule.{Rule}
use Rattle.cx_explain.specs.declared.rule.Rule.TheVariants as rule
use Rattle.cx_script.specs.declared.fault.LineFault.{LineFault}
use Rattle.cx_script.specs.declared.fault.LineFault.TheVariants as fault
use Rattle.cx_script.specs.Grammar.{line_event}
use Rattle.cx_script.specs.Words.{is_blank}

-- a column, counted from 1 in bytes, the rule that is broken there, and the word that breaks it, if there is one
pub record Spotted : Type 0 where
  pub column : ℕ
  pub rule : Rule
  pub word : List ℕ

abbrev pub spotted : ℕ → Rule → List ℕ → Spotted
spotted column broken word = record { column = column; rule = broken; word = word }

-- a line's fault is that it has another word than may stand there, one too many, or one too few
abbrev pub is_word_fault : Result (Option Event) LineFault → Bool
is_word_fault (Err fault.Word) = true
is_word_fault other = false

abbrev pub is_fault : Result (Option Event) LineFault → Bool
is_fault (Ok event) = false
is_fault (Err why) = true

-- Neither a line nor what comes of it by these words is taken for its words: so it doesn't lack a word. Where one is missing, the
-- word `!` is none that may stand there, but for what to do, and after `put` it is no key.
abbrev pub is_word_fault_with : Cluster → List ℕ → Bool
is_word_fault_with c front =
    is_word_fault (line_event c (front ++ codes " !")) && is_word_fault (line_event c (front ++ codes " put !"))

-- the front of a line has a fault that isn't mended by words behind it
abbrev pub is_spoilt : Cluster → List ℕ → Bool
is_spoilt c front = if is_word_fault (line_event c front) then is_word_fault_with c front else is_fault (line_event c front)

-- no word goes on at a place of a line
abbrev pub ends_word : List ℕ → ℕ → Bool
ends_word line place = option_map_or is_blank (slice_get line place) true

abbrev pub ends_spoilt : Cluster → List ℕ → ℕ → Bool
ends_spoilt c line place = ends_word line place && is_spoilt c (take place line)

-- where the first word ends that spoils the line
abbrev pub spoilt_end : Cluster → List ℕ → Option ℕ
spoilt_end c line = find (λ place. ends_spoilt c line place) (below (length line + 1))

-- no byte is a blank
abbrev pub is_free : List ℕ → Bool
is_free word = list_all (λ b. not (is_blank b)) word

-- so are those from a place on
abbrev pub is_free_from : List ℕ → ℕ → Bool
is_free_from front place = is_free (drop place front)

-- where the last word of a front starts
abbrev pub word_start : List ℕ → ℕ
word_start front = unwrap_or (find (λ place. is_free_from front place) (below (length front + 1))) 0

-- the rule of a fault of the first word, or of another one
abbrev pub rule_of : LineFault → Bool → Rule
rule_of fault.Long first = rule.LongLine
rule_of fault.Number first = rule.Number
rule_of fault.Role first = rule.Role
rule_of fault.Grid first = rule.Grid
rule_of fault.Key first = rule.Key
rule_of fault.Word first = if first then rule.UnknownEvent else rule.OtherWord

-- the last word of a front, which starts there
abbrev pub last_word : LineFault → List ℕ → ℕ → Spotted
last_word why front start = spotted (start + 1) (rule_of why (list_all is_blank (take start front))) (drop start front)

abbrev pub spot_at : LineFault → List ℕ → Option ℕ → Spotted
spot_at why line None = spotted (length line + 1) rule.MissingWord []
spot_at why line (Some end) = last_word why (take end line) (word_start (take end line))

-- where a line has this fault
abbrev pub fault_spot : Cluster → List ℕ → LineFault → Spotted
fault_spot c line fault.Long = spotted 1025 rule.LongLine []
fault_spot c line fault.Number = spot_at fault.Number line (spoilt_end c line)
fault_spot c line fault.Role = spot_at fault.Role line (spoilt_end c line)
fault_spot c line fault.Grid = spot_at fault.Grid line (spoilt_end c line)
fault_spot c line fault.Key = spot_at fault.Key line (spoilt_end c line)
fault_spot c line fault.Word = spot_at fault.Word line (spoilt_end c line)

-- an event is a request
abbrev pub is_request : Option Event → Bool
is_request (Some (Write command batcher)) = true
is_request (Some (Read client seq floor reader replica key)) = true
is_request (Some (Session client seq floor replica key)) = true
is_request other = false

-- where a node's line is bad that spells this event
abbrev pub node_spot : List ℕ → Option Event → Spotted
node_spot line event =
    option_map_or (λ slash. spotted (slash + 1) rule.Floor []) (position (λ b. b == 47) line)
    (spotted 1 (if is_request event then rule.NumberStays else rule.NoRequest) [])

abbrev pub bad_spot : Cluster → List ℕ → Result (Option Event) LineFault → Spotted
bad_spot c line (Ok event) = node_spot line event
bad_spot c line (Err why) = fault_spot c line why

-- where the n-th line after a header is bad
abbrev pub line_spot : Cluster → ℕ → List ℕ → Spotted
line_spot c n line = if nat_lt 65535 n then spotted 1 rule.TooManyLines [] else bad_spot c line (line_event c line)
