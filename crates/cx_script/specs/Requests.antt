-- The lines of a node: requests alone, the numbers of each client rising.
use Rattle.std.specs.Prelude.{◌≡◌, ℕ, ◌+◌, ◌<◌, Bool, true, false, ◌==◌, ◌&&◌, nat_lt, max, get_or, List, [], ◌∷◌, ◌++◌, filter, Option}
use Rattle.std.specs.Prelude.{None, Some, option_to_list, Result, Ok, Err, if◌then◌else◌}
use Rattle.std.specs.List.{list_all, list_any}
use Rattle.cx_base.specs.declared.cluster.Cluster.{Cluster}
use Rattle.cx_base.specs.declared.event.Event.{Event}
use Rattle.cx_base.specs.declared.event.Event.TheVariants.{Write, Read, Session}
use Rattle.cx_script.specs.declared.fault.LineFault.{LineFault}
use Rattle.cx_script.specs.declared.fault.LineFault.TheVariants.{Number, Word}
use Rattle.cx_script.specs.Grammar.{line_event}
use Rattle.cx_script.specs.Lines.{ParsedLines, with_line, lines_of}
use Rattle.cx_script.specs.Names.{names_event}

-- the client and the number of a request, none of another event
abbrev pub asker : Event → Option (ℕ × ℕ)
asker (Write command batcher) = Some (command.client, command.seq)
asker (Read client seq floor reader replica key) = Some (client, seq)
asker (Session client seq floor replica key) = Some (client, seq)
asker other = None

-- whether it is a request of this client
abbrev pub is_of_client : ℕ → Option (ℕ × ℕ) → Bool
is_of_client client None = false
is_of_client client (Some (other, seq)) = other == client

abbrev pub asks : ℕ → Event → Bool
asks client e = is_of_client client (asker e)

-- the number of a request, 0 of another event
abbrev pub number_in : Option (ℕ × ℕ) → ℕ
number_in None = 0
number_in (Some (client, seq)) = seq

abbrev pub number_of : Event → ℕ
number_of e = number_in (asker e)

-- the greatest number of a client's requests, 0 where it has none
abbrev pub greatest_number : ℕ → List Event → ℕ
greatest_number client [] = 0
greatest_number client (e ∷ es) = if asks client e then max (number_of e) (greatest_number client es) else greatest_number client es

-- a list has the greatest number of each client
abbrev pub HasGreatestNumbers : List Event → List ℕ → Type 0
HasGreatestNumbers before numbers = (client : ℕ) → client < 64 → get_or numbers client 0 ≡ greatest_number client before

-- whether an event is a request whose number is above those of the same client before
abbrev pub is_above_earlier : List Event → Option (ℕ × ℕ) → Bool
is_above_earlier before None = false
is_above_earlier before (Some (client, seq)) = nat_lt (greatest_number client before) seq

abbrev pub number_rises : List Event → Event → Bool
number_rises before e = is_above_earlier before (asker e)

-- whether a line has a slash, as one has that tells a floor
abbrev pub has_slash : List ℕ → Bool
has_slash line = list_any (λ b. b == 47) line

-- a line of a node's file, whose event or fault is known: a request that tells a floor is bad, since its client chooses floors
abbrev pub without_floor : List ℕ → Result (Option Event) LineFault → Result (Option Event) LineFault
without_floor line (Err fault) = Err fault
without_floor line (Ok None) = Ok None
without_floor line (Ok (Some e)) = if has_slash line then Err Number else Ok (Some e)

abbrev pub request_line : Cluster → List ℕ → Result (Option Event) LineFault
request_line c line = without_floor line (line_event c line)

-- a line after others, whose events are known: an event is a request whose number rises
abbrev pub request_behind : List Event → Result (Option Event) LineFault → Result (Option Event) LineFault
request_behind before (Err fault) = Err fault
request_behind before (Ok None) = Ok None
request_behind before (Ok (Some e)) = if number_rises before e then Ok (Some e) else Err Word

-- the events before a line and its own
abbrev pub with_event : List Event → Result (Option Event) LineFault → List Event
with_event before (Err fault) = before
with_event before (Ok event) = before ++ option_to_list event

-- what the lines from the n-th on spell after these events; a line that isn't such a request is bad, as is the 65,536th
abbrev pub requests_from : Cluster → ℕ → List Event → List (List ℕ) → ParsedLines
requests_from c n before [] = record { events = []; bad = None }
requests_from c n before (line ∷ lines) =
    if nat_lt 65535 n then record { events = []; bad = Some n }
    else with_line n (request_behind before (request_line c line)) (requests_from c (n + 1) (with_event before (request_line c line)) lines)

-- what the bytes after a node's header spell; lines count from 1
unfoldable pub requests_of : Cluster → List ℕ → ParsedLines
requests_of c bytes = requests_from c 1 [] (lines_of bytes)

-- the requests of one client, in their order
abbrev pub script_of : ℕ → List Event → List Event
script_of client events = filter (asks client) events

-- whether a request tells no floor of its own, which is then the number before; other events tell none
abbrev pub tells_no_floor : Event → Bool
tells_no_floor (Write command batcher) = command.floor + 1 == command.seq
tells_no_floor (Read client seq floor reader replica key) = floor + 1 == seq
tells_no_floor (Session client seq floor replica key) = floor + 1 == seq
tells_no_floor other = true

-- whether the numbers of requests rise, the first one above this
abbrev pub rise_above : ℕ → List Event → Bool
rise_above last [] = true
rise_above last (e ∷ es) = nat_lt last (number_of e) && rise_above (number_of e) es

-- a client's script: requests of its own, with their names in the cluster, whose numbers rise and are at least 1
pub record IsScript (c : Cluster) (client : ℕ) (script : List Event) : Type 0 where
  pub own : list_all (asks client) script ≡ true
  pub named : list_all (names_event c) script ≡ true
  pub rising : rise_above 0 script ≡ true
