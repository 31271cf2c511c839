-- The line of an event, as a schedule has it.
use Rattle.std.specs.Prelude.{ℕ, List, [], ◌∷◌, ◌++◌, map, codes, decimal}
use Rattle.cx_letter.specs.Prelude.{join_with_byte, Op, Put, Del, App, Cut, Whole, Torn, Kept, Event, Lead, Change, Collect, Offer, Replace}
use Rattle.cx_letter.specs.Prelude.{Batcher, Client, Leader, Reader, Replica, Replacer, Shape, role, role_text}
use Rattle.cx_base.specs.declared.event.Event.TheVariants as event
use Rattle.cx_base.specs.declared.event.Order.{Order}
use Rattle.cx_script.specs.Unended.{lines_text}
use Rattle.cx_trace.specs.Trace.{seq_text}

abbrev pub op_words : Op → List (List ℕ)
op_words (Put key text) = codes "put" ∷ key ∷ text ∷ []
op_words (Del key) = codes "del" ∷ key ∷ []
op_words (App key text) = codes "app" ∷ key ∷ text ∷ []

-- RxC
abbrev pub sides_text : Shape → List ℕ
sides_text grid = decimal grid.rows ++ codes "x" ++ decimal grid.cols

-- numbers with commas between them
abbrev pub ids_text : List ℕ → List ℕ
ids_text ids = join_with_byte 44 (map decimal ids)

abbrev pub cut_words : Cut → List (List ℕ)
cut_words Whole = []
cut_words Torn = codes "torn" ∷ []
cut_words Kept = codes "kept" ∷ []

abbrev pub round_words : ℕ → Shape → Cut → List (List ℕ)
round_words leader grid cut = role_text (role Leader leader) ∷ sides_text grid ∷ ids_text grid.members ∷ cut_words cut

-- to which replica, and from which slot on
abbrev pub offer_words : ℕ → ℕ → List (List ℕ)
offer_words to slot = role_text (role Replica to) ∷ decimal slot ∷ []

-- an order to collect has no word for a cut; no schedule has a leader ordered to replace matchmakers or to offer values
abbrev pub order_words : ℕ → Order → Cut → List (List ℕ)
order_words leader (Lead grid) cut = codes "lead" ∷ round_words leader grid cut
order_words leader (Change grid) cut = codes "change" ∷ round_words leader grid cut
order_words leader Collect cut = codes "collect" ∷ role_text (role Leader leader) ∷ []
order_words leader (Replace set) cut = codes "replace" ∷ role_text (role Leader leader) ∷ ids_text set ∷ cut_words cut
order_words leader (Offer to slot) cut = codes "offer" ∷ role_text (role Leader leader) ∷ offer_words to slot

-- the words of the line that spells an event
abbrev pub line_words : Event → List (List ℕ)
line_words (event.Write command batcher) = codes "write" ∷ role_text (role Client command.client) ∷ seq_text command.seq command.floor
    ∷ role_text (role Batcher batcher) ∷ op_words command.op
line_words (event.Read client seq floor reader replica key) = codes "read" ∷ role_text (role Client client) ∷ seq_text seq floor
    ∷ role_text (role Reader reader) ∷ role_text (role Replica replica) ∷ key ∷ []
line_words (event.Session client seq floor replica key) =
    codes "session" ∷ role_text (role Client client) ∷ seq_text seq floor ∷ role_text (role Replica replica) ∷ key ∷ []
line_words (event.Deliver number cut) = codes "deliver" ∷ decimal number ∷ cut_words cut
line_words (event.Tick r) = codes "tick" ∷ role_text r ∷ []
line_words (event.Order leader order cut) = order_words leader order cut
line_words (event.Replace replacer set cut) = codes "replace" ∷ role_text (role Replacer replacer) ∷ ids_text set ∷ cut_words cut
line_words (event.Offer replica to slot) = codes "offer" ∷ role_text (role Replica replica) ∷ offer_words to slot
line_words (event.Snap r cut) = codes "snap" ∷ role_text r ∷ cut_words cut
line_words (event.Crash r) = codes "crash" ∷ role_text r ∷ []
line_words (event.Restart r) = codes "restart" ∷ role_text r ∷ []

-- the line of an event, its words with one blank between them, without its line feed
unfoldable pub line_text : Event → List ℕ
line_text e = join_with_byte 32 (line_words e)

-- the lines of events, each with a line feed at its end
abbrev pub events_text : List Event → List ℕ
events_text es = lines_text (map line_text es)
