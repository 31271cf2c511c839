-- The events that the words of a line spell, read from left to right: the first word that its place doesn't take names the
-- fault.
use Rattle.std.specs.Prelude.{ℕ, Bool, false, ◌==◌, nat_lt, List, [], ◌∷◌, length, codes, Option, None, Some, Result, Ok, Err}
use Rattle.std.specs.Prelude.{if◌then◌else◌, bytes_eq}
use Rattle.cx_base.specs.declared.cluster.Cluster.{Cluster}
use Rattle.cx_base.specs.declared.command.Op.{Op}
use Rattle.cx_base.specs.declared.command.Op.TheVariants.{Put, Del, App}
use Rattle.cx_base.specs.declared.event.Cut.{Cut}
use Rattle.cx_base.specs.declared.event.Cut.TheVariants.{Whole, Torn, Kept}
use Rattle.cx_base.specs.declared.event.Event.{Event}
use Rattle.cx_base.specs.declared.event.Event.TheVariants as event
use Rattle.cx_base.specs.declared.event.Event.TheVariants.{Write, Read, Session, Deliver, Tick, Snap, Crash, Restart}
use Rattle.cx_base.specs.declared.event.Order.TheVariants.{Lead, Change, Collect}
use Rattle.cx_base.specs.declared.role.Kind.TheVariants.{Client, Batcher, Leader, Replica, Reader, Replacer}
use Rattle.cx_base.specs.declared.role.RoleId.{RoleId}
use Rattle.cx_base.specs.Grid.{Shape}
use Rattle.cx_script.specs.declared.fault.LineFault.{LineFault}
use Rattle.cx_script.specs.declared.fault.LineFault.TheVariants.{Long, Word}
use Rattle.cx_script.specs.Places.{seq_word, number_word, key_word, text_word, index_word, server_word, renewing_word, set_word, sides_word}
use Rattle.cx_script.specs.Places.{members_word, other_word, slot_word}
use Rattle.cx_script.specs.Words.{words_of}

-- what follows a part without a fault, or the part's fault
infixl 10 ◌>>=◌
abbrev pub ◌>>=◌ : {A B : Type 0} → Result A LineFault → (A → Result B LineFault) → Result B LineFault
(Ok part) >>= next = next part
(Err fault) >>= next = Err fault

-- a part of a line, and the words after it
abbrev pub Part : Type 0 → Type 0
Part A = Result (A × List (List ℕ)) LineFault

-- what the next word says in its place
abbrev pub next_word : {A : Type 0} → (List ℕ → Result A LineFault) → List (List ℕ) → Part A
next_word place [] = Err Word
next_word place (word ∷ words) = place word >>= (λ said. Ok (said, words))

-- no word is left
abbrev pub ended : {A : Type 0} → A → List (List ℕ) → Result A LineFault
ended a [] = Ok a
ended a (word ∷ words) = Err Word

-- at the end of a line: `torn`, `kept` or nothing
abbrev pub cut_at : List (List ℕ) → Result Cut LineFault
cut_at [] = Ok Whole
cut_at (word ∷ words) =
    if bytes_eq word (codes "torn") then ended Torn words
    else if bytes_eq word (codes "kept") then ended Kept words
    else Err Word

-- K T
abbrev pub key_text_at : List (List ℕ) → Part (List ℕ × List ℕ)
key_text_at words =
    next_word key_word words >>= (λ (key, words).
    next_word text_word words >>= (λ (text, words).
    Ok ((key, text), words)))

-- RxC a,b,..
abbrev pub grid_at : Cluster → List (List ℕ) → Part Shape
grid_at c words = next_word sides_word words >>= (λ (sides, words). next_word (members_word c sides.0 sides.1) words)

-- put K T, del K, app K T
abbrev pub op_at : List (List ℕ) → Part Op
op_at [] = Err Word
op_at (verb ∷ words) =
    if bytes_eq verb (codes "put") then key_text_at words >>= (λ (pair, words). Ok (Put pair.0 pair.1, words))
    else if bytes_eq verb (codes "del") then next_word key_word words >>= (λ (key, words). Ok (Del key, words))
    else if bytes_eq verb (codes "app") then key_text_at words >>= (λ (pair, words). Ok (App pair.0 pair.1, words))
    else Err Word

-- client:C SEQ batcher:B, then what to do
unfoldable pub write_event : Cluster → List (List ℕ) → Result Event LineFault
write_event c words =
    next_word (index_word c Client) words >>= (λ (client, words).
    next_word seq_word words >>= (λ (numbers, words).
    next_word (index_word c Batcher) words >>= (λ (batcher, words).
    op_at words >>= (λ (op, words).
    ended (Write (record { client = client; seq = numbers.0; floor = numbers.1; op = op }) batcher) words))))

-- client:C SEQ reader:R replica:P K
unfoldable pub read_event : Cluster → List (List ℕ) → Result Event LineFault
read_event c words =
    next_word (index_word c Client) words >>= (λ (client, words).
    next_word seq_word words >>= (λ (numbers, words).
    next_word (index_word c Reader) words >>= (λ (reader, words).
    next_word (index_word c Replica) words >>= (λ (replica, words).
    next_word key_word words >>= (λ (key, words).
    ended (Read client numbers.0 numbers.1 reader replica key) words)))))

-- client:C SEQ replica:P K
unfoldable pub session_event : Cluster → List (List ℕ) → Result Event LineFault
session_event c words =
    next_word (index_word c Client) words >>= (λ (client, words).
    next_word seq_word words >>= (λ (numbers, words).
    next_word (index_word c Replica) words >>= (λ (replica, words).
    next_word key_word words >>= (λ (key, words).
    ended (Session client numbers.0 numbers.1 replica key) words))))

-- N, and a cut
unfoldable pub deliver_event : List (List ℕ) → Result Event LineFault
deliver_event words =
    next_word number_word words >>= (λ (number, words).
    cut_at words >>= (λ cut.
    Ok (Deliver number cut)))

-- leader:L RxC a,b,.., and a cut
unfoldable pub grid_order_of : Cluster → List (List ℕ) → Result (ℕ × Shape × Cut) LineFault
grid_order_of c words =
    next_word (index_word c Leader) words >>= (λ (leader, words).
    grid_at c words >>= (λ (grid, words).
    cut_at words >>= (λ cut.
    Ok (leader, grid, cut))))

-- leader:L
unfoldable pub collect_event : Cluster → List (List ℕ) → Result Event LineFault
collect_event c words = next_word (index_word c Leader) words >>= (λ (leader, words). ended (event.Order leader Collect Whole) words)

-- ROLE, and a cut
unfoldable pub snap_event : Cluster → List (List ℕ) → Result Event LineFault
snap_event c words =
    next_word (renewing_word c) words >>= (λ (role, words).
    cut_at words >>= (λ cut.
    Ok (Snap role cut)))

-- replacer:X a,b,.., and a cut
unfoldable pub replace_event : Cluster → List (List ℕ) → Result Event LineFault
replace_event c words =
    next_word (index_word c Replacer) words >>= (λ (replacer, words).
    next_word (set_word c) words >>= (λ (set, words).
    cut_at words >>= (λ cut.
    Ok (event.Replace replacer set cut))))

-- replica:P replica:Q S
unfoldable pub offer_event : Cluster → List (List ℕ) → Result Event LineFault
offer_event c words =
    next_word (index_word c Replica) words >>= (λ (replica, words).
    next_word (other_word c Replica replica) words >>= (λ (to, words).
    next_word slot_word words >>= (λ (slot, words).
    ended (event.Offer replica to slot) words)))

-- ROLE
unfoldable pub server_of : Cluster → List (List ℕ) → Result RoleId LineFault
server_of c words = next_word (server_word c) words >>= (λ (role, words). ended role words)

-- the event that a line's first word and the words after it spell
unfoldable pub event_of : Cluster → List ℕ → List (List ℕ) → Result Event LineFault
event_of c verb words =
    if bytes_eq verb (codes "write") then write_event c words
    else if bytes_eq verb (codes "read") then read_event c words
    else if bytes_eq verb (codes "session") then session_event c words
    else if bytes_eq verb (codes "deliver") then deliver_event words
    else if bytes_eq verb (codes "tick") then server_of c words >>= (λ role. Ok (Tick role))
    else if bytes_eq verb (codes "lead") then grid_order_of c words >>= (λ (leader, grid, cut). Ok (event.Order leader (Lead grid) cut))
    else if bytes_eq verb (codes "change") then grid_order_of c words >>= (λ (leader, grid, cut). Ok (event.Order leader (Change grid) cut))
    else if bytes_eq verb (codes "collect") then collect_event c words
    else if bytes_eq verb (codes "snap") then snap_event c words
    else if bytes_eq verb (codes "replace") then replace_event c words
    else if bytes_eq verb (codes "offer") then offer_event c words
    else if bytes_eq verb (codes "crash") then server_of c words >>= (λ role. Ok (Crash role))
    else if bytes_eq verb (codes "restart") then server_of c words >>= (λ role. Ok (Restart role))
    else Err Word

-- whether a word begins a comment
abbrev pub is_comment : List ℕ → Bool
is_comment [] = false
is_comment (b ∷ bs) = b == 35

-- the event of a line's words, none for a comment or where there is no word
abbrev pub event_in : Cluster → List (List ℕ) → Result (Option Event) LineFault
event_in c [] = Ok None
event_in c (verb ∷ words) = if is_comment verb then Ok None else event_of c verb words >>= (λ event. Ok (Some event))

-- the event of a line of at most 1,024 bytes
unfoldable pub line_event : Cluster → List ℕ → Result (Option Event) LineFault
line_event c line = if nat_lt 1024 (length line) then Err Long else event_in c (words_of line)
