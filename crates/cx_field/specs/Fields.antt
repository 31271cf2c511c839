-- The fields of messages and records: which bytes spell each, and which values each may have.
use Rattle.std.specs.Prelude.{ℕ, ◌+◌, ◌-◌, ◌*◌, ◌^◌, Bool, true, false, ◌&&◌, ◌||◌, not, ◌==◌, nat_lt, nat_le, List, [], ◌∷◌, length}
use Rattle.std.specs.Prelude.{Option, Some, None, slice_get, if◌then◌else◌}
use Rattle.cx_base.specs.Prelude.{list_any, option_map_or, floor_fits, commands_of, is_name_byte, make_grid, is_in, is_before}
use Rattle.cx_base.specs.Grid.{Shape as GridShape}
use Rattle.cx_base.specs.declared.round.Round.{Round}
use Rattle.cx_base.specs.declared.command.Op.{Op}
use Rattle.cx_base.specs.declared.command.Op.TheVariants.{Put, Del, App}
use Rattle.cx_base.specs.declared.command.Command.{Command}
use Rattle.cx_base.specs.declared.command.Value.{Value}
use Rattle.cx_base.specs.declared.command.Value.TheVariants.{Noop, Batch}
use Rattle.cx_base.specs.declared.command.Reply.{Reply}
use Rattle.cx_base.specs.declared.command.Reply.TheVariants.{Okay, Was, Absent, Len, Full}
use Rattle.cx_base.specs.declared.command.Answered.{Answered}
use Rattle.cx_base.specs.declared.command.Note.{Note}
use Rattle.cx_base.specs.declared.command.Pair.{Pair}
use Rattle.cx_field.specs.declared.parts.Entry.{Entry}
use Rattle.cx_field.specs.declared.parts.NackReason.{NackReason}
use Rattle.cx_field.specs.declared.parts.NackReason.TheVariants as nack
use Rattle.cx_field.specs.declared.parts.Vote.{Vote}
use Rattle.cx_field.specs.declared.parts.Token.{Token}
use Rattle.cx_field.specs.declared.parts.Asking.{Asking}
use Rattle.cx_wire.specs.Format.{Format, u8, u16, u32, u64, only, whole, then_by, ◌▷◌, no_bytes, shaped, times, counted, TaggedBytes, shape}
use Rattle.cx_wire.specs.Format.{Case, case, tagged}

-- a slot, below 2^40
unfoldable pub slot : Format ℕ
slot = only (λ n. nat_lt n (2 ^ 40)) u64

-- a watermark, at most 2^40
unfoldable pub mark : Format ℕ
mark = only (λ n. nat_le n (2 ^ 40)) u64

-- a number of slots, at least one
unfoldable pub at : Format ℕ
at = only (λ n. nat_le 1 n && nat_le n (2 ^ 40)) u64

-- a client's number of a request, or a reader's turn
unfoldable pub seq : Format ℕ
seq = only (λ n. nat_le 1 n) u64

-- the three numbers of a round
abbrev pub round_fields : Format Round
round_fields = shaped (λ x. record { r = x.0; id = x.1.0; s = x.1.1 }) (λ r. (r.r, (r.id, r.s))) (u32 ▷ u16 ▷ u32)

-- a round, whose first number is at least 1
unfoldable pub round : Format Round
round = only (λ r. nat_le 1 r.r) (whole 10 round_fields)

-- a round, or none, which is three zeros
unfoldable pub round0 : Format Round
round0 = only (λ r. nat_le 1 r.r || (r.r == 0 && r.id == 0 && r.s == 0)) (whole 10 round_fields)

-- a member of a grid, after others: none is there twice
unfoldable pub member : List ℕ → Format ℕ
member before = only (λ id. not (is_in id before)) u16

-- a grid: its sides, at least 1 and with at most 16 members, and its members row by row
unfoldable pub grid : Format GridShape
grid = shaped (λ x. make_grid x.0 x.1.0 x.1.1) (λ g. (g.rows, (g.cols, g.members)))
    (then_by (only (λ rows. nat_le 1 rows) u8) (λ rows.
    then_by (only (λ cols. nat_le 1 cols && nat_le (rows * cols) 16) u8) (λ cols.
    times (rows * cols) member)))

-- a byte of a key or a text
unfoldable pub name_byte : Format ℕ
name_byte = only is_name_byte u8

-- a key or a text of at most n bytes
unfoldable pub name : ℕ → Format (List ℕ)
name limit = counted (only (λ n. nat_le 1 n && nat_le n limit) u8) (λ _. name_byte)

-- a floor that is told: below the client's number and at most 64 below it, and not the number just below, which isn't told
unfoldable pub floor_below : ℕ → Format ℕ
floor_below number = only (λ n. floor_fits number n && not (n + 1 == number)) u64

-- a format of which nothing fits where it is not allowed
abbrev pub allowed : {A : Type 0} → Bool → Format A → Format A
allowed true f = f
allowed false f = record { fits = λ _. false; spell = f.spell; read = f.read }

-- an operation, with the floor that is told before its key, if one is: 1 put, 2 del, 3 app, with a floor 4 put, 5 del, 6 app. A floor may
-- be told only where that is allowed.
abbrev pub told_shape : Bool → ℕ → Option ℕ × Op → TaggedBytes
told_shape floors number (None, Put key text) = shape 1 (name 32 ▷ name 64) (key, text)
told_shape floors number (None, Del key) = shape 2 (name 32) key
told_shape floors number (None, App key text) = shape 3 (name 32 ▷ name 64) (key, text)
told_shape floors number (Some floor, Put key text) = shape 4 (allowed floors (floor_below number ▷ name 32 ▷ name 64)) (floor, (key, text))
told_shape floors number (Some floor, Del key) = shape 5 (allowed floors (floor_below number ▷ name 32)) (floor, key)
told_shape floors number (Some floor, App key text) = shape 6 (allowed floors (floor_below number ▷ name 32 ▷ name 64)) (floor, (key, text))

-- how an operation with a floor is read, where it is
abbrev pub floor_cases : Bool → ℕ → List (Case (Option ℕ × Op))
floor_cases false number = []
floor_cases true number =
    case 4 (floor_below number ▷ name 32 ▷ name 64) (λ x. (Some x.0, Put x.1.0 x.1.1)) ∷
    case 5 (floor_below number ▷ name 32) (λ x. (Some x.0, Del x.1)) ∷
    case 6 (floor_below number ▷ name 32 ▷ name 64) (λ x. (Some x.0, App x.1.0 x.1.1)) ∷ []

-- how each operation is read
abbrev pub told_cases : Bool → ℕ → List (Case (Option ℕ × Op))
told_cases floors number =
    case 1 (name 32 ▷ name 64) (λ x. (None, Put x.0 x.1)) ∷
    case 2 (name 32) (λ x. (None, Del x)) ∷
    case 3 (name 32 ▷ name 64) (λ x. (None, App x.0 x.1)) ∷ floor_cases floors number

-- an operation of the command with this number
unfoldable pub told_op : Bool → ℕ → Format (Option ℕ × Op)
told_op floors number = tagged (told_shape floors number) (told_cases floors number)

-- the floor that is told: none where it is the number just below the client's
abbrev pub told_floor : ℕ → ℕ → Option ℕ
told_floor number floor = if floor + 1 == number then None else Some floor

-- the floor that is meant
abbrev pub meant_floor : ℕ → Option ℕ → ℕ
meant_floor number None = number - 1
meant_floor number (Some floor) = floor

abbrev pub make_command : ℕ × (ℕ × (Option ℕ × Op)) → Command
make_command x = record { client = x.0; seq = x.1.0; floor = meant_floor x.1.0 x.1.1.0; op = x.1.1.1 }

abbrev pub command_parts : Command → ℕ × (ℕ × (Option ℕ × Op))
command_parts c = (c.client, (c.seq, (told_floor c.seq c.floor, c.op)))

-- a command: its client, its number, its operation, and before the key its floor, where that is told
unfoldable pub command_with : Bool → Format Command
command_with floors = shaped make_command command_parts (u16 ▷ then_by seq (told_op floors))

-- a command of any kind
unfoldable pub command : Format Command
command = command_with true

-- whether a command tells its floor
abbrev pub tells_floor : Command → Bool
tells_floor c = not (c.floor + 1 == c.seq)

-- one to eight commands
unfoldable pub commands_with : Bool → Format (List Command)
commands_with floors = counted (only (λ n. nat_le 1 n && nat_le n 8) u8) (λ _. command_with floors)

unfoldable pub commands : Format (List Command)
commands = commands_with true

-- a value: 0 nothing to do, 1 commands
abbrev pub value_shape : Bool → Value → TaggedBytes
value_shape floors Noop = shape 0 no_bytes tt
value_shape floors (Batch list) = shape 1 (commands_with floors) list

-- how each value is read
abbrev pub value_cases : Bool → List (Case Value)
value_cases floors = case 0 no_bytes (λ _. Noop) ∷ case 1 (commands_with floors) (λ x. Batch x) ∷ []

-- a value
unfoldable pub value_with : Bool → Format Value
value_with floors = tagged (value_shape floors) (value_cases floors)

unfoldable pub value : Format Value
value = value_with true

-- whether a command of a value tells its floor
abbrev pub value_tells : Value → Bool
value_tells v = list_any tells_floor (commands_of v)

-- the length of a text in a reply
unfoldable pub reply_len : Format ℕ
reply_len = only (λ n. nat_le 1 n && nat_le n 64) u8

-- a reply: 0 okay, 1 the text that was, 2 there was none, 3 a length, 4 no room
abbrev pub reply_shape : Reply → TaggedBytes
reply_shape Okay = shape 0 no_bytes tt
reply_shape (Was text) = shape 1 (name 64) text
reply_shape Absent = shape 2 no_bytes tt
reply_shape (Len n) = shape 3 reply_len n
reply_shape Full = shape 4 no_bytes tt

-- how each reply is read
abbrev pub reply_cases : List (Case Reply)
reply_cases =
    case 0 no_bytes (λ _. Okay) ∷
    case 1 (name 64) (λ x. Was x) ∷
    case 2 no_bytes (λ _. Absent) ∷
    case 3 reply_len (λ x. Len x) ∷
    case 4 no_bytes (λ _. Full) ∷ []

-- a reply
unfoldable pub reply : Format Reply
reply = tagged reply_shape reply_cases

-- one to 32 values
unfoldable pub values : Format (List Value)
values = counted (only (λ n. nat_le 1 n && nat_le n 32) u8) (λ _. value)

-- whether the last of the values before passes a test, if there is one
abbrev pub last_passes : {A : Type 0} → (A → Bool) → List A → Bool
last_passes test before = option_map_or test (slice_get before (length before - 1)) true

-- a slot of the window that begins at cw
abbrev pub in_window : ℕ → ℕ → Bool
in_window cw s = nat_le cw s && nat_lt s (cw + 32)

-- an entry after others, of a greater round
unfoldable pub entry : List Entry → Format Entry
entry before = shaped (λ x. record { round = x.0; grid = x.1 }) (λ e. (e.round, e.grid))
    (only (λ r. last_passes (λ e. is_before e.round r) before) round ▷ grid)

-- at most 255 entries
unfoldable pub entries : Format (List Entry)
entries = counted (only (λ n. nat_le n 255) u8) entry

-- at most 254 entries, with which a matchmaker begins
unfoldable pub joined : Format (List Entry)
joined = counted (only (λ n. nat_le n 254) u8) entry

-- a matchmaker of a set, after others: its id is greater
unfoldable pub set_member : List ℕ → Format ℕ
set_member before = only (λ id. last_passes (λ m. nat_lt m id) before) u16

-- a set of at most seven matchmakers
unfoldable pub set : Format (List ℕ)
set = counted (only (λ n. nat_le n 7) u8) set_member

-- whether a set of n matchmakers goes with the round in which it was accepted: it has none exactly where there is no round
abbrev pub goes_with : Round → ℕ → Bool
goes_with accepted n = if nat_le 1 accepted.r then nat_le 1 n else n == 0

-- the set that was accepted in a round, or in none
unfoldable pub accepted_set : Round → Format (List ℕ)
accepted_set accepted = counted (only (λ n. nat_le n 7 && goes_with accepted n) u8) set_member

-- a vote after others, at a greater slot of the window
unfoldable pub vote_with : Bool → ℕ → List Vote → Format Vote
vote_with floors cw before = shaped (λ x. record { round = x.0; slot = x.1.0; value = x.1.1 }) (λ v. (v.round, (v.slot, v.value)))
    (round ▷ only (λ s. in_window cw s && last_passes (λ v. nat_lt v.slot s) before) slot ▷ value_with floors)

-- at most 32 votes
unfoldable pub votes_with : Bool → ℕ → Format (List Vote)
votes_with floors cw = counted (only (λ n. nat_le n 32) u8) (vote_with floors cw)

unfoldable pub votes : ℕ → Format (List Vote)
votes = votes_with true

-- a command's answer: its client, its number, one more than its slot, and the reply
unfoldable pub answered : Format Answered
answered = shaped (λ x. record { client = x.0; seq = x.1.0; at = x.1.1.0; reply = x.1.1.1 }) (λ a. (a.client, (a.seq, (a.at, a.reply))))
    (u16 ▷ seq ▷ at ▷ reply)

-- one to eight answers
unfoldable pub answers : Format (List Answered)
answers = counted (only (λ n. nat_le 1 n && nat_le n 8) u8) (λ _. answered)

-- a pair of the map: its key and its text
unfoldable pub pair : Format Pair
pair = shaped (λ x. record { key = x.0; text = x.1 }) (λ p. (p.key, p.text)) (name 32 ▷ name 64)

-- one to 255 pairs
unfoldable pub pairs : Format (List Pair)
pairs = counted (only (λ n. nat_le 1 n && nat_le n 255) u8) (λ _. pair)

-- what is noted of a client's number: the number, one more than its command's slot, and the reply
unfoldable pub note : Format Note
note = shaped (λ x. record { seq = x.0; at = x.1.0; reply = x.1.1 }) (λ n. (n.seq, (n.at, n.reply))) (seq ▷ at ▷ reply)

-- one to 64 notes
unfoldable pub notes : Format (List Note)
notes = counted (only (λ n. nat_le 1 n && nat_le n 64) u8) (λ _. note)

-- what a read found: 0 nothing, 1 a text
abbrev pub found_shape : Option (List ℕ) → TaggedBytes
found_shape None = shape 0 no_bytes tt
found_shape (Some text) = shape 1 (name 64) text

-- how each is read
abbrev pub found_cases : List (Case (Option (List ℕ)))
found_cases = case 0 no_bytes (λ _. None) ∷ case 1 (name 64) (λ x. Some x) ∷ []

-- what a read found
unfoldable pub found : Format (Option (List ℕ))
found = tagged found_shape found_cases

-- why a matchmaker refuses a round: 0 it is collected, 1 a later one is recorded, 2 there is no room
abbrev pub reason_shape : NackReason → TaggedBytes
reason_shape nack.Collected = shape 0 no_bytes tt
reason_shape nack.Later = shape 1 no_bytes tt
reason_shape nack.Full = shape 2 no_bytes tt

-- how each reason is read
abbrev pub reason_cases : List (Case NackReason)
reason_cases = case 0 no_bytes (λ _. nack.Collected) ∷ case 1 no_bytes (λ _. nack.Later) ∷ case 2 no_bytes (λ _. nack.Full) ∷ []

-- why a matchmaker refuses a round
unfoldable pub reason : Format NackReason
reason = tagged reason_shape reason_cases

-- a read: its client and its number
unfoldable pub token : Format Token
token = shaped (λ x. record { client = x.0; seq = x.1 }) (λ t. (t.client, t.seq)) (u16 ▷ seq)

-- an asking of a reader: the reader and its turn
unfoldable pub asking : Format Asking
asking = shaped (λ x. record { reader = x.0; turn = x.1 }) (λ a. (a.reader, a.turn)) (u16 ▷ seq)
