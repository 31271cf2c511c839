-- How many bytes each field takes at most.
use Rattle.cx_base.proofs.Common.{◌≡◌, ℕ, ◌+◌, ◌*◌, ◌≤◌, Bool, true, ◌&&◌, ◌||◌, not, List, length, Option, Some, None, arith, rules}
use Rattle.cx_base.proofs.Common.{nat_le, nat_lt, ◌^◌, ◌==◌, floor_fits, is_name_byte, is_before, is_in, make_grid}
use Rattle.cx_base.specs.Grid.{Shape as GridShape}
use Rattle.cx_base.specs.declared.round.Round.{Round}
use Rattle.cx_base.specs.declared.command.Op.{Op}
use Rattle.cx_base.specs.declared.command.Op.TheVariants.{Put, Del, App}
use Rattle.cx_base.specs.declared.command.Value.{Value}
use Rattle.cx_base.specs.declared.command.Value.TheVariants as values
use Rattle.cx_base.specs.declared.command.Reply.{Reply}
use Rattle.cx_base.specs.declared.command.Reply.TheVariants as replies
use Rattle.cx_wire.specs.Format.{u8, u16, u32, u64, only, whole, then_by, ◌▷◌, times}
use Rattle.cx_wire.proofs.Laws.{both}
use Rattle.cx_wire.proofs.Sizes.{IsShort, u8-short, u16-short, u32-short, u64-short, weaker, only-short, whole-short, then_by-short}
use Rattle.cx_wire.proofs.Sizes.{▷-short, shaped-short, times-short, counted-short, tagged-short}
use Rattle.cx_field.specs.Fields.{slot, mark, seq, at, round_fields, round, round0, member, grid, name_byte, name, floor_below, told_shape}
use Rattle.cx_field.specs.Fields.{told_cases, told_op, make_command, command_parts, command_with, command, commands_with, commands}
use Rattle.cx_field.specs.Fields.{value_shape, value_cases, value_with, value, reply_len, reply_shape, reply_cases, reply, last_passes}
use Rattle.cx_field.specs.Fields.{in_window, entry, entries, joined, set_member, set, goes_with, accepted_set, vote_with, votes_with, votes}
use Rattle.cx_field.specs.Fields.{answered, answers, pair, pairs, note, notes, found_shape, found_cases, found, reason_shape, reason_cases}
use Rattle.cx_field.specs.Fields.{reason, token, asking}
use Rattle.cx_field.specs.declared.parts.Entry.{Entry}
use Rattle.cx_field.specs.declared.parts.NackReason.{NackReason}
use Rattle.cx_field.specs.declared.parts.NackReason.TheVariants as nack
use Rattle.cx_field.specs.declared.parts.Vote.{Vote}

at_most : (n k : ℕ) → nat_le n k ≡ true → n ≤ k
at_most n k h = search (rules, h)

from_one : (n k : ℕ) → (only (λ m. nat_le 1 m && nat_le m k) u8).fits n ≡ true → n ≤ k
from_one n k h = at_most n k (both (nat_le 1 n) (nat_le n k) (both (u8.fits n) (nat_le 1 n && nat_le n k) h).1).1

from_none : (n k : ℕ) → (only (λ m. nat_le m k) u8).fits n ≡ true → n ≤ k
from_none n k h = at_most n k (both (u8.fits n) (nat_le n k) h).1

pub slot-short : IsShort slot 8
unfolding slot
slot-short = only-short (λ n. nat_lt n (2 ^ 40)) u64 8 u64-short

pub mark-short : IsShort mark 8
unfolding mark
mark-short = only-short (λ n. nat_le n (2 ^ 40)) u64 8 u64-short

pub at-short : IsShort at 8
unfolding at
at-short = only-short (λ n. nat_le 1 n && nat_le n (2 ^ 40)) u64 8 u64-short

pub seq-short : IsShort seq 8
unfolding seq
seq-short = only-short (λ n. nat_le 1 n) u64 8 u64-short

round_fields-short : IsShort round_fields 10
round_fields-short = shaped-short {A = ℕ × (ℕ × ℕ)} (λ x. record { r = x.0; id = x.1.0; s = x.1.1 }) (λ r. (r.r, (r.id, r.s)))
    (u32 ▷ (u16 ▷ u32)) 10 (▷-short u32 (u16 ▷ u32) 4 6 u32-short (▷-short u16 u32 2 4 u16-short u32-short))

pub round-short : IsShort round 10
unfolding round
round-short = only-short (λ r. nat_le 1 r.r) (whole 10 round_fields) 10 (whole-short 10 round_fields 10 round_fields-short)

pub round0-short : IsShort round0 10
unfolding round0
round0-short = only-short (λ r. nat_le 1 r.r || (r.r == 0 && r.id == 0 && r.s == 0)) (whole 10 round_fields) 10
    (whole-short 10 round_fields 10 round_fields-short)

member-short : (before : List ℕ) → IsShort (member before) 2
unfolding member
member-short before = only-short (λ id. not (is_in id before)) u16 2 u16-short

members-short : (rows cols : ℕ) → (only (λ c. nat_le 1 c && nat_le (rows * c) 16) u8).fits cols ≡ true
    → IsShort (times (rows * cols) member) 32
members-short rows cols h =
    let le : rows * cols ≤ 16 = at_most (rows * cols) 16
    (both (nat_le 1 cols) (nat_le (rows * cols) 16) (both (u8.fits cols) (nat_le 1 cols && nat_le (rows * cols) 16) h).1).1 in
    weaker (times (rows * cols) member) (rows * cols * 2) 32 (omega arith) (times-short (rows * cols) member 2 member-short)

pub grid-short : IsShort grid 34
unfolding grid
grid-short =
    shaped-short {A = ℕ × (ℕ × List ℕ)} (λ x. make_grid x.0 x.1.0 x.1.1)
    (λ g. (g.rows, (g.cols, g.members))) (then_by (only (λ rows. nat_le 1 rows) u8)
    (λ rows. then_by (only (λ cols. nat_le 1 cols && nat_le (rows * cols) 16) u8) (λ cols. times (rows * cols) member))) 34
    (then_by-short (only (λ rows. nat_le 1 rows) u8) (λ rows. then_by (only (λ cols. nat_le 1 cols && nat_le (rows * cols) 16) u8)
    (λ cols. times (rows * cols) member)) 1 33 (only-short (λ rows. nat_le 1 rows) u8 1 u8-short)
    (λ rows _. then_by-short (only (λ cols. nat_le 1 cols && nat_le (rows * cols) 16) u8) (λ cols. times (rows * cols) member) 1 32
    (only-short (λ cols. nat_le 1 cols && nat_le (rows * cols) 16) u8 1 u8-short) (λ cols h. members-short rows cols h)))

name_byte-short : IsShort name_byte 1
unfolding name_byte
name_byte-short = only-short is_name_byte u8 1 u8-short

pub key-short : IsShort (name 32) 33
unfolding name
key-short = counted-short (only (λ n. nat_le 1 n && nat_le n 32) u8) (λ _. name_byte) 1 32 1
    (only-short (λ n. nat_le 1 n && nat_le n 32) u8 1 u8-short) (λ n h. from_one n 32 h) (λ _. name_byte-short)

pub text-short : IsShort (name 64) 65
unfolding name
text-short = counted-short (only (λ n. nat_le 1 n && nat_le n 64) u8) (λ _. name_byte) 1 64 1
    (only-short (λ n. nat_le 1 n && nat_le n 64) u8 1 u8-short) (λ n h. from_one n 64 h) (λ _. name_byte-short)

key_text-short : IsShort (name 32 ▷ name 64) 98
key_text-short = ▷-short (name 32) (name 64) 33 65 key-short text-short

floor_below-short : (number : ℕ) → IsShort (floor_below number) 8
unfolding floor_below
floor_below-short number = only-short (λ n. floor_fits number n && not (n + 1 == number)) u64 8 u64-short

floor_key_text-short : (number : ℕ) → IsShort (floor_below number ▷ (name 32 ▷ name 64)) 106
floor_key_text-short number = ▷-short (floor_below number) (name 32 ▷ name 64) 8 98 (floor_below-short number) key_text-short

floor_key-short : (number : ℕ) → IsShort (floor_below number ▷ name 32) 41
floor_key-short number = ▷-short (floor_below number) (name 32) 8 33 (floor_below-short number) key-short

told-sizes : (number : ℕ) (x : Option ℕ × Op) → (told_shape true number x).fits ≡ true → length (told_shape true number x).bytes ≤ 106
told-sizes number (None, Put key text) h = omega (arith, key_text-short.short (key, text) h)
told-sizes number (None, Del key) h = omega (arith, key-short.short key h)
told-sizes number (None, App key text) h = omega (arith, key_text-short.short (key, text) h)
told-sizes number (Some floor, Put key text) h = (floor_key_text-short number).short (floor, (key, text)) h
told-sizes number (Some floor, Del key) h = omega (arith, (floor_key-short number).short (floor, key) h)
told-sizes number (Some floor, App key text) h = (floor_key_text-short number).short (floor, (key, text)) h

told_op-short : (number : ℕ) → IsShort (told_op true number) 107
unfolding told_op
told_op-short number = tagged-short (told_shape true number) (told_cases true number) 106 (told-sizes number)

pub command-short : IsShort command 117
unfolding command command_with
command-short = shaped-short {A = ℕ × (ℕ × (Option ℕ × Op))} make_command command_parts (u16 ▷ then_by seq (told_op true)) 117 (▷-short u16
    (then_by seq (told_op true)) 2 115 u16-short (then_by-short seq (told_op true) 8 107 seq-short (λ number _. told_op-short number)))

pub commands-short : IsShort commands 937
unfolding commands commands_with command
commands-short = counted-short (only (λ n. nat_le 1 n && nat_le n 8) u8) (λ _. command_with true) 1 8 117
    (only-short (λ n. nat_le 1 n && nat_le n 8) u8 1 u8-short) (λ n h. from_one n 8 h) (λ _. command-short)

value-sizes : (x : Value) → (value_shape true x).fits ≡ true → length (value_shape true x).bytes ≤ 937
unfolding commands
value-sizes values.Noop h = omega arith
value-sizes (values.Batch list) h = commands-short.short list h

pub value-short : IsShort value 938
unfolding value value_with
value-short = tagged-short (value_shape true) (value_cases true) 937 value-sizes

reply_len-short : IsShort reply_len 1
unfolding reply_len
reply_len-short = only-short (λ n. nat_le 1 n && nat_le n 64) u8 1 u8-short

reply-sizes : (x : Reply) → (reply_shape x).fits ≡ true → length (reply_shape x).bytes ≤ 65
reply-sizes replies.Okay h = omega arith
reply-sizes (replies.Was text) h = text-short.short text h
reply-sizes replies.Absent h = omega arith
reply-sizes (replies.Len n) h = omega (arith, reply_len-short.short n h)
reply-sizes replies.Full h = omega arith

pub reply-short : IsShort reply 66
unfolding reply
reply-short = tagged-short reply_shape reply_cases 65 reply-sizes

entry-short : (before : List Entry) → IsShort (entry before) 44
unfolding entry
entry-short before =
    let rises : Round → Bool = λ r. last_passes (λ (e : Entry). is_before e.round r) before in
    shaped-short {A = Round × GridShape} (λ x. record { round = x.0; grid = x.1 }) (λ e. (e.round, e.grid)) (only rises round ▷ grid) 44
    (▷-short (only rises round) grid 10 34 (only-short rises round 10 round-short) grid-short)

pub entries-short : IsShort entries 11221
unfolding entries
entries-short = counted-short (only (λ n. nat_le n 255) u8) entry 1 255 44 (only-short (λ n. nat_le n 255) u8 1 u8-short)
    (λ n h. from_none n 255 h) entry-short

pub joined-short : IsShort joined 11177
unfolding joined
joined-short = counted-short (only (λ n. nat_le n 254) u8) entry 1 254 44 (only-short (λ n. nat_le n 254) u8 1 u8-short)
    (λ n h. from_none n 254 h) entry-short

set_member-short : (before : List ℕ) → IsShort (set_member before) 2
unfolding set_member
set_member-short before = only-short (λ id. last_passes (λ m. nat_lt m id) before) u16 2 u16-short

pub set-short : IsShort set 15
unfolding set
set-short = counted-short (only (λ n. nat_le n 7) u8) set_member 1 7 2 (only-short (λ n. nat_le n 7) u8 1 u8-short) (λ n h. from_none n 7 h)
    set_member-short

from_accepted : (accepted : Round) (n : ℕ) → (only (λ m. nat_le m 7 && goes_with accepted m) u8).fits n ≡ true → n ≤ 7
from_accepted accepted n h =
    at_most n 7 (both (nat_le n 7) (goes_with accepted n) (both (u8.fits n) (nat_le n 7 && goes_with accepted n) h).1).0

pub accepted_set-short : (accepted : Round) → IsShort (accepted_set accepted) 15
unfolding accepted_set
accepted_set-short accepted = counted-short (only (λ n. nat_le n 7 && goes_with accepted n) u8) set_member 1 7 2
    (only-short (λ n. nat_le n 7 && goes_with accepted n) u8 1 u8-short) (from_accepted accepted) set_member-short

vote-short : (cw : ℕ) (before : List Vote) → IsShort (vote_with true cw before) 956
unfolding vote_with value
vote-short cw before =
    let rises : ℕ → Bool = λ s. in_window cw s && last_passes (λ (v : Vote). nat_lt v.slot s) before in
    shaped-short {A = Round × (ℕ × Value)} (λ x. record { round = x.0; slot = x.1.0; value = x.1.1 }) (λ v. (v.round, (v.slot, v.value)))
    (round ▷ (only rises slot ▷ value_with true)) 956
    (▷-short round (only rises slot ▷ value_with true) 10 946 round-short
    (▷-short (only rises slot) (value_with true) 8 938 (only-short rises slot 8 slot-short) value-short))

pub votes-short : (cw : ℕ) → IsShort (votes cw) 30593
unfolding votes votes_with
votes-short cw = counted-short (only (λ n. nat_le n 32) u8) (vote_with true cw) 1 32 956 (only-short (λ n. nat_le n 32) u8 1 u8-short)
    (λ n h. from_none n 32 h) (vote-short cw)

answered-short : IsShort answered 84
unfolding answered
answered-short = shaped-short {A = ℕ × (ℕ × (ℕ × Reply))} (λ x. record { client = x.0; seq = x.1.0; at = x.1.1.0; reply = x.1.1.1 })
    (λ a. (a.client, (a.seq, (a.at, a.reply)))) (u16 ▷ (seq ▷ (at ▷ reply))) 84
    (▷-short u16 (seq ▷ (at ▷ reply)) 2 82 u16-short (▷-short seq (at ▷ reply) 8 74 seq-short (▷-short at reply 8 66 at-short reply-short)))

pub answers-short : IsShort answers 673
unfolding answers
answers-short = counted-short (only (λ n. nat_le 1 n && nat_le n 8) u8) (λ _. answered) 1 8 84
    (only-short (λ n. nat_le 1 n && nat_le n 8) u8 1 u8-short) (λ n h. from_one n 8 h) (λ _. answered-short)

pair-short : IsShort pair 98
unfolding pair
pair-short =
    shaped-short {A = List ℕ × List ℕ} (λ x. record { key = x.0; text = x.1 }) (λ p. (p.key, p.text)) (name 32 ▷ name 64) 98 key_text-short

pub pairs-short : IsShort pairs 24991
unfolding pairs
pairs-short = counted-short (only (λ n. nat_le 1 n && nat_le n 255) u8) (λ _. pair) 1 255 98
    (only-short (λ n. nat_le 1 n && nat_le n 255) u8 1 u8-short) (λ n h. from_one n 255 h) (λ _. pair-short)

note-short : IsShort note 82
unfolding note
note-short = shaped-short {A = ℕ × (ℕ × Reply)} (λ x. record { seq = x.0; at = x.1.0; reply = x.1.1 }) (λ n. (n.seq, (n.at, n.reply)))
    (seq ▷ (at ▷ reply)) 82 (▷-short seq (at ▷ reply) 8 74 seq-short (▷-short at reply 8 66 at-short reply-short))

pub notes-short : IsShort notes 5249
unfolding notes
notes-short = counted-short (only (λ n. nat_le 1 n && nat_le n 64) u8) (λ _. note) 1 64 82
    (only-short (λ n. nat_le 1 n && nat_le n 64) u8 1 u8-short) (λ n h. from_one n 64 h) (λ _. note-short)

found-sizes : (x : Option (List ℕ)) → (found_shape x).fits ≡ true → length (found_shape x).bytes ≤ 65
found-sizes None h = omega arith
found-sizes (Some text) h = text-short.short text h

pub found-short : IsShort found 66
unfolding found
found-short = tagged-short found_shape found_cases 65 found-sizes

reason-sizes : (x : NackReason) → (reason_shape x).fits ≡ true → length (reason_shape x).bytes ≤ 0
reason-sizes nack.Collected h = omega arith
reason-sizes nack.Later h = omega arith
reason-sizes nack.Full h = omega arith

pub reason-short : IsShort reason 1
unfolding reason
reason-short = tagged-short reason_shape reason_cases 0 reason-sizes

pub token-short : IsShort token 10
unfolding token
token-short = shaped-short {A = ℕ × ℕ} (λ x. record { client = x.0; seq = x.1 }) (λ t. (t.client, t.seq)) (u16 ▷ seq) 10
    (▷-short u16 seq 2 8 u16-short seq-short)

pub asking-short : IsShort asking 10
unfolding asking
asking-short = shaped-short {A = ℕ × ℕ} (λ x. record { reader = x.0; turn = x.1 }) (λ a. (a.reader, a.turn)) (u16 ▷ seq) 10
    (▷-short u16 seq 2 8 u16-short seq-short)
