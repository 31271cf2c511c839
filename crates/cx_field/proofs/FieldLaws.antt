-- Each field is read as it is spelled.
use Rattle.cx_base.proofs.Common.{◌≡◌, ◌⊎◌, ◌+◌, ◌-◌, inl, inr, arith, false, ℕ, zero, suc, ◌<◌, true, ◌&&◌, not, cond, List, [], ◌∷◌, ◌++◌}
use Rattle.cx_base.proofs.Common.{length, Ok, Err, Bool, Option, Some, None, refl, sym, ap, subst, ◌∙◌, lit<, nat_le, nat_lt, ◌^◌, ◌*◌}
use Rattle.cx_base.proofs.Common.{◌||◌, ◌==◌, cases_Bool, eqb-true, not-true, nat_tests, floor_fits, is_name_byte, make_grid, is_in}
use Rattle.cx_base.proofs.Common.{are_new, is_before}
use Rattle.cx_base.specs.Grid.{Shape as GridShape}
use Rattle.cx_base.specs.declared.round.Round.{Round}
use Rattle.cx_base.specs.declared.command.Op.{Op}
use Rattle.cx_base.specs.declared.command.Op.TheVariants.{Put, Del, App}
use Rattle.cx_base.specs.declared.command.Command.{Command}
use Rattle.cx_base.specs.declared.command.Value.{Value}
use Rattle.cx_base.specs.declared.command.Value.TheVariants.{Noop, Batch}
use Rattle.cx_base.specs.declared.command.Reply.{Reply}
use Rattle.cx_base.specs.declared.command.Reply.TheVariants.{Okay, Was, Absent, Len, Full}
use Rattle.cx_wire.specs.Format.{bad, ◌>>=◌, u8, u16, u32, u64, only, whole, then_by, ◌▷◌, no_bytes, each_read, times}
use Rattle.cx_wire.proofs.Laws.{IsExact, bind_ok, guard_ok, ok_is, u8-exact, u16-exact, u32-exact, u64-exact, only-exact, whole-exact}
use Rattle.cx_wire.proofs.Laws.{then_by-exact, ▷-exact, nothing-exact, shaped-exact, times-exact, counted-exact, case-sound, case-again}
use Rattle.cx_wire.proofs.Laws.{AllSound, tagged-exact, ReadsAgain, both}
use Rattle.cx_field.specs.declared.parts.Entry.{Entry}
use Rattle.cx_field.specs.declared.parts.NackReason.{NackReason}
use Rattle.cx_field.specs.declared.parts.NackReason.TheVariants as nack
use Rattle.cx_field.specs.declared.parts.Vote.{Vote}
use Rattle.cx_field.specs.Fields.{slot, mark, at, seq, round_fields, round, round0, member, grid, name_byte, name, floor_below, told_shape}
use Rattle.cx_field.specs.Fields.{floor_cases, told_cases, told_op, told_floor, meant_floor, make_command, command_parts, command_with}
use Rattle.cx_field.specs.Fields.{command, commands_with, commands, value_shape, value_cases, value_with, value, reply_len, reply_shape}
use Rattle.cx_field.specs.Fields.{reply_cases, reply, values, last_passes, in_window, entry, entries, joined, set_member, set, goes_with}
use Rattle.cx_field.specs.Fields.{accepted_set, vote_with, votes_with, votes, answered, answers, pair, pairs, note, notes, found_shape}
use Rattle.cx_field.specs.Fields.{found_cases, found, reason_shape, reason_cases, reason, token, asking}

pub slot-exact : IsExact slot
unfolding slot
slot-exact = only-exact (λ n. nat_lt n (2 ^ 40)) u64 u64-exact

pub mark-exact : IsExact mark
unfolding mark
mark-exact = only-exact (λ n. nat_le n (2 ^ 40)) u64 u64-exact

pub at-exact : IsExact at
unfolding at
at-exact = only-exact (λ n. nat_le 1 n && nat_le n (2 ^ 40)) u64 u64-exact

pub seq-exact : IsExact seq
unfolding seq
seq-exact = only-exact (λ n. nat_le 1 n) u64 u64-exact

round_fields-exact : IsExact round_fields
round_fields-exact = shaped-exact {A = ℕ × (ℕ × ℕ)} (λ x. record { r = x.0; id = x.1.0; s = x.1.1 }) (λ r. (r.r, (r.id, r.s)))
    (u32 ▷ (u16 ▷ u32)) (▷-exact u32 (u16 ▷ u32) u32-exact (▷-exact u16 u32 u16-exact u32-exact)) (λ x _. refl) (λ r. refl)

pub round-exact : IsExact round
unfolding round
round-exact = only-exact (λ r. nat_le 1 r.r) (whole 10 round_fields) (whole-exact 10 round_fields round_fields-exact)

pub round0-exact : IsExact round0
unfolding round0
round0-exact = only-exact (λ r. nat_le 1 r.r || (r.r == 0 && r.id == 0 && r.s == 0)) (whole 10 round_fields)
    (whole-exact 10 round_fields round_fields-exact)

pub member-exact : (before : List ℕ) → IsExact (member before)
unfolding member
member-exact before = only-exact (λ id. not (is_in id before)) u16 u16-exact

-- members that are read are new
pub members_new : (n : ℕ) (before : List ℕ) (bytes : List ℕ) (x : List ℕ × List ℕ) → each_read member before n bytes ≡ Ok x
    → are_new before x.0 ≡ true
unfolding each_read member
members_new zero before bytes x e = subst (λ (y : List ℕ × List ℕ). are_new before y.0 ≡ true) (ok_is ([], bytes) x e) refl
members_new (suc n) before bytes x e =
    let a = bind_ok ((member before).read bytes) (λ y. each_read member (before ++ y.0 ∷ []) n y.1 >>= λ ys. Ok (y.0 ∷ ys.0, ys.1)) x e in
    let b = bind_ok (each_read member (before ++ a.0.0 ∷ []) n a.0.1) (λ ys. Ok (a.0.0 ∷ ys.0, ys.1)) x a.2 in
    let first = bind_ok (u16.read bytes) (λ y. cond (not (is_in y.0 before)) (Ok y) (Err (bad (length bytes)))) a.0 a.1 in
    let test = guard_ok (not (is_in first.0.0 before)) (bad (length bytes)) first.0 a.0 first.2 in
    let new : not (is_in a.0.0 before) ≡ true = ap (λ (y : ℕ × List ℕ). not (is_in y.0 before)) (sym test.1) ∙ test.0 in
    let others = members_new n (before ++ a.0.0 ∷ []) a.0.1 b.0 b.1 in
    let made : List ℕ × List ℕ = (a.0.0 ∷ b.0.0, b.0.1) in
    subst (λ (y : List ℕ × List ℕ). are_new before y.0 ≡ true) (ok_is made x b.2) (rw (new, others) refl)

pub grid-exact : IsExact grid
unfolding grid
grid-exact =
    shaped-exact {A = ℕ × (ℕ × List ℕ)} (λ x. make_grid x.0 x.1.0 x.1.1) (λ g. (g.rows, (g.cols, g.members))) _
    (then_by-exact (only (λ rows. nat_le 1 rows) u8) (λ rows. then_by (only (λ cols. nat_le 1 cols && nat_le (rows * cols) 16) u8)
    (λ cols. times (rows * cols) member)) (only-exact (λ rows. nat_le 1 rows) u8 u8-exact)
    (λ rows _. then_by-exact (only (λ cols. nat_le 1 cols && nat_le (rows * cols) 16) u8) (λ cols. times (rows * cols) member)
    (only-exact (λ cols. nat_le 1 cols && nat_le (rows * cols) 16) u8 u8-exact) (λ cols _. times-exact (rows * cols) member member-exact)))
    (λ x _. refl) (λ g. refl)

pub name_byte-exact : IsExact name_byte
unfolding name_byte
name_byte-exact = only-exact is_name_byte u8 u8-exact

pub name-exact : (limit : ℕ) → IsExact (name limit)
unfolding name
name-exact limit = counted-exact (only (λ n. nat_le 1 n && nat_le n limit) u8) (λ _. name_byte)
    (only-exact (λ n. nat_le 1 n && nat_le n limit) u8 u8-exact) (λ _. name_byte-exact)

key_text-exact : IsExact (name 32 ▷ name 64)
key_text-exact = ▷-exact (name 32) (name 64) (name-exact 32) (name-exact 64)

floor_below-exact : (number : ℕ) → IsExact (floor_below number)
unfolding floor_below
floor_below-exact number = only-exact (λ n. floor_fits number n && not (n + 1 == number)) u64 u64-exact

floor_key_text-exact : (number : ℕ) → IsExact (floor_below number ▷ (name 32 ▷ name 64))
floor_key_text-exact number = ▷-exact (floor_below number) (name 32 ▷ name 64) (floor_below-exact number) key_text-exact

floor_key-exact : (number : ℕ) → IsExact (floor_below number ▷ name 32)
floor_key-exact number = ▷-exact (floor_below number) (name 32) (floor_below-exact number) (name-exact 32)

told-small : (floors : Bool) (number : ℕ) (x : Option ℕ × Op) → (told_shape floors number x).tag < 256
told-small floors number (None, Put key text) = lit< tt
told-small floors number (None, Del key) = lit< tt
told-small floors number (None, App key text) = lit< tt
told-small floors number (Some floor, Put key text) = lit< tt
told-small floors number (Some floor, Del key) = lit< tt
told-small floors number (Some floor, App key text) = lit< tt

told-again : (floors : Bool) (number : ℕ) (x : Option ℕ × Op) → ReadsAgain (told_shape floors number) (told_cases floors number) x
told-again floors number (None, Put key text) left rest fits =
    case-again {A = Option ℕ × Op} 1 (name 32 ▷ name 64) (λ x. (None, Put x.0 x.1)) (key, text) rest key_text-exact fits
told-again floors number (None, Del key) left rest fits =
    case-again {A = Option ℕ × Op} 2 (name 32) (λ x. (None, Del x)) key rest (name-exact 32) fits
told-again floors number (None, App key text) left rest fits =
    case-again {A = Option ℕ × Op} 3 (name 32 ▷ name 64) (λ x. (None, App x.0 x.1)) (key, text) rest key_text-exact fits
told-again true number (Some floor, Put key text) left rest fits =
    case-again {A = Option ℕ × Op} 4 (floor_below number ▷ (name 32 ▷ name 64)) (λ x. (Some x.0, Put x.1.0 x.1.1)) (floor, (key, text)) rest
    (floor_key_text-exact number) fits
told-again true number (Some floor, Del key) left rest fits = case-again {A = Option ℕ × Op} 5 (floor_below number ▷ name 32)
    (λ x. (Some x.0, Del x.1)) (floor, key) rest (floor_key-exact number) fits
told-again true number (Some floor, App key text) left rest fits =
    case-again {A = Option ℕ × Op} 6 (floor_below number ▷ (name 32 ▷ name 64)) (λ x. (Some x.0, App x.1.0 x.1.1)) (floor, (key, text)) rest
    (floor_key_text-exact number) fits
told-again false number (Some floor, Put key text) left rest fits = absurd cc
told-again false number (Some floor, Del key) left rest fits = absurd cc
told-again false number (Some floor, App key text) left rest fits = absurd cc

floors-sound : (floors : Bool) (number : ℕ) → AllSound (told_shape floors number) (floor_cases floors number)
floors-sound false number = tt
floors-sound true number = (
  case-sound (told_shape true number) 4 (floor_below number ▷ (name 32 ▷ name 64)) (λ x. (Some x.0, Put x.1.0 x.1.1))
      (floor_key_text-exact number) (λ _. refl),
  (
    case-sound (told_shape true number) 5 (floor_below number ▷ name 32) (λ x. (Some x.0, Del x.1)) (floor_key-exact number) (λ _. refl),
    (
      case-sound (told_shape true number) 6 (floor_below number ▷ (name 32 ▷ name 64)) (λ x. (Some x.0, App x.1.0 x.1.1))
          (floor_key_text-exact number) (λ _. refl),
      tt,
    ),
  ),
)

pub told_op-exact : (floors : Bool) (number : ℕ) → IsExact (told_op floors number)
unfolding told_op
told_op-exact floors number = tagged-exact (told_shape floors number) (told_cases floors number) (
  case-sound (told_shape floors number) 1 (name 32 ▷ name 64) (λ x. (None, Put x.0 x.1)) key_text-exact (λ _. refl),
  (
    case-sound (told_shape floors number) 2 (name 32) (λ x. (None, Del x)) (name-exact 32) (λ _. refl),
    (
      case-sound (told_shape floors number) 3 (name 32 ▷ name 64) (λ x. (None, App x.0 x.1)) key_text-exact (λ _. refl),
      floors-sound floors number,
    ),
  ),
) (told-small floors number) (told-again floors number)

-- a floor that is told is another one than the number just below

back_floor : (number floor : ℕ) → meant_floor number (told_floor number floor) ≡ floor
back_floor number floor = go (cases_Bool (floor + 1 == number))
  where
    go : ((floor + 1 == number) ≡ true) ⊎ ((floor + 1 == number) ≡ false) → meant_floor number (told_floor number floor) ≡ floor
    go (inl e) = let q = eqb-true (floor + 1) number e in let r : number - 1 ≡ floor = omega arith in rw e r
    go (inr e) = rw e refl

apart : (number floor : ℕ) → (floor_below number).fits floor ≡ true → told_floor number floor ≡ Some floor
unfolding floor_below
apart number floor fits =
    let test = both (u64.fits floor) (floor_fits number floor && not (floor + 1 == number)) fits in
    let other = both (floor_fits number floor) (not (floor + 1 == number)) test.1 in
    let e : (floor + 1 == number) ≡ false = not-true (floor + 1 == number) other.1 in
    rw e refl

told_again : (floors : Bool) (number : ℕ) (x : Option ℕ × Op) → nat_le 1 number ≡ true → (told_shape floors number x).fits ≡ true
    → told_floor number (meant_floor number x.0) ≡ x.0
told_again floors number (None, op) some fits = let e : (number - 1 + 1 == number) ≡ true = grind (arith, nat_tests, some) in rw e refl
told_again true number (Some floor, Put key text) some fits =
    apart number floor (both ((floor_below number).fits floor) ((name 32 ▷ name 64).fits (key, text)) fits).0
told_again true number (Some floor, Del key) some fits =
    apart number floor (both ((floor_below number).fits floor) ((name 32).fits key) fits).0
told_again true number (Some floor, App key text) some fits =
    apart number floor (both ((floor_below number).fits floor) ((name 32 ▷ name 64).fits (key, text)) fits).0
told_again false number (Some floor, Put key text) some fits = absurd cc
told_again false number (Some floor, Del key) some fits = absurd cc
told_again false number (Some floor, App key text) some fits = absurd cc

-- the parts of a command that was made of them

parts_again : (floors : Bool) (x : ℕ × (ℕ × (Option ℕ × Op))) → (u16 ▷ then_by seq (told_op floors)).fits x ≡ true
    → command_parts (make_command x) ≡ x
unfolding seq told_op
parts_again floors x fits =
    let rest = both (u16.fits x.0) ((then_by seq (told_op floors)).fits x.1) fits in
    let told = both (seq.fits x.1.0) ((told_op floors x.1.0).fits x.1.1) rest.1 in
    let some = both (u64.fits x.1.0) (nat_le 1 x.1.0) told.0 in
    let pack : Option ℕ → ℕ × (ℕ × (Option ℕ × Op)) = λ o. (x.0, (x.1.0, (o, x.1.1.1))) in
    ap pack (told_again floors x.1.0 x.1.1 some.1 told.1)

made_again : (c : Command) → make_command (command_parts c) ≡ c
made_again c =
    let pack : ℕ → Command = λ n. record { client = c.client; seq = c.seq; floor = n; op = c.op } in
    ap pack (back_floor c.seq c.floor)

pub command_with-exact : (floors : Bool) → IsExact (command_with floors)
unfolding command_with
command_with-exact floors =
    shaped-exact {A = ℕ × (ℕ × (Option ℕ × Op))} make_command command_parts (u16 ▷ then_by seq (told_op floors)) (▷-exact u16
    (then_by seq (told_op floors)) u16-exact (then_by-exact seq (told_op floors) seq-exact (λ number _. told_op-exact floors number)))
    (λ x fits. parts_again floors x fits) made_again

pub command-exact : IsExact command
unfolding command
command-exact = command_with-exact true

pub commands_with-exact : (floors : Bool) → IsExact (commands_with floors)
unfolding commands_with
commands_with-exact floors = counted-exact (only (λ n. nat_le 1 n && nat_le n 8) u8) (λ _. command_with floors)
    (only-exact (λ n. nat_le 1 n && nat_le n 8) u8 u8-exact) (λ _. command_with-exact floors)

pub commands-exact : IsExact commands
unfolding commands
commands-exact = commands_with-exact true

value-small : (floors : Bool) (x : Value) → (value_shape floors x).tag < 256
value-small floors Noop = lit< tt
value-small floors (Batch list) = lit< tt

value-again : (floors : Bool) (x : Value) → ReadsAgain (value_shape floors) (value_cases floors) x
value-again floors Noop left rest fits = refl
value-again floors (Batch list) left rest fits =
    case-again {A = Value} 1 (commands_with floors) (λ x. Batch x) list rest (commands_with-exact floors) fits

pub value_with-exact : (floors : Bool) → IsExact (value_with floors)
unfolding value_with
value_with-exact floors = tagged-exact (value_shape floors) (value_cases floors) (
  case-sound (value_shape floors) 0 no_bytes (λ _. Noop) nothing-exact (λ _. refl),
  (case-sound (value_shape floors) 1 (commands_with floors) (λ x. Batch x) (commands_with-exact floors) (λ _. refl), tt),
) (value-small floors) (value-again floors)

pub value-exact : IsExact value
unfolding value
value-exact = value_with-exact true

reply_len-exact : IsExact reply_len
unfolding reply_len
reply_len-exact = only-exact (λ n. nat_le 1 n && nat_le n 64) u8 u8-exact

reply-small : (x : Reply) → (reply_shape x).tag < 256
reply-small Okay = lit< tt
reply-small (Was text) = lit< tt
reply-small Absent = lit< tt
reply-small (Len n) = lit< tt
reply-small Full = lit< tt

reply-again : (x : Reply) → ReadsAgain reply_shape reply_cases x
reply-again Okay left rest fits = refl
reply-again (Was text) left rest fits = case-again {A = Reply} 1 (name 64) (λ x. Was x) text rest (name-exact 64) fits
reply-again Absent left rest fits = refl
reply-again (Len n) left rest fits = case-again {A = Reply} 3 reply_len (λ x. Len x) n rest reply_len-exact fits
reply-again Full left rest fits = refl

pub reply-exact : IsExact reply
unfolding reply
reply-exact = tagged-exact reply_shape reply_cases (
  case-sound reply_shape 0 no_bytes (λ _. Okay) nothing-exact (λ _. refl),
  (
    case-sound reply_shape 1 (name 64) (λ x. Was x) (name-exact 64) (λ _. refl),
    (
      case-sound reply_shape 2 no_bytes (λ _. Absent) nothing-exact (λ _. refl),
      (
        case-sound reply_shape 3 reply_len (λ x. Len x) reply_len-exact (λ _. refl),
        (case-sound reply_shape 4 no_bytes (λ _. Full) nothing-exact (λ _. refl), tt),
      ),
    ),
  ),
) reply-small reply-again

pub values-exact : IsExact values
unfolding values
values-exact = counted-exact (only (λ n. nat_le 1 n && nat_le n 32) u8) (λ _. value)
    (only-exact (λ n. nat_le 1 n && nat_le n 32) u8 u8-exact) (λ _. value-exact)

entry-exact : (before : List Entry) → IsExact (entry before)
unfolding entry
entry-exact before =
    let rises : Round → Bool = λ r. last_passes (λ (e : Entry). is_before e.round r) before in
    shaped-exact {A = Round × GridShape} (λ x. record { round = x.0; grid = x.1 }) (λ e. (e.round, e.grid)) (only rises round ▷ grid)
    (▷-exact (only rises round) grid (only-exact rises round round-exact) grid-exact) (λ x _. refl) (λ e. refl)

pub entries-exact : IsExact entries
unfolding entries
entries-exact = counted-exact (only (λ n. nat_le n 255) u8) entry (only-exact (λ n. nat_le n 255) u8 u8-exact) entry-exact

pub joined-exact : IsExact joined
unfolding joined
joined-exact = counted-exact (only (λ n. nat_le n 254) u8) entry (only-exact (λ n. nat_le n 254) u8 u8-exact) entry-exact

pub set_member-exact : (before : List ℕ) → IsExact (set_member before)
unfolding set_member
set_member-exact before = only-exact (λ id. last_passes (λ m. nat_lt m id) before) u16 u16-exact

pub set-exact : IsExact set
unfolding set
set-exact = counted-exact (only (λ n. nat_le n 7) u8) set_member (only-exact (λ n. nat_le n 7) u8 u8-exact) set_member-exact

pub accepted_set-exact : (accepted : Round) → IsExact (accepted_set accepted)
unfolding accepted_set
accepted_set-exact accepted = counted-exact (only (λ n. nat_le n 7 && goes_with accepted n) u8) set_member
    (only-exact (λ n. nat_le n 7 && goes_with accepted n) u8 u8-exact) set_member-exact

vote_with-exact : (floors : Bool) (cw : ℕ) (before : List Vote) → IsExact (vote_with floors cw before)
unfolding vote_with
vote_with-exact floors cw before =
    let rises : ℕ → Bool = λ s. in_window cw s && last_passes (λ (v : Vote). nat_lt v.slot s) before in
    shaped-exact {A = Round × (ℕ × Value)} (λ x. record { round = x.0; slot = x.1.0; value = x.1.1 }) (λ v. (v.round, (v.slot, v.value)))
    (round ▷ (only rises slot ▷ value_with floors))
    (▷-exact round (only rises slot ▷ value_with floors) round-exact
    (▷-exact (only rises slot) (value_with floors) (only-exact rises slot slot-exact) (value_with-exact floors))) (λ x _. refl) (λ v. refl)

pub votes_with-exact : (floors : Bool) (cw : ℕ) → IsExact (votes_with floors cw)
unfolding votes_with
votes_with-exact floors cw =
    counted-exact (only (λ n. nat_le n 32) u8) (vote_with floors cw) (only-exact (λ n. nat_le n 32) u8 u8-exact) (vote_with-exact floors cw)

pub votes-exact : (cw : ℕ) → IsExact (votes cw)
unfolding votes
votes-exact cw = votes_with-exact true cw

answered-exact : IsExact answered
unfolding answered
answered-exact = shaped-exact {A = ℕ × (ℕ × (ℕ × Reply))} (λ x. record { client = x.0; seq = x.1.0; at = x.1.1.0; reply = x.1.1.1 })
    (λ a. (a.client, (a.seq, (a.at, a.reply)))) (u16 ▷ (seq ▷ (at ▷ reply)))
    (▷-exact u16 (seq ▷ (at ▷ reply)) u16-exact (▷-exact seq (at ▷ reply) seq-exact (▷-exact at reply at-exact reply-exact)))
    (λ x _. refl) (λ a. refl)

pub answers-exact : IsExact answers
unfolding answers
answers-exact = counted-exact (only (λ n. nat_le 1 n && nat_le n 8) u8) (λ _. answered)
    (only-exact (λ n. nat_le 1 n && nat_le n 8) u8 u8-exact) (λ _. answered-exact)

pair-exact : IsExact pair
unfolding pair
pair-exact = shaped-exact {A = List ℕ × List ℕ} (λ x. record { key = x.0; text = x.1 }) (λ p. (p.key, p.text)) (name 32 ▷ name 64)
    (▷-exact (name 32) (name 64) (name-exact 32) (name-exact 64)) (λ x _. refl) (λ p. refl)

pub pairs-exact : IsExact pairs
unfolding pairs
pairs-exact = counted-exact (only (λ n. nat_le 1 n && nat_le n 255) u8) (λ _. pair)
    (only-exact (λ n. nat_le 1 n && nat_le n 255) u8 u8-exact) (λ _. pair-exact)

note-exact : IsExact note
unfolding note
note-exact = shaped-exact {A = ℕ × (ℕ × Reply)} (λ x. record { seq = x.0; at = x.1.0; reply = x.1.1 }) (λ n. (n.seq, (n.at, n.reply)))
    (seq ▷ (at ▷ reply)) (▷-exact seq (at ▷ reply) seq-exact (▷-exact at reply at-exact reply-exact)) (λ x _. refl) (λ n. refl)

pub notes-exact : IsExact notes
unfolding notes
notes-exact = counted-exact (only (λ n. nat_le 1 n && nat_le n 64) u8) (λ _. note) (only-exact (λ n. nat_le 1 n && nat_le n 64) u8 u8-exact)
    (λ _. note-exact)

found-small : (x : Option (List ℕ)) → (found_shape x).tag < 256
found-small None = lit< tt
found-small (Some text) = lit< tt

found-again : (x : Option (List ℕ)) → ReadsAgain found_shape found_cases x
found-again None left rest fits = refl
found-again (Some text) left rest fits = case-again {A = Option (List ℕ)} 1 (name 64) (λ x. Some x) text rest (name-exact 64) fits

pub found-exact : IsExact found
unfolding found
found-exact = tagged-exact found_shape found_cases (
  case-sound found_shape 0 no_bytes (λ _. None) nothing-exact (λ _. refl),
  (case-sound found_shape 1 (name 64) (λ x. Some x) (name-exact 64) (λ _. refl), tt),
) found-small found-again

reason-small : (x : NackReason) → (reason_shape x).tag < 256
reason-small nack.Collected = lit< tt
reason-small nack.Later = lit< tt
reason-small nack.Full = lit< tt

reason-again : (x : NackReason) → ReadsAgain reason_shape reason_cases x
reason-again nack.Collected left rest fits = refl
reason-again nack.Later left rest fits = refl
reason-again nack.Full left rest fits = refl

pub reason-exact : IsExact reason
unfolding reason
reason-exact = tagged-exact reason_shape reason_cases (
  case-sound reason_shape 0 no_bytes (λ _. nack.Collected) nothing-exact (λ _. refl),
  (
    case-sound reason_shape 1 no_bytes (λ _. nack.Later) nothing-exact (λ _. refl),
    (case-sound reason_shape 2 no_bytes (λ _. nack.Full) nothing-exact (λ _. refl), tt),
  ),
) reason-small reason-again

pub token-exact : IsExact token
unfolding token
token-exact = shaped-exact {A = ℕ × ℕ} (λ x. record { client = x.0; seq = x.1 }) (λ t. (t.client, t.seq)) (u16 ▷ seq)
    (▷-exact u16 seq u16-exact seq-exact) (λ x _. refl) (λ t. refl)

pub asking-exact : IsExact asking
unfolding asking
asking-exact = shaped-exact {A = ℕ × ℕ} (λ x. record { reader = x.0; turn = x.1 }) (λ a. (a.reader, a.turn)) (u16 ▷ seq)
    (▷-exact u16 seq u16-exact seq-exact) (λ x _. refl) (λ a. refl)
