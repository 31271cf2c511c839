-- What a command is answered, and that its answer fits.
use Rattle.cx_letter.specs.Prelude.{Op, Put, Del, App, Reply, Len, reply_of, text_at, is_done, is_answer_done, noted_for, with_answer}
use Rattle.cx_letter.specs.Prelude.{with_note, with_told, u16, seq, reply}
use Rattle.cx_role.proofs.Common.{◌≡◌, ℕ, ◌+◌, ◌<◌, ◌≤◌, ◌^◌, Bool, true, false, not, ◌&&◌, List, [], ◌∷◌, ◌++◌, length, Option, None, Some}
use Rattle.cx_role.proofs.Common.{ap, ◌∙◌, refl, arith, nat_lt, if◌then◌else◌, and_parts, nat_tests, length-append, list_all-append}
use Rattle.cx_role.proofs.Common.{Answered, Command, Pair, Table, floor_of, Machine, execute, execute_all}
use Rattle.cx_base.specs.declared.command.Reply.TheVariants.{Full}
use Rattle.cx_base.specs.Fold.{reply_removed, reply_appended}
use Rattle.cx_wire.specs.Format.{u8, u64}
use Rattle.cx_field.specs.Fields.{at, slot, name, command, command_with, floor_below, told_floor, told_op, answered}
use Rattle.cx_field.specs.Ranges.{is_text_len}
use Rattle.cx_model.specs.Replica.{execute_noted, not_acting}
use Rattle.cx_replica.specs.Sound.{are_answers}
use Rattle.cx_table.specs.Judged.{judge_noted, judge_of}
use Rattle.cx_table.specs.declared.judge.Judge.TheVariants as judge
use Rattle.cx_table.proofs.Judging.{noted_holds, noted_is}
use Rattle.cx_table.proofs.Rising.{all_left, all_with}

-- a text that fits has 1 to limit bytes
name_length : (limit : ℕ) (text : List ℕ) → (name limit).fits text ≡ true → (1 ≤ length text) × (length text ≤ limit)
unfolding name u8
name_length limit text h = grind (arith, nat_tests)

appended_length : (more : List ℕ) (old : Option (List ℕ)) → (name 64).fits more ≡ true
    → is_text_len (reply_appended more old) ≡ true
appended_length more None h = let l = name_length 64 more h in grind (arith, nat_tests)
appended_length more (Some old) h = go (nat_lt 64 (length old + length more)) refl
  where
    go : (b : Bool) → nat_lt 64 (length old + length more) ≡ b
        → is_text_len (if b then Full else Len (length old + length more)) ≡ true
    go true e = refl
    go false e = let l = name_length 64 more h in grind (arith, nat_tests)

removed_length : (old : Option (List ℕ)) → is_text_len (reply_removed old) ≡ true
removed_length None = refl
removed_length (Some text) = refl

told_length : (map : List Pair) (number : ℕ) (told : Option ℕ) (o : Op) → (told_op true number).fits (told, o) ≡ true
    → is_text_len (reply_of map o) ≡ true
unfolding told_op
told_length map number told (Put key text) h = refl
told_length map number told (Del key) h = removed_length (text_at key map)
told_length map number None (App key text) h =
    appended_length text (text_at key map) ((and_parts ((name 32).fits key) ((name 64).fits text) h).1)
told_length map number (Some floor) (App key text) h =
    let rest = (and_parts ((floor_below number).fits floor) ((name 32).fits key && (name 64).fits text) h).1 in
    appended_length text (text_at key map) ((and_parts ((name 32).fits key) ((name 64).fits text) rest).1)

parts_fit : (c : Command) → command.fits c ≡ true
    → (u16.fits c.client ≡ true) × (seq.fits c.seq ≡ true)
    × ((told_op true c.seq).fits (told_floor c.seq c.floor, c.op) ≡ true)
unfolding command command_with
parts_fit c fit =
    let who = and_parts (u16.fits c.client) (seq.fits c.seq && (told_op true c.seq).fits (told_floor c.seq c.floor, c.op)) fit in
    let what = and_parts (seq.fits c.seq) ((told_op true c.seq).fits (told_floor c.seq c.floor, c.op)) who.1 in
    (who.0, what.0, what.1)

-- a length in the reply to a command that fits is that of a text
pub reply_length : (map : List Pair) (c : Command) → command.fits c ≡ true → is_text_len (reply_of map c.op) ≡ true
reply_length map c fit = told_length map c.seq (told_floor c.seq c.floor) c.op ((parts_fit c fit).2)

abbrev pub answer_to : ℕ → ℕ → ℕ → Reply → Answered
answer_to client seq n r = record { client = client; seq = seq; at = n; reply = r }

-- the answer to a command that fits, fits
pub answer_fits : (n : ℕ) (c : Command) (r : Reply) → at.fits n ≡ true → command.fits c ≡ true → reply.fits r ≡ true
    → answered.fits (answer_to c.client c.seq n r) ≡ true
unfolding answered
answer_fits n c r in_slots fit fine =
    let parts = parts_fit c fit in rw (parts.0, parts.1, in_slots, fine) refl

-- a command whose number has an answer
module _ (t : Table) (client seq n : ℕ) (r : Reply) (has : judge_of t client seq ≡ judge.Last n r) where
  noted : (is_done seq (floor_of client t.floors) ≡ false)
      × (noted_for client seq t.notes ≡ Some (answer_to client seq n r))
  noted = go (is_done seq (floor_of client t.floors)) refl (noted_for client seq t.notes) refl has
    where
      go : (d : Bool) → is_done seq (floor_of client t.floors) ≡ d → (o : Option Answered)
          → noted_for client seq t.notes ≡ o → (if d then judge.Past else judge_noted o) ≡ judge.Last n r
          → (is_done seq (floor_of client t.floors) ≡ false)
          × (noted_for client seq t.notes ≡ Some (answer_to client seq n r))
      go true is o found e = cc
      go false is None found e = cc
      go false is (Some a) found e =
          let place : a.at ≡ n = cc in
          let same : a.reply ≡ r = cc in
          (is, found ∙ ap (λ (x : Answered). Some x) (noted_is client seq t.notes a found) ∙ rw (place, same) refl)

  pub last_fits : are_answers t.notes ≡ true → answered.fits (answer_to client seq n r) ≡ true
  last_fits fit = noted_holds (λ (a : Answered). answered.fits a) client seq t.notes (answer_to client seq n r) fit noted.1

pub last_tells : (n : ℕ) (m : Machine) (c : Command) (at' : ℕ) (r : Reply)
    → judge_of m.table c.client c.seq ≡ judge.Last at' r
    → execute n m c ≡ not_acting m c (answer_to c.client c.seq at' r ∷ [])
last_tells n m c at' r e = (let was = noted m.table c.client c.seq at' r e in rw (was.0, was.1) refl)

-- the notes fit once a client has told a floor, also with an answer that fits
pub told_fit : (client floor : ℕ) (t u : Table) → u ≡ with_told client floor t → are_answers t.notes ≡ true
    → are_answers u.notes ≡ true
told_fit client floor t u is fit =
    rw is (all_left (λ (x : Answered). answered.fits x) (λ (a : Answered). not (is_answer_done client floor a)) t.notes fit)

pub noted_fit : (a : Answered) (floor : ℕ) (t u : Table) → u ≡ with_answer a floor t → answered.fits a ≡ true
    → are_answers t.notes ≡ true → are_answers u.notes ≡ true
noted_fit a floor t u is fine fit =
    told_fit a.client floor (record t { notes = with_note a t.notes }) u is
    (all_with (λ (x : Answered). answered.fits x) a t.notes fine fit)

-- answers fit with one more that fits
pub one_more_fits : (a : Answered) (old new : List Answered) → new ≡ old ++ a ∷ [] → answered.fits a ≡ true
    → are_answers old ≡ true → are_answers new ≡ true
one_more_fits a old new is fine fit =
    rw (is, list_all-append (λ (x : Answered). answered.fits x) old (a ∷ []), fit, fine) refl

one_answer : (n : ℕ) (m : Machine) (c : Command) → length (execute n m c).answers ≤ 1
one_answer n m c = go (is_done c.seq (floor_of c.client m.table.floors)) (noted_for c.client c.seq m.table.notes)
  where
    go : (d : Bool) (o : Option Answered) → length (if d then not_acting m c [] else execute_noted n m c o).answers ≤ 1
    go true o = omega arith
    go false None = omega arith
    go false (Some a) = omega arith

-- a command has one answer at most
answers_room : (n : ℕ) (m : Machine) (cs : List Command) → length (execute_all n m cs).answers ≤ length cs
answers_room n m [] = omega arith
answers_room n m (c ∷ cs) =
    let one = one_answer n m c in
    let rest = answers_room n (execute n m c).machine cs in
    omega (arith, length-append (execute n m c).answers (execute_all n (execute n m c).machine cs).answers)

-- up to eight commands have up to eight answers
pub eight_at_most : (answers : List Answered) (n : ℕ) (m : Machine) (cs : List Command)
    → answers ≡ (execute_all n m cs).answers → length cs ≤ 8 → length answers ≤ 8
eight_at_most answers n m cs is few =
    let room = answers_room n m cs in rw is (omega arith)

pub slot_below : (n : ℕ) → slot.fits n ≡ true → n < 2 ^ 40
unfolding slot u64
slot_below n h = grind (arith, nat_tests)

-- a slot's successor is a number of slots
pub next_fits : (n : ℕ) → slot.fits n ≡ true → at.fits (n + 1) ≡ true
unfolding slot at u64
next_fits n h = grind (arith, nat_tests)
