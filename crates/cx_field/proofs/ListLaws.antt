-- The lists of messages: what their values are where they fit, and when they fit.
use Rattle.cx_base.proofs.Common.{◌≡◌, ℕ, ◌≤◌, Bool, true, false, ◌&&◌, eqb, List, [], ◌∷◌, ◌++◌, length, refl, ◌∙◌, ◌<◌, IsTrue, arith}
use Rattle.cx_base.proofs.Common.{nat_le, nat_lt, filter, list_all, lt-ltb, eq-eqb, length-append, list_all-append, nat_tests, is_before}
use Rattle.cx_base.specs.declared.command.Answered.{Answered}
use Rattle.cx_base.specs.declared.command.Command.{Command}
use Rattle.cx_base.specs.declared.command.Value.{Value}
use Rattle.cx_base.specs.declared.command.Value.TheVariants as choice
use Rattle.cx_base.specs.declared.round.Round.{Round}
use Rattle.cx_wire.specs.Format.{u8, each_fits}
use Rattle.cx_wire.proofs.Laws.{both}
use Rattle.cx_field.specs.Fields.{slot, round, grid, command, commands_with, commands, value_with, value, last_passes, in_window, entry}
use Rattle.cx_field.specs.Fields.{entries, joined, vote_with, votes_with, votes, answered, answers, values}
use Rattle.cx_field.specs.Ranges.{entry_in_range, rounds_rise, vote_in_range, slots_rise}
use Rattle.cx_field.specs.declared.parts.Entry.{Entry}
use Rattle.cx_field.specs.declared.parts.Vote.{Vote}
use Rattle.cx_field.proofs.Rising.{PassesOn, AsksToRise, join, rising_apart, rising_fits, rises-snoc, rises-filter, list_all-filter}
use Rattle.cx_field.proofs.Rising.{alike_apart, alike_fits, either}

-- ---- how many

byte_fits : (n : ℕ) → n < 256 → u8.fits n ≡ true
unfolding u8
byte_fits n lt = lt-ltb _ _ lt

at_most : (n k : ℕ) → nat_le n k ≡ true → n ≤ k
at_most n k h = grind (arith, nat_tests)

is_at_most : (n k : ℕ) → n ≤ k → nat_le n k ≡ true
is_at_most n k le = grind (arith, nat_tests)

length-filter : {A : Type 0} (p : A → Bool) (xs : List A) → length (filter p xs) ≤ length xs
length-filter p [] = omega arith
length-filter p (x ∷ xs) =
    let rest : length (filter p xs) ≤ length xs = length-filter p xs in
    either (λ ys. length ys ≤ length (x ∷ xs)) (p x) (x ∷ filter p xs) (filter p xs) (omega arith) (omega arith)

-- ---- lists of values like one another

-- the commands of a batch fit, and so does each of them
pub commands_apart : (xs : List Command) → IsTrue (commands.fits xs)
    → (1 ≤ length xs) × (length xs ≤ 8) × IsTrue (list_all (λ x. command.fits x) xs)
unfolding commands commands_with command
commands_apart xs h =
    let p = both (u8.fits (length xs) && (nat_le 1 (length xs) && nat_le (length xs) 8))
    (eqb (length xs) (length xs) && each_fits (λ _. command) [] xs) h in
    let q = both (u8.fits (length xs)) (nat_le 1 (length xs) && nat_le (length xs) 8) p.0 in
    let r = both (nat_le 1 (length xs)) (nat_le (length xs) 8) q.1 in
    let s = both (eqb (length xs) (length xs)) (each_fits (λ _. command) [] xs) p.1 in
    (at_most 1 (length xs) r.0, at_most (length xs) 8 r.1, alike_apart command xs [] s.1)

pub commands_fit : (xs : List Command) → 1 ≤ length xs → length xs ≤ 8 → IsTrue (list_all (λ x. command.fits x) xs)
    → IsTrue (commands.fits xs)
unfolding commands commands_with command
commands_fit xs low high h =
    let count = join _ _ (byte_fits (length xs) (omega arith))
    (join (nat_le 1 (length xs)) (nat_le (length xs) 8) (is_at_most 1 (length xs) low) (is_at_most (length xs) 8 high)) in
    join (u8.fits (length xs) && (nat_le 1 (length xs) && nat_le (length xs) 8))
    (eqb (length xs) (length xs) && each_fits (λ _. command) [] xs) count
    (join (eqb (length xs) (length xs)) (each_fits (λ _. command) [] xs) (eq-eqb (length xs) (length xs) refl) (alike_fits command xs [] h))

-- a value fits where its commands do
pub noop_fits : IsTrue (value.fits choice.Noop)
unfolding value value_with
noop_fits = refl

pub batch_fits : (cs : List Command) → IsTrue (commands.fits cs) → IsTrue (value.fits (choice.Batch cs))
unfolding value value_with commands
batch_fits cs h = h

pub commands_of_value : (cs : List Command) → IsTrue (value.fits (choice.Batch cs)) → IsTrue (commands.fits cs)
unfolding value value_with commands
commands_of_value cs h = h

-- the answers of a slot fit, and so does each of them
pub answers_apart : (xs : List Answered) → IsTrue (answers.fits xs)
    → (1 ≤ length xs) × (length xs ≤ 8) × IsTrue (list_all (λ x. answered.fits x) xs)
unfolding answers
answers_apart xs h =
    let p = both (u8.fits (length xs) && (nat_le 1 (length xs) && nat_le (length xs) 8))
    (eqb (length xs) (length xs) && each_fits (λ _. answered) [] xs) h in
    let q = both (u8.fits (length xs)) (nat_le 1 (length xs) && nat_le (length xs) 8) p.0 in
    let r = both (nat_le 1 (length xs)) (nat_le (length xs) 8) q.1 in
    let s = both (eqb (length xs) (length xs)) (each_fits (λ _. answered) [] xs) p.1 in
    (at_most 1 (length xs) r.0, at_most (length xs) 8 r.1, alike_apart answered xs [] s.1)

-- each answer of a list that fits is in its ranges
pub each_answer_fits : (xs : List Answered) → IsTrue (answers.fits xs) → IsTrue (list_all (λ (x : Answered). answered.fits x) xs)
each_answer_fits xs h = (answers_apart xs h).2

pub answers_fit : (xs : List Answered) → 1 ≤ length xs → length xs ≤ 8 → IsTrue (list_all (λ x. answered.fits x) xs)
    → IsTrue (answers.fits xs)
unfolding answers
answers_fit xs low high h =
    let count = join _ _ (byte_fits (length xs) (omega arith))
    (join (nat_le 1 (length xs)) (nat_le (length xs) 8) (is_at_most 1 (length xs) low) (is_at_most (length xs) 8 high)) in
    join (u8.fits (length xs) && (nat_le 1 (length xs) && nat_le (length xs) 8))
    (eqb (length xs) (length xs) && each_fits (λ _. answered) [] xs) count
    (join (eqb (length xs) (length xs)) (each_fits (λ _. answered) [] xs) (eq-eqb (length xs) (length xs) refl)
    (alike_fits answered xs [] h))

-- the values of a record fit, and so does each of them
pub values_apart : (xs : List Value) → IsTrue (values.fits xs)
    → (1 ≤ length xs) × (length xs ≤ 32) × IsTrue (list_all (λ x. value.fits x) xs)
unfolding values
values_apart xs h =
    let p = both (u8.fits (length xs) && (nat_le 1 (length xs) && nat_le (length xs) 32))
    (eqb (length xs) (length xs) && each_fits (λ _. value) [] xs) h in
    let q = both (u8.fits (length xs)) (nat_le 1 (length xs) && nat_le (length xs) 32) p.0 in
    let r = both (nat_le 1 (length xs)) (nat_le (length xs) 32) q.1 in
    let s = both (eqb (length xs) (length xs)) (each_fits (λ _. value) [] xs) p.1 in
    (at_most 1 (length xs) r.0, at_most (length xs) 32 r.1, alike_apart value xs [] s.1)

pub values_fit : (xs : List Value) → 1 ≤ length xs → length xs ≤ 32 → IsTrue (list_all (λ x. value.fits x) xs) → IsTrue (values.fits xs)
unfolding values
values_fit xs low high h =
    let count = join _ _ (byte_fits (length xs) (omega arith))
    (join (nat_le 1 (length xs)) (nat_le (length xs) 32) (is_at_most 1 (length xs) low) (is_at_most (length xs) 32 high)) in
    join (u8.fits (length xs) && (nat_le 1 (length xs) && nat_le (length xs) 32))
    (eqb (length xs) (length xs) && each_fits (λ _. value) [] xs) count
    (join (eqb (length xs) (length xs)) (each_fits (λ _. value) [] xs) (eq-eqb (length xs) (length xs) refl) (alike_fits value xs [] h))

-- ---- lists of values that rise

entry_shuffle : (a b c : Bool) → ((a && b) && c) ≡ (b && (a && c))
entry_shuffle true b c = refl
entry_shuffle false true c = refl
entry_shuffle false false c = refl

entry_asks : AsksToRise entry (λ e later. is_before e.round later.round) (λ e. entry_in_range e)
unfolding entry
entry_asks =
    record { asks = λ front e. entry_shuffle (round.fits e.round) (last_passes (λ x. is_before x.round e.round) front) (grid.fits e.grid) }

before-trans : (a b c : Round) → is_before a b ≡ true → is_before b c ≡ true → is_before a c ≡ true
before-trans a b c h k = grind (arith, nat_tests)

rounds_pass : PassesOn (λ (e : Entry) (later : Entry). is_before e.round later.round)
rounds_pass = record { on = λ x y z. before-trans x.round y.round z.round }

-- the entries of a matchmaker fit: at most 255, each in its range, in rising order
pub entries_apart : (xs : List Entry) → IsTrue (entries.fits xs)
    → (length xs ≤ 255) × IsTrue (list_all (λ x. entry_in_range x) xs) × IsTrue (rounds_rise xs)
unfolding entries
entries_apart xs h =
    let p = both (u8.fits (length xs) && nat_le (length xs) 255) (eqb (length xs) (length xs) && each_fits entry [] xs) h in
    let q = both (u8.fits (length xs)) (nat_le (length xs) 255) p.0 in
    let s = both (eqb (length xs) (length xs)) (each_fits entry [] xs) p.1 in
    let t = rising_apart entry (λ (e : Entry) (later : Entry). is_before e.round later.round) (λ x. entry_in_range x) entry_asks rounds_pass
    xs [] refl s.1 in
    (at_most (length xs) 255 q.1, t.1, t.0)

pub entries_fit : (xs : List Entry) → length xs ≤ 255 → IsTrue (list_all (λ x. entry_in_range x) xs) → IsTrue (rounds_rise xs)
    → IsTrue (entries.fits xs)
unfolding entries
entries_fit xs high h r =
    join (u8.fits (length xs) && nat_le (length xs) 255) (eqb (length xs) (length xs) && each_fits entry [] xs)
    (join (u8.fits (length xs)) (nat_le (length xs) 255) (byte_fits (length xs) (omega arith)) (is_at_most (length xs) 255 high))
    (join (eqb (length xs) (length xs)) (each_fits entry [] xs) (eq-eqb (length xs) (length xs) refl)
    (rising_fits entry (λ (e : Entry) (later : Entry). is_before e.round later.round) (λ x. entry_in_range x) entry_asks xs [] r h))

-- some of them left out
pub entries_filter : (p : Entry → Bool) (xs : List Entry) → IsTrue (entries.fits xs) → IsTrue (entries.fits (filter p xs))
entries_filter p xs h =
    let t = entries_apart xs h in
    entries_fit (filter p xs) (omega (arith, t.0, length-filter p xs)) (list_all-filter p (λ x. entry_in_range x) xs t.1)
    (rises-filter p (λ (e : Entry) (later : Entry). is_before e.round later.round) xs t.2)

-- one more after them
pub entries_snoc : (xs : List Entry) (x : Entry) → IsTrue (entries.fits xs) → length xs < 255 → IsTrue (entry_in_range x)
    → IsTrue (list_all (λ y. (λ (e : Entry) (later : Entry). is_before e.round later.round) y x) xs) → IsTrue (entries.fits (xs ++ x ∷ []))
entries_snoc xs x h room fine last =
    let t = entries_apart xs h in
    entries_fit (xs ++ x ∷ []) (omega (arith, room, length-append xs (x ∷ [])))
    (list_all-append (λ y. entry_in_range y) xs (x ∷ []) ∙ join _ _ t.1 (join (entry_in_range x) true fine refl))
    (rises-snoc (λ (e : Entry) (later : Entry). is_before e.round later.round) x xs t.2 last)

-- one more before them
pub entries_cons : (x : Entry) (xs : List Entry) → IsTrue (entries.fits xs) → length xs < 255 → IsTrue (entry_in_range x)
    → IsTrue (list_all (λ y. (λ (e : Entry) (later : Entry). is_before e.round later.round) x y) xs) → IsTrue (entries.fits (x ∷ xs))
entries_cons x xs h room fine first =
    let t = entries_apart xs h in
    entries_fit (x ∷ xs) (omega (arith, room)) (join (entry_in_range x) (list_all (λ y. entry_in_range y) xs) fine t.1)
    (join (list_all (λ y. (λ (e : Entry) (later : Entry). is_before e.round later.round) x y) xs) (rounds_rise xs) first t.2)

-- the entries with which a matchmaker begins fit: at most 254, each in its range, in rising order
pub joined_apart : (xs : List Entry) → IsTrue (joined.fits xs)
    → (length xs ≤ 254) × IsTrue (list_all (λ x. entry_in_range x) xs) × IsTrue (rounds_rise xs)
unfolding joined
joined_apart xs h =
    let p = both (u8.fits (length xs) && nat_le (length xs) 254) (eqb (length xs) (length xs) && each_fits entry [] xs) h in
    let q = both (u8.fits (length xs)) (nat_le (length xs) 254) p.0 in
    let s = both (eqb (length xs) (length xs)) (each_fits entry [] xs) p.1 in
    let t = rising_apart entry (λ (e : Entry) (later : Entry). is_before e.round later.round) (λ x. entry_in_range x) entry_asks rounds_pass
    xs [] refl s.1 in
    (at_most (length xs) 254 q.1, t.1, t.0)

pub joined_fit : (xs : List Entry) → length xs ≤ 254 → IsTrue (list_all (λ x. entry_in_range x) xs) → IsTrue (rounds_rise xs)
    → IsTrue (joined.fits xs)
unfolding joined
joined_fit xs high h r =
    join (u8.fits (length xs) && nat_le (length xs) 254) (eqb (length xs) (length xs) && each_fits entry [] xs)
    (join (u8.fits (length xs)) (nat_le (length xs) 254) (byte_fits (length xs) (omega arith)) (is_at_most (length xs) 254 high))
    (join (eqb (length xs) (length xs)) (each_fits entry [] xs) (eq-eqb (length xs) (length xs) refl)
    (rising_fits entry (λ (e : Entry) (later : Entry). is_before e.round later.round) (λ x. entry_in_range x) entry_asks xs [] r h))

-- they are entries
pub joined_are_entries : (xs : List Entry) → IsTrue (joined.fits xs) → IsTrue (entries.fits xs)
joined_are_entries xs h =
    let t = joined_apart xs h in
    entries_fit xs (omega (arith, t.0)) t.1 t.2

-- entries that are few enough
pub entries_are_joined : (xs : List Entry) → IsTrue (entries.fits xs) → length xs ≤ 254 → IsTrue (joined.fits xs)
entries_are_joined xs h few =
    let t = entries_apart xs h in
    joined_fit xs few t.1 t.2

vote_shuffle : (a b c d e : Bool) → (a && ((b && (c && d)) && e)) ≡ (d && (a && ((b && c) && e)))
vote_shuffle true true true d e = refl
vote_shuffle true true false true e = refl
vote_shuffle true true false false e = refl
vote_shuffle true false c true e = refl
vote_shuffle true false c false e = refl
vote_shuffle false b c true e = refl
vote_shuffle false b c false e = refl

vote_asks : (cw : ℕ) → AsksToRise (vote_with true cw) (λ v later. nat_lt v.slot later.slot) (λ v. vote_in_range cw v)
unfolding vote_with value
vote_asks cw = record {
  asks = λ front v. vote_shuffle (round.fits v.round) (slot.fits v.slot) (in_window cw v.slot)
      (last_passes (λ x. nat_lt x.slot v.slot) front) (value.fits v.value);
}

less-trans : (a b c : ℕ) → nat_lt a b ≡ true → nat_lt b c ≡ true → nat_lt a c ≡ true
less-trans a b c h k = grind (arith, nat_tests)

slots_pass : PassesOn (λ (v : Vote) (later : Vote). nat_lt v.slot later.slot)
slots_pass = record { on = λ x y z. less-trans x.slot y.slot z.slot }

-- the votes of an acceptor fit: at most 32, each in its range, in rising order
pub votes_apart : (cw : ℕ) (xs : List Vote) → IsTrue ((votes cw).fits xs)
    → (length xs ≤ 32) × IsTrue (list_all (λ x. vote_in_range cw x) xs) × IsTrue (slots_rise xs)
unfolding votes votes_with
votes_apart cw xs h =
    let p = both (u8.fits (length xs) && nat_le (length xs) 32) (eqb (length xs) (length xs) && each_fits (vote_with true cw) [] xs) h in
    let q = both (u8.fits (length xs)) (nat_le (length xs) 32) p.0 in
    let s = both (eqb (length xs) (length xs)) (each_fits (vote_with true cw) [] xs) p.1 in
    let t = rising_apart (vote_with true cw) (λ (v : Vote) (later : Vote). nat_lt v.slot later.slot) (λ x. vote_in_range cw x)
    (vote_asks cw) slots_pass xs [] refl s.1 in
    (at_most (length xs) 32 q.1, t.1, t.0)

pub votes_fit : (cw : ℕ) (xs : List Vote) → length xs ≤ 32 → IsTrue (list_all (λ x. vote_in_range cw x) xs) → IsTrue (slots_rise xs)
    → IsTrue ((votes cw).fits xs)
unfolding votes votes_with
votes_fit cw xs high h r =
    join (u8.fits (length xs) && nat_le (length xs) 32) (eqb (length xs) (length xs) && each_fits (vote_with true cw) [] xs)
    (join (u8.fits (length xs)) (nat_le (length xs) 32) (byte_fits (length xs) (omega arith)) (is_at_most (length xs) 32 high))
    (join (eqb (length xs) (length xs)) (each_fits (vote_with true cw) [] xs) (eq-eqb (length xs) (length xs) refl) (rising_fits
    (vote_with true cw) (λ (v : Vote) (later : Vote). nat_lt v.slot later.slot) (λ x. vote_in_range cw x) (vote_asks cw) xs [] r h))

-- some of them left out
pub votes_filter : (cw : ℕ) (p : Vote → Bool) (xs : List Vote) → IsTrue ((votes cw).fits xs) → IsTrue ((votes cw).fits (filter p xs))
votes_filter cw p xs h =
    let t = votes_apart cw xs h in
    votes_fit cw (filter p xs) (omega (arith, t.0, length-filter p xs)) (list_all-filter p (λ x. vote_in_range cw x) xs t.1)
    (rises-filter p (λ (v : Vote) (later : Vote). nat_lt v.slot later.slot) xs t.2)

-- one more after them
pub votes_snoc : (cw : ℕ) (xs : List Vote) (x : Vote) → IsTrue ((votes cw).fits xs) → length xs < 32 → IsTrue (vote_in_range cw x)
    → IsTrue (list_all (λ y. (λ (v : Vote) (later : Vote). nat_lt v.slot later.slot) y x) xs) → IsTrue ((votes cw).fits (xs ++ x ∷ []))
votes_snoc cw xs x h room fine last =
    let t = votes_apart cw xs h in
    votes_fit cw (xs ++ x ∷ []) (omega (arith, room, length-append xs (x ∷ [])))
    (list_all-append (λ y. vote_in_range cw y) xs (x ∷ []) ∙ join _ _ t.1 (join (vote_in_range cw x) true fine refl))
    (rises-snoc (λ (v : Vote) (later : Vote). nat_lt v.slot later.slot) x xs t.2 last)

-- one more before them
pub votes_cons : (cw : ℕ) (x : Vote) (xs : List Vote) → IsTrue ((votes cw).fits xs) → length xs < 32 → IsTrue (vote_in_range cw x)
    → IsTrue (list_all (λ y. (λ (v : Vote) (later : Vote). nat_lt v.slot later.slot) x y) xs) → IsTrue ((votes cw).fits (x ∷ xs))
votes_cons cw x xs h room fine first =
    let t = votes_apart cw xs h in
    votes_fit cw (x ∷ xs) (omega (arith, room)) (join (vote_in_range cw x) (list_all (λ y. vote_in_range cw y) xs) fine t.1)
    (join (list_all (λ y. (λ (v : Vote) (later : Vote). nat_lt v.slot later.slot) x y) xs) (slots_rise xs) first t.2)
