-- The commands and the answers of a value, one by one.
use Rattle.cx_role.proofs.Common.{◌≡◌, ℕ, ◌<◌, ◌≤◌, ◌^◌, Bool, true, ◌&&◌, List, [], ◌∷◌, ◌++◌, length, refl, ap, sym, ◌∙◌, arith, list_all}
use Rattle.cx_role.proofs.Common.{and_from, and_parts, nat_tests, Answered, Command, Value, Note}
use Rattle.cx_base.specs.declared.command.Value.TheVariants.{Batch}
use Rattle.cx_model.specs.Replica.{answer_of}
use Rattle.cx_wire.specs.Format.{Format, u8, u16, u64, each_fits}
use Rattle.cx_field.specs.Fields.{slot, mark, command, command_with, commands_with, value, value_with, answered, note, notes, answers}
use Rattle.cx_field.specs.Fields.{values}
use Rattle.cx_replica.specs.Sound.{are_answers, are_commands, are_notes, are_values}

pub each_fits-same : {A : Type 0} (f : Format A) (before xs : List A)
    → each_fits (λ _. f) before xs ≡ list_all (λ (x : A). f.fits x) xs
unfolding each_fits
each_fits-same f before [] = refl
each_fits-same {A} f before (x ∷ xs) = ap (λ (b : Bool). f.fits x && b) (each_fits-same f (before ++ x ∷ []) xs)

-- each command of a batch that fits
pub commands_in : (cs : List Command) → value.fits (Batch cs) ≡ true → are_commands cs ≡ true
unfolding value value_with commands_with command
commands_in cs h = sym (each_fits-same (command_with true) [] cs) ∙ ((and_parts _ _ ((and_parts _ _ h).1)).1)

-- one to eight answers that fit are the answers of a slot
pub answers_fit : (list : List Answered) → 1 ≤ length list → length list ≤ 8 → are_answers list ≡ true
    → answers.fits list ≡ true
unfolding answers u8
answers_fit list some room fit =
    let each : each_fits (λ _. answered) [] list ≡ true = each_fits-same answered [] list ∙ fit in
    grind (arith, nat_tests, each)

-- one to 32 values that fit are those of a record
pub values_fit : (list : List Value) → 1 ≤ length list → length list ≤ 32 → are_values list ≡ true
    → values.fits list ≡ true
unfolding values u8
values_fit list some room fit =
    let each : each_fits (λ _. value) [] list ≡ true = each_fits-same value [] list ∙ fit in
    grind (arith, nat_tests, each)

-- each value of a record that fits
pub values_in : (list : List Value) → values.fits list ≡ true → are_values list ≡ true
unfolding values
values_in list h = sym (each_fits-same value [] list) ∙ ((and_parts _ _ ((and_parts _ _ h).1)).1)

-- each number below the end of slots is a slot
pub slot_fits : (n : ℕ) → n < 2 ^ 40 → slot.fits n ≡ true
unfolding slot u64
slot_fits n below = grind (arith, nat_tests)

-- each number up to the end of slots is a number of slots
pub mark_fits : (n : ℕ) → n ≤ 2 ^ 40 → mark.fits n ≡ true
unfolding mark u64
mark_fits n most = grind (arith, nat_tests)

-- each note of a record that fits is an answer that fits
note_in : (client : ℕ) (n : Note) → u16.fits client ≡ true → note.fits n ≡ true → answered.fits (answer_of client n) ≡ true
unfolding answered note
note_in client n who fit = and_from _ _ who fit

all_notes_in : (client : ℕ) (ns : List Note) → u16.fits client ≡ true → list_all (λ (n : Note). note.fits n) ns ≡ true
    → are_notes client ns ≡ true
all_notes_in client [] who all = refl
all_notes_in client (n ∷ ns) who all =
    let parts = and_parts (note.fits n) (list_all (λ (x : Note). note.fits x) ns) all in
    and_from (answered.fits (answer_of client n)) (are_notes client ns) (note_in client n who parts.0) (all_notes_in client ns who parts.1)

pub notes_in : (client : ℕ) (ns : List Note) → u16.fits client ≡ true → notes.fits ns ≡ true → are_notes client ns ≡ true
unfolding notes
notes_in client ns who h = all_notes_in client ns who (sym (each_fits-same note [] ns) ∙ ((and_parts _ _ ((and_parts _ _ h).1)).1))
