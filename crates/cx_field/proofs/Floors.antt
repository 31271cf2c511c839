-- Values that fit where no floor may be told: those that tell none, spelled alike.
use Rattle.cx_base.proofs.Common.{◌≡◌, ℕ, Bool, true, false, not, ◌&&◌, List, Option, None, Some, inl, inr, refl, ap, ◌∙◌, ◌+◌, ◌==◌}
use Rattle.cx_base.proofs.Common.{nat_le, nat_lt, list_any, cases_Bool}
use Rattle.cx_base.specs.declared.command.Command.{Command}
use Rattle.cx_base.specs.declared.command.Op.{Op}
use Rattle.cx_base.specs.declared.command.Op.TheVariants.{Put, Del, App}
use Rattle.cx_base.specs.declared.command.Value.{Value}
use Rattle.cx_base.specs.declared.command.Value.TheVariants.{Noop, Batch}
use Rattle.cx_wire.specs.Format.{Format, u8, u16, only, then_by, ◌▷◌, no_bytes}
use Rattle.cx_wire.proofs.Parts.{IsPart, IsShapePart, same-part, then_by-part, ▷-part, counted-part, tagged-part, shape-part}
use Rattle.cx_field.specs.declared.parts.Vote.{Vote}
use Rattle.cx_field.specs.Fields.{seq, slot, round, name, floor_below, told_shape, told_cases, told_op, told_floor, command_parts}
use Rattle.cx_field.specs.Fields.{command_with, command, tells_floor, commands_with, value_shape, value_cases, value_with, value}
use Rattle.cx_field.specs.Fields.{value_tells, in_window, last_passes, vote_with, votes_with}

-- whether a floor is told
abbrev pub is_told : Option ℕ → Bool
is_told None = false
is_told (Some floor) = true

and_no : (a : Bool) → false ≡ (a && false)
and_no true = refl
and_no false = refl

told_none : {B : Type 0} (tag : ℕ) (f : Format B) (x : B) → IsShapePart false (record { tag = tag; fits = f.fits x; bytes = f.spell x })
    (record { tag = tag; fits = f.fits x; bytes = f.spell x })
told_none tag f x = shape-part tag f f (λ _. false) (same-part f) x

told-part : (number : ℕ) (x : Option ℕ × Op) → IsShapePart (is_told x.0) (told_shape false number x) (told_shape true number x)
told-part number (None, Put key text) = told_none 1 (name 32 ▷ name 64) (key, text)
told-part number (None, Del key) = told_none 2 (name 32) key
told-part number (None, App key text) = told_none 3 (name 32 ▷ name 64) (key, text)
told-part number (Some floor, Put key text) =
    record { tag = refl; fits = and_no ((floor_below number ▷ name 32 ▷ name 64).fits (floor, (key, text))); bytes = refl }
told-part number (Some floor, Del key) =
    record { tag = refl; fits = and_no ((floor_below number ▷ name 32).fits (floor, key)); bytes = refl }
told-part number (Some floor, App key text) =
    record { tag = refl; fits = and_no ((floor_below number ▷ name 32 ▷ name 64).fits (floor, (key, text))); bytes = refl }

pub told_op-part : (number : ℕ) → IsPart (λ (x : Option ℕ × Op). is_told x.0) (told_op false number) (told_op true number)
unfolding told_op
told_op-part number = tagged-part (told_shape false number) (told_shape true number) (told_cases false number) (told_cases true number)
    (λ x. is_told x.0) (told-part number)

-- a command tells its floor where its parts do
tells_is : (c : Command) → is_told (told_floor c.seq c.floor) ≡ tells_floor c
tells_is c = elim (cases_Bool (c.floor + 1 == c.seq)) [ inl e ↦ rw e refl | inr e ↦ rw e refl ]

pub command-part : IsPart tells_floor (command_with false) (command_with true)
unfolding command_with
command-part =
    let inner = ▷-part u16 (then_by seq (told_op false)) (then_by seq (told_op true)) (λ (x : ℕ × (Option ℕ × Op)). is_told x.1.0)
    (then_by-part seq (told_op false) (told_op true) (λ (x : Option ℕ × Op). is_told x.0) (λ number. told_op-part number)) in
    record {
      fits = λ c. inner.fits (command_parts c) ∙ ap (λ b. (u16 ▷ then_by seq (told_op true)).fits (command_parts c) && not b) (tells_is c);
      spells = λ c. inner.spells (command_parts c);
    }

pub commands-part : IsPart (list_any tells_floor) (commands_with false) (commands_with true)
unfolding commands_with
commands-part = counted-part (only (λ n. nat_le 1 n && nat_le n 8) u8) (λ _. command_with false) (λ _. command_with true) tells_floor
    (λ _. command-part)

value_shape-part : (v : Value) → IsShapePart (value_tells v) (value_shape false v) (value_shape true v)
value_shape-part Noop = told_none 0 no_bytes tt
value_shape-part (Batch list) = shape-part 1 (commands_with false) (commands_with true) (list_any tells_floor) commands-part list

pub value-part : IsPart value_tells (value_with false) (value_with true)
unfolding value_with
value-part = tagged-part (value_shape false) (value_shape true) (value_cases false) (value_cases true) value_tells value_shape-part

pub vote-part : (cw : ℕ) (before : List Vote)
    → IsPart (λ (u : Vote). value_tells u.value) (vote_with false cw before) (vote_with true cw before)
unfolding vote_with
vote-part cw before =
    let placed = ▷-part (only (λ s. in_window cw s && last_passes (λ (v : Vote). nat_lt v.slot s) before) slot) (value_with false)
    (value_with true) value_tells value-part in
    let inner = ▷-part round _ _ (λ (x : ℕ × Value). value_tells x.1) placed in
    record { fits = λ u. inner.fits (u.round, (u.slot, u.value)); spells = λ u. inner.spells (u.round, (u.slot, u.value)) }

pub votes-part : (cw : ℕ) → IsPart (list_any (λ (u : Vote). value_tells u.value)) (votes_with false cw) (votes_with true cw)
unfolding votes_with
votes-part cw =
    counted-part (only (λ n. nat_le n 32) u8) (vote_with false cw) (vote_with true cw) (λ (u : Vote). value_tells u.value) (vote-part cw)

-- what is written tells the same, whether a reader may take it or not

either_spells : {A : Type 0} {tells : A → Bool} (f : Bool → Format A) → IsPart tells (f false) (f true) → (floors : Bool) (x : A)
    → (f floors).spell x ≡ (f true).spell x
either_spells f part true x = refl
either_spells f part false x = part.spells x

pub command_spells : (floors : Bool) (c : Command) → (command_with floors).spell c ≡ command.spell c
unfolding command
command_spells = either_spells command_with command-part

pub value_spells : (floors : Bool) (v : Value) → (value_with floors).spell v ≡ value.spell v
unfolding value
value_spells = either_spells value_with value-part
