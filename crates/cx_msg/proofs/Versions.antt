-- A message that tells no floor is read where none may be told, and its bytes are the same.
use Rattle.std.proofs.Common.{sym, ◌∙◌}
use Rattle.cx_letter.specs.Prelude.{◌≡◌, ℕ, Bool, true, false, not, ◌&&◌, List, refl, list_any, Round, Value, Format, only, then_by, ◌▷◌}
use Rattle.cx_letter.specs.Prelude.{slot, mark, round, grid, command_with, value_with, votes_with, in_window, Vote, tells_floors, body_with}
use Rattle.cx_letter.specs.Prelude.{body_shape}
use Rattle.cx_base.specs.Grid.{Shape as GridShape}
use Rattle.cx_wire.specs.Format.{TaggedBytes}
use Rattle.cx_wire.proofs.Laws.{both}
use Rattle.cx_wire.proofs.Parts.{IsPart, IsShapePart, then_by-part, ▷-part, shape-part}
use Rattle.cx_field.proofs.Floors.{command-part, commands-part, value-part, votes-part}
use Rattle.cx_field.specs.Fields.{commands_with, tells_floor, value_tells}
use Rattle.cx_letter.specs.Messages.{phase1b, phase2a, propose, slot_value}
use Rattle.cx_letter.specs.declared.message.Msg.{Msg}
use Rattle.cx_letter.specs.declared.message.Msg.TheVariants.{Chosen, Phase2A, Submit, Batch, Phase1B, Propose}

watched-part : IsPart (λ (x : ℕ × (ℕ × Value)). value_tells x.1.1) (then_by slot (λ s. only (λ cw. in_window cw s) mark ▷ value_with false))
    (then_by slot (λ s. only (λ cw. in_window cw s) mark ▷ value_with true))
watched-part = then_by-part slot (λ s. only (λ cw. in_window cw s) mark ▷ value_with false)
    (λ s. only (λ cw. in_window cw s) mark ▷ value_with true) (λ (x : ℕ × Value). value_tells x.1)
    (λ s. ▷-part (only (λ cw. in_window cw s) mark) (value_with false) (value_with true) value_tells value-part)

phase2a-part : IsPart (λ (x : Round × (ℕ × (ℕ × Value))). value_tells x.1.1.1) (phase2a false) (phase2a true)
unfolding phase2a
phase2a-part = ▷-part round (then_by slot (λ s. only (λ cw. in_window cw s) mark ▷ value_with false))
    (then_by slot (λ s. only (λ cw. in_window cw s) mark ▷ value_with true)) (λ (x : ℕ × (ℕ × Value)). value_tells x.1.1) watched-part

propose-part : IsPart (λ (x : Round × (GridShape × (ℕ × (ℕ × Value)))). value_tells x.1.1.1.1) (propose false) (propose true)
unfolding propose
propose-part =
    let rest : Bool → Format (ℕ × (ℕ × Value)) = λ floors. then_by slot (λ s. only (λ cw. in_window cw s) mark ▷ value_with floors) in
    ▷-part round (grid ▷ rest false) (grid ▷ rest true) (λ (x : GridShape × (ℕ × (ℕ × Value))). value_tells x.1.1.1)
    (▷-part grid (rest false) (rest true) (λ (x : ℕ × (ℕ × Value)). value_tells x.1.1) watched-part)

slot_value-part : IsPart (λ (x : ℕ × Value). value_tells x.1) (slot_value false) (slot_value true)
unfolding slot_value
slot_value-part = ▷-part slot (value_with false) (value_with true) value_tells value-part

phase1b-part : IsPart (λ (x : Round × (ℕ × List Vote)). list_any (λ (v : Vote). value_tells v.value) x.1.1) (phase1b false) (phase1b true)
unfolding phase1b
phase1b-part = ▷-part round (then_by mark (votes_with false)) (then_by mark (votes_with true))
    (λ (x : ℕ × List Vote). list_any (λ (v : Vote). value_tells v.value) x.1)
    (then_by-part mark (votes_with false) (votes_with true) (list_any (λ (v : Vote). value_tells v.value)) (λ cw. votes-part cw))

and_yes : (a : Bool) → a ≡ (a && true)
and_yes true = refl
and_yes false = refl

plain : (s : TaggedBytes) → IsShapePart false s s
plain s = record { tag = refl; fits = and_yes s.fits; bytes = refl }

pub body-part : (m : Msg) → IsShapePart (tells_floors m) (body_with false m) (body_with true m)
body-part (Submit c) = shape-part 1 (command_with false) (command_with true) tells_floor command-part c
body-part (Batch cs) = shape-part 2 (commands_with false) (commands_with true) (list_any tells_floor) commands-part cs
body-part (Phase1B r cw vs) = shape-part 8 (phase1b false) (phase1b true)
    (λ (x : Round × (ℕ × List Vote)). list_any (λ (v : Vote). value_tells v.value) x.1.1) phase1b-part (r, (cw, vs))
body-part (Propose r g s cw v) = shape-part 10 (propose false) (propose true)
    (λ (x : Round × (GridShape × (ℕ × (ℕ × Value)))). value_tells x.1.1.1.1) propose-part (r, (g, (s, (cw, v))))
body-part (Phase2A r s cw v) =
    shape-part 11 (phase2a false) (phase2a true) (λ (x : Round × (ℕ × (ℕ × Value))). value_tells x.1.1.1) phase2a-part (r, (s, (cw, v)))
body-part (Chosen a b) = shape-part 13 (slot_value false) (slot_value true) (λ (x : ℕ × Value). value_tells x.1) slot_value-part (a, b)
body-part other = plain (body_with true other)

pub version_tag : (floors : Bool) (m : Msg) → (body_with floors m).tag ≡ (body_shape m).tag
version_tag true m = refl
version_tag false m = (body-part m).tag

pub version_bytes : (floors : Bool) (m : Msg) → (body_with floors m).bytes ≡ (body_shape m).bytes
version_bytes true m = refl
version_bytes false m = (body-part m).bytes

pub version_fits : (floors : Bool) (m : Msg) → (body_with floors m).fits ≡ true → (body_shape m).fits ≡ true
version_fits true m h = h
version_fits false m h = (both (body_shape m).fits (not (tells_floors m)) (sym (body-part m).fits ∙ h)).0

-- a message that fits has a version in which it is read
pub own_version : (floors : Bool) (m : Msg) → tells_floors m ≡ floors → (body_shape m).fits ≡ true → (body_with floors m).fits ≡ true
own_version true m t h = h
own_version false m t h = (body-part m).fits ∙ rw (h, t) refl
