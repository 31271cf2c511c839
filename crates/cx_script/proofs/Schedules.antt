-- The parts of a schedule round its line feeds, one by one.
use Rattle.cx_base.proofs.Common.{◌≡◌, ◌≤◌, ◌<◌, ◌==◌, ◌++◌, ℕ, List, [], ◌∷◌, Option, None, Some, option_map, option_and_then, unwrap_or}
use Rattle.cx_base.proofs.Common.{length, true, false, nat_le, refl, sym, ap, ◌∙◌, append-nil, arith, nat_tests, join_with_byte-slice_split}
use Rattle.cx_base.proofs.Common.{length-slice_split, slice_split, join_with_byte, strip_carriage_return}
use Rattle.cx_base.specs.declared.event.Event.{Event}
use Rattle.cx_script.specs.Header.{is_rule, header_in, of_length}
use Rattle.cx_script.specs.Lines.{ParsedLines, lines_in, lines_of}
use Rattle.cx_script.specs.Words.{is_empty, parts_of}

-- what is spelled after some events
abbrev pub after : List Event → ParsedLines → ParsedLines
after events later = record { events = events ++ later.events; bad = later.bad }

-- what is left is its parts, joined again
pub joined : (behind : Option (List ℕ)) → join_with_byte 10 (parts_of 10 behind) ≡ unwrap_or behind []
joined None = refl
joined (Some rest) = join_with_byte-slice_split 10 rest

pub before_others : (part : List ℕ) (parts : List (List ℕ)) → 0 < length parts → lines_in (part ∷ parts) ≡ part ∷ lines_in parts
before_others part [] some = absurd (omega arith)
before_others part (next ∷ parts) some = refl

not_empty : (part : List ℕ) → 0 < length part → is_empty part ≡ false
not_empty [] some = absurd (omega arith)
not_empty (b ∷ bs) some = refl

-- the first line, and those after it
pub line_first : (bytes part : List ℕ) (behind : Option (List ℕ)) → 0 < length bytes → slice_split (λ b. b == 10) bytes
    ≡ part ∷ parts_of 10 behind → lines_of bytes ≡ strip_carriage_return part ∷ lines_of (unwrap_or behind [])
line_first bytes part None some parts =
    let whole : part ≡ bytes = ap (join_with_byte 10) (sym parts) ∙ join_with_byte-slice_split 10 bytes in
    let filled : 0 < length part = rw whole some in
    rw (parts, not_empty part filled) refl
line_first bytes part (Some rest) some parts =
    rw (parts, before_others part (slice_split (λ b. b == 10) rest) (omega (arith, length-slice_split (λ b. b == 10) rest))) refl

-- the line that ends a header
pub rule_found : (header part : List ℕ) (behind : Option (List ℕ)) → is_rule (strip_carriage_return part) ≡ true → length header ≤ 16384
    → option_and_then of_length (option_map (λ (front, rest). (header ++ front, rest)) (header_in (part ∷ parts_of 10 behind)))
    ≡ Some (header, unwrap_or behind [])
rule_found header part behind rule room =
    let fits : nat_le (length header) 16384 ≡ true = grind (arith, nat_tests) in
    rw (rule, append-nil header, fits, joined behind) refl
