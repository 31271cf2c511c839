-- The text of a header, and the bytes after it.
use Rattle.std.specs.Prelude.{ℕ, Bool, ◌==◌, nat_le, List, [], ◌∷◌, ◌++◌, length, codes, Option, None, Some, option_map, option_and_then}
use Rattle.std.specs.Prelude.{if◌then◌else◌, bytes_eq}
use Rattle.cx_base.specs.Prelude.{slice_split, join_with_byte, strip_carriage_return}

-- the line that ends a header
abbrev pub is_rule : List ℕ → Bool
is_rule line = bytes_eq line (codes "---")

-- the lines up to that one, each with a line feed at its end, and the parts after it
abbrev pub header_in : List (List ℕ) → Option (List ℕ × List (List ℕ))
header_in [] = None
header_in (part ∷ parts) =
    if is_rule (strip_carriage_return part)
    then Some ([], parts)
    else option_map (λ (header, behind). ((strip_carriage_return part ++ 10 ∷ []) ++ header, behind)) (header_in parts)

-- a header of at most 16,384 bytes, and the bytes after it
abbrev pub of_length : List ℕ × List (List ℕ) → Option (List ℕ × List ℕ)
of_length (header, behind) = if nat_le (length header) 16384 then Some (header, join_with_byte 10 behind) else None

-- the header's text and the bytes after it, none where there is no such line or the header is longer
unfoldable pub header_and_rest : List ℕ → Option (List ℕ × List ℕ)
header_and_rest bytes = option_and_then of_length (header_in (slice_split (λ b. b == 10) bytes))
