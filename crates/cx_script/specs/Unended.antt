-- What counts of bytes after which others may come: their whole lines, and the last line too where it is too long already.
use Rattle.std.specs.Prelude.{ℕ, Bool, ◌==◌, nat_lt, List, [], ◌∷◌, ◌++◌, length, if◌then◌else◌}
use Rattle.cx_base.specs.Prelude.{slice_split, strip_carriage_return}
use Rattle.cx_script.specs.Lines.{lines_of}

-- the last of the parts round the line feeds, and those before it
abbrev pub last_part : List (List ℕ) → List ℕ
last_part [] = []
last_part (part ∷ []) = part
last_part (part ∷ next ∷ parts) = last_part (next ∷ parts)

abbrev pub but_last : List (List ℕ) → List (List ℕ)
but_last [] = []
but_last (part ∷ []) = []
but_last (part ∷ next ∷ parts) = part ∷ but_last (next ∷ parts)

-- lines as text, each with a line feed at its end
abbrev pub lines_text : List (List ℕ) → List ℕ
lines_text [] = []
lines_text (line ∷ lines) = line ++ 10 ∷ lines_text lines

-- the bytes up to the last line feed, and those after it
abbrev pub whole_lines : List ℕ → List ℕ
whole_lines bytes = lines_text (but_last (slice_split (λ b. b == 10) bytes))

abbrev pub unended : List ℕ → List ℕ
unended bytes = last_part (slice_split (λ b. b == 10) bytes)

-- all bytes where the line that isn't ended has more than `most` already, else the whole lines
unfoldable pub settled_text : ℕ → List ℕ → List ℕ
settled_text most bytes = if nat_lt most (length (strip_carriage_return (unended bytes))) then bytes else whole_lines bytes

-- whether the lines of a header that isn't ended have more than 16,384 bytes, each with its line feed
unfoldable pub is_long_header : List ℕ → Bool
is_long_header bytes = nat_lt 16384 (length (lines_text (lines_of bytes)))
