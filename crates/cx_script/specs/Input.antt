-- What the bytes of an input say, by what a header's text and the bytes after it say.
use Rattle.std.specs.Prelude.{ℕ, List, Option, None, Some, if◌then◌else◌}
use Rattle.cx_script.specs.Header.{header_and_rest}
use Rattle.cx_script.specs.Unended.{settled_text, is_long_header}

-- what a header and the bytes after it say, where there is a header
abbrev pub of_header : {Said : Type 0} → (List ℕ → List ℕ → Said) → Option (List ℕ × List ℕ) → Said → Said
of_header says None without = without
of_header says (Some parts) without = says parts.0 parts.1

-- what a whole input says, which is bad where it has no header
unfoldable pub whole_input : {Said : Type 0} → (List ℕ → List ℕ → Said) → Said → List ℕ → Said
whole_input says bad bytes = of_header says (header_and_rest bytes) bad

-- What bytes say after which others may come: their whole lines, and a line that is too long already. Of a header that hasn't
-- ended they say nothing, and it is bad only where it is too long.
unfoldable pub begun_input : {Said : Type 0} → (List ℕ → List ℕ → Said) → Said → Said → List ℕ → Said
begun_input says bad nothing bytes =
    of_header says (header_and_rest (settled_text 1024 bytes)) (if is_long_header (settled_text 16384 bytes) then bad else nothing)
