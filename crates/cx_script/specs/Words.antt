-- The words of a line, and the numbers among them.
use Rattle.std.specs.Prelude.{ℕ, ◌^◌, Bool, true, false, ◌==◌, ◌&&◌, ◌||◌, not, nat_lt, List, [], ◌∷◌, filter, Option, Some, None}
use Rattle.std.specs.Prelude.{if◌then◌else◌}
use Rattle.std.specs.Str.Parse.{digits_value}
use Rattle.cx_base.specs.Prelude.{is_ascii_digit, list_all, slice_split}

-- a space or a tab
abbrev pub is_blank : ℕ → Bool
is_blank b = (b == 32) || (b == 9)

abbrev pub is_empty : List ℕ → Bool
is_empty [] = true
is_empty (b ∷ bs) = false

-- the words of a line: what is between its blanks
abbrev pub words_of : List ℕ → List (List ℕ)
words_of line = filter (λ word. not (is_empty word)) (slice_split is_blank line)

-- a word of decimal digits whose number has 64 bits at most
abbrev pub is_number : List ℕ → Bool
is_number word = not (is_empty word) && list_all is_ascii_digit word && nat_lt (digits_value 10 word) (2 ^ 64)

-- the number that a word spells
abbrev pub word_number : List ℕ → Option ℕ
word_number word = if is_number word then Some (digits_value 10 word) else None

-- the parts round a byte of what is left, if anything is
abbrev pub parts_of : ℕ → Option (List ℕ) → List (List ℕ)
parts_of at None = []
parts_of at (Some rest) = slice_split (λ b. b == at) rest
