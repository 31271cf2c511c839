-- What is said of a finding.
use Rattle.std.specs.Prelude.{ℕ, ◌&&◌, nat_le, List, [], ◌∷◌, ◌++◌, map, codes, decimal, Option, None, Some, if◌then◌else◌}
use Rattle.cx_explain.specs.Finding.{FindingState}
use Rattle.cx_explain.specs.Meant.{meant}
use Rattle.cx_explain.specs.Rules.{rule_text}

-- a byte as it is shown: a question mark where it is none of ASCII's printed characters
abbrev pub shown_byte : ℕ → ℕ
shown_byte b = if nat_le 33 b && nat_le b 126 then b else 63

-- a word as it is shown, and what stands round it
abbrev pub between : List ℕ → List ℕ → List ℕ → List ℕ
between front word back = front ++ map shown_byte word ++ back

abbrev pub word_text : List ℕ → List ℕ
word_text [] = []
word_text (b ∷ bs) = between (codes ": \"") (b ∷ bs) (codes "\"")

abbrev pub hint_text : List ℕ → List ℕ
hint_text word = between (codes "; did you mean \"") word (codes "\"?")

abbrev pub meant_text : Option (List ℕ) → List ℕ
meant_text None = []
meant_text (Some word) = hint_text word

-- FILE:LINE:COLUMN: and a blank
abbrev pub place_text : List ℕ → ℕ → ℕ → List ℕ
place_text name line column = name ++ codes ":" ++ decimal line ++ codes ":" ++ decimal column ++ codes ": "

-- the line of a finding in the file of this name
abbrev pub finding_text : List ℕ → FindingState → List ℕ
finding_text name f =
    place_text name f.line f.column ++ rule_text f.rule ++ word_text f.word ++ meant_text (meant f.rule f.word) ++ codes "\n"
