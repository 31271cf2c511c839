-- The header of whole lines, as other bytes come after them, and how long it is.
use Rattle.cx_base.proofs.Common.{◌≡◌, ◌==◌, ◌≤◌, ◌<◌, ◌+◌, ◌++◌, ℕ, Bool, true, false, List, [], ◌∷◌, length, map, refl, sym, ap, ◌∙◌}
use Rattle.cx_base.proofs.Common.{append_assoc, arith, nat_lt, nat_le, if◌then◌else◌, Option, Some, None, IfSome, option_map}
use Rattle.cx_base.proofs.Common.{option_and_then, length-append, strip_carriage_return, cond_both, nat_tests, join_with_byte-slice_split}
use Rattle.cx_script.specs.Header.{header_in, header_and_rest, of_length}
use Rattle.cx_script.specs.Lines.{lines_of}
use Rattle.cx_script.specs.Unended.{lines_text, is_long_header}
use Rattle.cx_script.proofs.Cuts.{split_free}
use Rattle.cx_script.proofs.Feeds.{IsFree, AreFree, split_more, lines_of_text, strip_more, long_no_rule}
use Rattle.cx_script.proofs.GoesOn.{header_on, header_in_on, in_front, overlong}
use Rattle.cx_script.proofs.WholeLines.{parts}

-- a header with the bytes after it, where it isn't too long
abbrev pub sized : List ℕ → List ℕ → Option (List ℕ × List ℕ)
sized header rest = if nat_le (length header) 16384 then Some (header, rest) else None

-- it ends in whole lines
pub header_found : (ls : List (List ℕ)) (bytes header : List ℕ) (behind : List (List ℕ)) → AreFree ls → header_in ls ≡ Some (header, behind)
    → header_and_rest (lines_text ls ++ bytes) ≡ sized header (lines_text behind ++ bytes)
unfolding header_and_rest
header_found ls bytes header behind free found =
    ap (option_and_then of_length) (header_in_on ls bytes free ∙ ap (λ (f : Option (List ℕ × List (List ℕ))). header_on f ls bytes) found)
    ∙ ap (sized header) (join_with_byte-slice_split 10 (lines_text behind ++ bytes))

-- it is too long before it ends
too_long : (text : List ℕ) (found : Option (List ℕ × List (List ℕ))) → IfSome found (λ p. 16384 < length text + length p.0)
    → option_and_then of_length (option_map (λ (front, rest). (text ++ front, rest)) found) ≡ None
too_long text None long = refl
too_long text (Some (front, rest)) long =
    let test : nat_le (length (text ++ front)) 16384 ≡ false = grind (arith, nat_tests, length-append text front) in
    rw test refl

pub header_too_long : (ls : List (List ℕ)) (bytes : List ℕ) → AreFree ls → header_in ls ≡ None → IfSome (header_in (parts bytes))
    (λ p. 16384 < length (lines_text (map strip_carriage_return ls)) + length p.0) → header_and_rest (lines_text ls ++ bytes) ≡ None
unfolding header_and_rest
header_too_long ls bytes free none long =
    ap (option_and_then of_length) (header_in_on ls bytes free ∙ ap (λ (f : Option (List ℕ × List (List ℕ))). header_on f ls bytes) none)
    ∙ too_long (lines_text (map strip_carriage_return ls)) (header_in (parts bytes)) long

-- the line that isn't ended ends no header where it is long
no_rule_in : (most : ℕ) (last : List ℕ) → 3 ≤ most → IsFree last → header_in (parts (overlong most last)) ≡ None
no_rule_in most last least free =
    cond_both (nat_lt most (length (strip_carriage_return last))) last [] (λ l. header_in (parts l) ≡ None)
    (λ e.
    let long : most < length (strip_carriage_return last) = grind (arith, nat_tests) in
    rw (split_free (λ b. b == 10) last free, long_no_rule (strip_carriage_return last) (omega (arith, long))) refl)
    (λ e. refl)

none_long : (found : Option (List ℕ × List (List ℕ))) (text : List ℕ) → found ≡ None → IfSome found (λ p. 16384 < length text + length p.0)
none_long None text none = tt
none_long (Some p) text none = cc

-- the header of whole lines and a long line has not ended
pub header_not_ended : (ls : List (List ℕ)) (last : List ℕ) → AreFree ls → IsFree last → header_in ls ≡ None
    → header_and_rest (lines_text ls ++ overlong 1024 last) ≡ None
header_not_ended ls last free last_free none =
    header_too_long ls (overlong 1024 last) free none (none_long (header_in (parts (overlong 1024 last)))
    (lines_text (map strip_carriage_return ls)) (no_rule_in 1024 last (omega arith) last_free))

-- lines and further lines as text
text_append : (xs ys : List (List ℕ)) → lines_text (xs ++ ys) ≡ lines_text xs ++ lines_text ys
text_append [] ys = refl
text_append (x ∷ xs) ys = ap (λ l. x ++ 10 ∷ l) (text_append xs ys) ∙ sym (append_assoc x (10 ∷ lines_text xs) (lines_text ys))

-- how long the lines of a header are that hasn't ended
pub open_length : (ls : List (List ℕ)) (bytes : List ℕ) → AreFree ls → length (lines_text (lines_of (lines_text ls ++ bytes)))
    ≡ length (lines_text (map strip_carriage_return ls)) + length (lines_text (lines_of bytes))
open_length ls bytes free =
    ap (λ l. length (lines_text l)) (lines_of_text ls bytes free) ∙ ap length (text_append (map strip_carriage_return ls) (lines_of bytes))
    ∙ length-append (lines_text (map strip_carriage_return ls)) (lines_text (lines_of bytes))

front_long : (line : List ℕ) (n : ℕ) (found : Option (List ℕ × List (List ℕ))) → n < length line
    → IfSome (option_map (in_front line) found) (λ p. n < length p.0)
front_long line n None long = tt
front_long line n (Some (header, behind)) long = omega (arith, length-append (line ++ 10 ∷ []) header, length-append line (10 ∷ []))

-- a line that is too long for a header, and goes on
last_long : (last more : List ℕ) → IsFree last → 16384 < length (strip_carriage_return last)
    → IfSome (header_in (parts (last ++ more))) (λ p. 16384 < length p.0)
last_long last more free long =
    let begins = split_more last more free in
    let line = strip_carriage_return (last ++ begins.first) in
    let longer : 16384 < length line = omega (arith, long, strip_more last begins.first) in
    rw (begins.is, long_no_rule line (omega (arith, longer))) (front_long line 16384 (header_in begins.rest) longer)

more_text : (found : Option (List ℕ × List (List ℕ))) (n : ℕ) → IfSome found (λ p. 16384 < length p.0)
    → IfSome found (λ p. 16384 < n + length p.0)
more_text None n long = tt
more_text (Some p) n long = omega (arith, long)

text_long : (found : Option (List ℕ × List (List ℕ))) (n : ℕ) → 16384 < n → IfSome found (λ p. 16384 < n + length p.0)
text_long None n long = tt
text_long (Some p) n long = omega (arith, long)

-- a header that is too long ends nowhere after it
pub long_header_stays : (ls : List (List ℕ)) (last more : List ℕ) → AreFree ls → IsFree last → header_in ls ≡ None
    → is_long_header (lines_text ls ++ overlong 16384 last) ≡ true → header_and_rest (lines_text ls ++ (last ++ more)) ≡ None
unfolding is_long_header
long_header_stays ls last more free last_free none long =
    header_too_long ls (last ++ more) free none (by_last (nat_lt 16384 (length (strip_carriage_return last))) refl long)
  where
    by_last : (test : Bool) → nat_lt 16384 (length (strip_carriage_return last)) ≡ test
        → nat_lt 16384 (length (lines_text (lines_of (lines_text ls ++ (if test then last else []))))) ≡ true
        → IfSome (header_in (parts (last ++ more))) (λ p. 16384 < length (lines_text (map strip_carriage_return ls)) + length p.0)
    by_last true e long =
        let last_is : 16384 < length (strip_carriage_return last) = grind (arith, nat_tests) in
        more_text (header_in (parts (last ++ more))) (length (lines_text (map strip_carriage_return ls)))
        (last_long last more last_free last_is)
    by_last false e long =
        let all = open_length ls [] free in
        let whole : 16384 < length (lines_text (map strip_carriage_return ls)) = grind (arith, nat_tests) in
        text_long (header_in (parts (last ++ more))) (length (lines_text (map strip_carriage_return ls))) whole
