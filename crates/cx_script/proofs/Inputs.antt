-- The header of an input and what comes after it, in the bytes that count and as other bytes come after them.
use Rattle.cx_base.proofs.Common.{◌≡◌, ◌≤◌, ◌<◌, ◌+◌, ◌++◌, ℕ, Bool, true, false, List, [], length, refl, sym, ap, ◌∙◌, subst, append_assoc}
use Rattle.cx_base.proofs.Common.{append-nil, arith, nat_lt, nat_le, if◌then◌else◌, Option, Some, None, IfSome, length-append}
use Rattle.cx_base.proofs.Common.{strip_carriage_return, nat_tests}
use Rattle.cx_script.specs.Header.{header_in, header_and_rest}
use Rattle.cx_script.specs.Unended.{but_last, last_part, lines_text, unended, whole_lines, settled_text, is_long_header}
use Rattle.cx_script.proofs.Feeds.{IsFree, AreFree, bytes_cut, whole_free, unended_free}
use Rattle.cx_script.proofs.GoesOn.{overlong}
use Rattle.cx_script.proofs.Headers.{header_found, header_not_ended, long_header_stays}
use Rattle.cx_script.proofs.Lengths.{HeaderLength, free_behind, header_length, open_header_length, long_by_header}
use Rattle.cx_script.proofs.WholeLines.{parts}

-- the bytes that count are the whole lines and a line that is too long
counted_is : (most : ℕ) (bytes : List ℕ)
    → settled_text most bytes ≡ lines_text (but_last (parts bytes)) ++ overlong most (last_part (parts bytes))
unfolding settled_text
counted_is most bytes = by_test (nat_lt most (length (strip_carriage_return (unended bytes))))
  where
    by_test : (test : Bool) → (if test then bytes else whole_lines bytes)
        ≡ lines_text (but_last (parts bytes)) ++ (if test then last_part (parts bytes) else [])
    by_test true = bytes_cut bytes
    by_test false = sym (append-nil (whole_lines bytes))

-- a header of an input with the bytes after it, if there is one
abbrev pub Cut : Type 0
Cut = Option (List ℕ × List ℕ)

-- What is to be shown of the header in the bytes that count, whether it is too long, and the header in all bytes: where it is found, the
-- same one with more bytes after it; where it is too long, that there is none; where it hasn't ended, of whatever comes.
pub record OnHeader (P : Cut → Bool → Cut → Type 0) : Type 0 where
  pub found : (long : Bool) (header : List ℕ) (ls : List (List ℕ)) (last more : List ℕ) → AreFree ls → IsFree last
      → P (Some (header, lines_text ls ++ overlong 1024 last)) long (Some (header, lines_text ls ++ (last ++ more)))
  pub long : P None true None
  pub open_yet : (all : Cut) → P None false all

none_of_all : (P : Cut → Bool → Cut → Type 0) → OnHeader P → (long : Bool) → P None long None
none_of_all P on true = on.long
none_of_all P on false = on.open_yet None

found_on : (P : Cut → Bool → Cut → Type 0) → OnHeader P → (short long : Bool) (header : List ℕ) (ls : List (List ℕ)) (last more : List ℕ)
    → AreFree ls → IsFree last
    → P (if short then Some (header, lines_text ls ++ overlong 1024 last) else None) long
    (if short then Some (header, lines_text ls ++ (last ++ more)) else None)
found_on P on true long header ls last more free last_free = on.found long header ls last more free last_free
found_on P on false long header ls last more free last_free = none_of_all P on long

open_on : (P : Cut → Bool → Cut → Type 0) → OnHeader P → (ls : List (List ℕ)) (last more : List ℕ) → AreFree ls → IsFree last
    → header_in ls ≡ None
    → (long : Bool) → is_long_header (lines_text ls ++ overlong 16384 last) ≡ long
    → P None long (header_and_rest (lines_text ls ++ (last ++ more)))
open_on P on ls last more free last_free none true long = rw (long_header_stays ls last more free last_free none long) on.long
open_on P on ls last more free last_free none false long = on.open_yet (header_and_rest (lines_text ls ++ (last ++ more)))

header_on_lines : (P : Cut → Bool → Cut → Type 0) → OnHeader P → (ls : List (List ℕ)) (last more : List ℕ) → AreFree ls → IsFree last
    → (found : Option (List ℕ × List (List ℕ))) → header_in ls ≡ found → P (header_and_rest (lines_text ls ++ overlong 1024 last))
    (is_long_header (lines_text ls ++ overlong 16384 last)) (header_and_rest (lines_text ls ++ (last ++ more)))
header_on_lines P on ls last more free last_free (Some (header, behind)) found =
    let behind_free = subst (λ (f : Option (List ℕ × List (List ℕ))). IfSome f (λ p. AreFree p.1)) found (free_behind ls free) in
    rw (header_found ls (overlong 1024 last) header behind free found, header_found ls (last ++ more) header behind free found) (found_on P
    on (nat_le (length header) 16384) (is_long_header (lines_text ls ++ overlong 16384 last)) header behind last more behind_free last_free)
header_on_lines P on ls last more free last_free None none =
    rw (header_not_ended ls last free last_free none)
    (open_on P on ls last more free last_free none (is_long_header (lines_text ls ++ overlong 16384 last)) refl)

-- the header in the bytes that count, and in all bytes
pub header_goes_on : (P : Cut → Bool → Cut → Type 0) → OnHeader P → (bytes more : List ℕ)
    → P (header_and_rest (settled_text 1024 bytes)) (is_long_header (settled_text 16384 bytes)) (header_and_rest (bytes ++ more))
header_goes_on P on bytes more =
    let ls = but_last (parts bytes) in
    let last = last_part (parts bytes) in
    let all : bytes ++ more ≡ lines_text ls ++ (last ++ more) =
    ap (λ l. l ++ more) (bytes_cut bytes) ∙ append_assoc (lines_text ls) last more in
    rw (counted_is 1024 bytes, counted_is 16384 bytes, all)
    (header_on_lines P on ls last more (whole_free bytes) (unended_free bytes) (header_in ls) refl)

-- Good bytes after a header are few, and a header that is too long is not good.
pub record IsShort (Good : Cut → Bool → Type 0) : Type 0 where
  pub found : (long : Bool) (header : List ℕ) (ls : List (List ℕ)) (last : List ℕ) → AreFree ls → IsFree last
      → Good (Some (header, lines_text ls ++ overlong 1024 last)) long → length (lines_text ls) + length last ≤ 67239935
  pub long : Good None true → ⊥

not_long : (Good : Cut → Bool → Type 0) → IsShort Good → (long : Bool) → Good None long → long ≡ false
not_long Good short true good = absurd (short.long good)
not_long Good short false good = refl

found_length : (Good : Cut → Bool → Type 0) → IsShort Good → (ls : List (List ℕ)) (last header : List ℕ) (rest : List (List ℕ)) → AreFree ls
    → AreFree rest → IsFree last
    → header_in ls ≡ Some (header, rest) → HeaderLength ls (header, rest) → (fits : Bool) → nat_le (length header) 16384 ≡ fits
    → Good (if fits then Some (header, lines_text rest ++ overlong 1024 last) else None)
    (is_long_header (lines_text ls ++ overlong 16384 last)) → length (lines_text ls) + length last ≤ 68000000
found_length Good short ls last header rest free rest_free last_free found lengths true fits good =
    let least : length header ≤ 16384 = grind (arith, nat_tests) in
    omega (
      arith,
      least,
      lengths.whole,
      short.found (is_long_header (lines_text ls ++ overlong 16384 last)) header rest last rest_free last_free good,
    )
found_length Good short ls last header rest free rest_free last_free found lengths false fits good =
    let long : 16384 < length header = grind (arith, nat_tests) in
    let is_long = long_by_header ls (overlong 16384 last) header rest free found long in
    let clash : true ≡ false = sym is_long ∙ not_long Good short (is_long_header (lines_text ls ++ overlong 16384 last)) good in
    cc

lines_length : (Good : Cut → Bool → Type 0) → IsShort Good → (ls : List (List ℕ)) (last : List ℕ) → AreFree ls → IsFree last
    → (found : Option (List ℕ × List (List ℕ))) → header_in ls ≡ found
    → Good (header_and_rest (lines_text ls ++ overlong 1024 last)) (is_long_header (lines_text ls ++ overlong 16384 last))
    → length (lines_text ls) + length last ≤ 68000000
lines_length Good short ls last free last_free (Some (header, rest)) found good =
    let rest_free = subst (λ (f : Option (List ℕ × List (List ℕ))). IfSome f (λ p. AreFree p.1)) found (free_behind ls free) in
    let lengths = subst (λ (f : Option (List ℕ × List (List ℕ))). IfSome f (HeaderLength ls)) found (header_length ls) in
    found_length Good short ls last header rest free rest_free last_free found lengths (nat_le (length header) 16384) refl
    (rw (header_found ls (overlong 1024 last) header rest free found) at good)
lines_length Good short ls last free last_free None none good =
    let fits = not_long Good short (is_long_header (lines_text ls ++ overlong 16384 last))
    (rw (header_not_ended ls last free last_free none) at good) in
    omega (arith, open_header_length ls last free last_free fits)

-- how many bytes are good
pub input_length : (Good : Cut → Bool → Type 0) → IsShort Good → (bytes : List ℕ)
    → Good (header_and_rest (settled_text 1024 bytes)) (is_long_header (settled_text 16384 bytes)) → length bytes ≤ 68000000
input_length Good short bytes good =
    let ls = but_last (parts bytes) in
    let last = last_part (parts bytes) in
    let is : length bytes ≡ length (lines_text ls) + length last = ap length (bytes_cut bytes) ∙ length-append (lines_text ls) last in
    omega (
      arith,
      is,
      lines_length Good short ls last (whole_free bytes) (unended_free bytes) (header_in ls) refl
          (rw (counted_is 1024 bytes, counted_is 16384 bytes) at good),
    )
