-- How long lines can be of which none is bad.
use Rattle.cx_base.proofs.Common.{◌≡◌, ◌≤◌, ◌<◌, ◌+◌, ◌*◌, ◌++◌, ℕ, Bool, true, false, List, [], ◌∷◌, length, map, refl, sym, ap, ◌∙◌}
use Rattle.cx_base.proofs.Common.{subst, arith, nat_lt, if◌then◌else◌, Option, Some, None, IfSome, option_map, length-append, Result, Ok}
use Rattle.cx_base.proofs.Common.{Err, strip_carriage_return, cond_both, nat_tests}
use Rattle.cx_base.specs.declared.cluster.Cluster.{Cluster}
use Rattle.cx_base.specs.declared.event.Event.{Event}
use Rattle.cx_script.specs.declared.fault.LineFault.{LineFault}
use Rattle.cx_script.specs.Grammar.{line_event}
use Rattle.cx_script.specs.Header.{is_rule, header_in}
use Rattle.cx_script.specs.Lines.{ParsedLines, with_line, spelled_from, lines_of, schedule_of}
use Rattle.cx_script.specs.Unended.{lines_text, is_long_header}
use Rattle.cx_script.proofs.Feeds.{IsFree, AreFree, lines_of_text, lines_of_unended, strip_long, rule_length}
use Rattle.cx_script.proofs.GoesOn.{in_front, overlong, some_byte, spelled_long}
use Rattle.cx_script.proofs.Headers.{open_length}

-- what comes after a header has no line feed in its parts either
pub free_behind : (ls : List (List ℕ)) → AreFree ls → IfSome (header_in ls) (λ p. AreFree p.1)
free_behind [] free = tt
free_behind (l ∷ ls) free = by_rule (is_rule (strip_carriage_return l)) (header_in ls) (free_behind ls free.1)
  where
    by_rule : (rule : Bool) (found : Option (List ℕ × List (List ℕ))) → IfSome found (λ p. AreFree p.1)
        → IfSome (if rule then Some ([], ls) else option_map (in_front (strip_carriage_return l)) found) (λ p. AreFree p.1)
    by_rule true found behind = free.1
    by_rule false None behind = tt
    by_rule false (Some (header, rest)) behind = behind

-- the bytes of whole lines by those of a header and what comes after it, and the header by its lines
pub record HeaderLength (ls : List (List ℕ)) (p : List ℕ × List (List ℕ)) : Type 0 where
  pub whole : length (lines_text ls) ≤ 2 * length p.0 + 5 + length (lines_text p.1)
  pub header : length p.0 ≤ length (lines_text (map strip_carriage_return ls))

line_length : (line : List ℕ) (bytes : List ℕ) → length (line ++ 10 ∷ bytes) ≡ length line + 1 + length bytes
line_length line bytes = omega (arith, length-append line (10 ∷ bytes))

pub header_length : (ls : List (List ℕ)) → IfSome (header_in ls) (HeaderLength ls)
header_length [] = tt
header_length (l ∷ ls) = cond_both (is_rule (strip_carriage_return l)) (Some ([], ls))
    (option_map (in_front (strip_carriage_return l)) (header_in ls)) (λ found. IfSome found (HeaderLength (l ∷ ls))) (λ e. record {
      whole = omega (arith, rule_length (strip_carriage_return l) e, strip_long l, line_length l (lines_text ls));
      header = omega arith;
    })
    (λ e. later (header_in ls) (header_length ls))
  where
    later : (found : Option (List ℕ × List (List ℕ))) → IfSome found (HeaderLength ls)
        → IfSome (option_map (in_front (strip_carriage_return l)) found) (HeaderLength (l ∷ ls))
    later None h = tt
    later (Some (header, behind)) h =
        let front : length ((strip_carriage_return l ++ 10 ∷ []) ++ header) ≡ length (strip_carriage_return l) + 1 + length header =
        omega (arith, length-append (strip_carriage_return l ++ 10 ∷ []) header, length-append (strip_carriage_return l) (10 ∷ [])) in
        record {
          whole = omega (arith, front, h.whole, strip_long l, line_length l (lines_text ls));
          header = omega (arith, front, h.header, line_length (strip_carriage_return l) (lines_text (map strip_carriage_return ls)));
        }

-- a carriage return a line at most
pub text_length : (ls : List (List ℕ)) → length (lines_text ls) ≤ 2 * length (lines_text (map strip_carriage_return ls))
text_length [] = omega arith
text_length (l ∷ ls) = omega (
  arith,
  text_length ls,
  strip_long l,
  line_length l (lines_text ls),
  line_length (strip_carriage_return l) (lines_text (map strip_carriage_return ls)),
)

-- good lines are short and few
record Short (c : Cluster) (n : ℕ) (ls before : List (List ℕ)) : Type 0 where
  bytes : length (lines_text ls) + 1026 * n ≤ 67239936
  at : ℕ
  good : (spelled_from c at before).bad ≡ None

good_later : (n : ℕ) (r : Result (Option Event) LineFault) (later : ParsedLines) → (with_line n r later).bad ≡ None → later.bad ≡ None
good_later n (Err fault) later good = cc
good_later n (Ok event) later good = good

short_lines : (c : Cluster) (n : ℕ) (ls before : List (List ℕ)) → n ≤ 65536
    → (spelled_from c n (map strip_carriage_return ls ++ before)).bad ≡ None → Short c n ls before
short_lines c n [] before few good = record { bytes = omega arith; at = n; good = good }
short_lines c n (l ∷ ls) before few good = by_count (nat_lt 65535 n) refl good (short_lines c (n + 1) ls before)
  where
    by_length : (test : Bool) → nat_lt 1024 (length (strip_carriage_return l)) ≡ test → length (strip_carriage_return l) ≤ 1024
    by_length true e =
        let long : 1024 < length (strip_carriage_return l) = grind (arith, nat_tests) in
        let bad =
        ap (λ (s : ParsedLines). s.bad) (spelled_long c n (strip_carriage_return l) (map strip_carriage_return ls ++ before) long) in
        let clash : Some n ≡ None = sym bad ∙ good in
        cc
    by_length false e = grind (arith, nat_tests)

    by_count : (test : Bool) → nat_lt 65535 n ≡ test → (if test then record { events = []; bad = Some n } else with_line n
        (line_event c (strip_carriage_return l)) (spelled_from c (n + 1) (map strip_carriage_return ls ++ before))).bad ≡ None
        → (n + 1 ≤ 65536 → (spelled_from c (n + 1) (map strip_carriage_return ls ++ before)).bad ≡ None → Short c (n + 1) ls before)
        → Short c n (l ∷ ls) before
    by_count true e bad others = cc
    by_count false e rest others =
        let less : n ≤ 65535 = grind (arith, nat_tests) in
        let short = by_length (nat_lt 1024 (length (strip_carriage_return l))) refl in
        let later = others (omega (arith, less)) (good_later n (line_event c (strip_carriage_return l)) _ rest) in
        record {
          bytes = omega (arith, later.bytes, short, strip_long l, line_length l (lines_text ls));
          at = later.at;
          good = later.good;
        }

short_last : (c : Cluster) (n : ℕ) (last : List ℕ) → IsFree last → (spelled_from c n (lines_of (overlong 1024 last))).bad ≡ None
    → length last ≤ 1025
short_last c n last free good = by_length (nat_lt 1024 (length (strip_carriage_return last))) refl good
  where
    by_length : (test : Bool) → nat_lt 1024 (length (strip_carriage_return last)) ≡ test
        → (spelled_from c n (lines_of (if test then last else []))).bad ≡ None → length last ≤ 1025
    by_length true e good =
        let long : 1024 < length (strip_carriage_return last) = grind (arith, nat_tests) in
        let some = some_byte last (omega (arith, long)) in
        let bad = ap (λ ls. (spelled_from c n ls).bad) (lines_of_unended last free some)
        ∙ ap (λ (s : ParsedLines). s.bad) (spelled_long c n (strip_carriage_return last) [] long) in
        let clash : Some n ≡ None = sym bad ∙ good in
        cc
    by_length false e good =
        let short : length (strip_carriage_return last) ≤ 1024 = grind (arith, nat_tests) in
        omega (arith, short, strip_long last)

-- the bytes of good lines and of the line that isn't ended
pub schedule_length : (c : Cluster) (ls : List (List ℕ)) (last : List ℕ) → AreFree ls → IsFree last
    → (schedule_of c (lines_text ls ++ overlong 1024 last)).bad ≡ None → length (lines_text ls) + length last ≤ 67239935
unfolding schedule_of
schedule_length c ls last free last_free good =
    let lines = rw (lines_of_text ls (overlong 1024 last) free) at good in
    let short = short_lines c 1 ls (lines_of (overlong 1024 last)) (omega arith) lines in
    omega (arith, short.bytes, short_last c short.at last last_free short.good)

-- the bytes of a header that hasn't ended and isn't too long
pub open_header_length : (ls : List (List ℕ)) (last : List ℕ) → AreFree ls → IsFree last
    → is_long_header (lines_text ls ++ overlong 16384 last) ≡ false → length (lines_text ls) + length last ≤ 49153
unfolding is_long_header
open_header_length ls last free last_free short = by_length (nat_lt 16384 (length (strip_carriage_return last))) refl short
  where
    by_length : (test : Bool) → nat_lt 16384 (length (strip_carriage_return last)) ≡ test
        → nat_lt 16384 (length (lines_text (lines_of (lines_text ls ++ (if test then last else []))))) ≡ false
        → length (lines_text ls) + length last ≤ 49153
    by_length true e short =
        let long : 16384 < length (strip_carriage_return last) = grind (arith, nat_tests) in
        let some = some_byte last (omega (arith, long)) in
        let all = open_length ls last free in
        let line = ap (λ l. length (lines_text l)) (lines_of_unended last last_free some) ∙ line_length (strip_carriage_return last) [] in
        let most : length (lines_text (lines_of (lines_text ls ++ last))) ≤ 16384 = grind (arith, nat_tests) in
        absurd (omega (arith, long, all, line, most))
    by_length false e short =
        let last_short : length (strip_carriage_return last) ≤ 16384 = grind (arith, nat_tests) in
        let all = open_length ls [] free in
        let most : length (lines_text (lines_of (lines_text ls ++ []))) ≤ 16384 = grind (arith, nat_tests) in
        omega (arith, last_short, strip_long last, text_length ls, all, most)

-- a header that is too long is so by its lines
pub long_by_header : (ls : List (List ℕ)) (last header : List ℕ) (behind : List (List ℕ)) → AreFree ls
    → header_in ls ≡ Some (header, behind) → 16384 < length header → is_long_header (lines_text ls ++ last) ≡ true
unfolding is_long_header
long_by_header ls last header behind free found long =
    let lengths = subst (λ (f : Option (List ℕ × List (List ℕ))). IfSome f (HeaderLength ls)) found (header_length ls) in
    let all = open_length ls last free in
    let more : 16384 < length (lines_text (lines_of (lines_text ls ++ last))) = omega (arith, lengths.header, all, long) in
    grind (arith, nat_tests)
