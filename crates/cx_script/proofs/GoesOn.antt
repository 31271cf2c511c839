-- What whole lines spell stays as other bytes come after them.
use Rattle.cx_base.proofs.Common.{◌≡◌, ◌<◌, ◌+◌, ◌++◌, ℕ, Bool, true, false, List, [], ◌∷◌, length, map, refl, sym, ap, ◌∙◌, subst}
use Rattle.cx_base.proofs.Common.{append_assoc, append-nil, arith, nat_lt, if◌then◌else◌, Option, Some, None, option_map, option_to_list}
use Rattle.cx_base.proofs.Common.{Result, Ok, Err, strip_carriage_return, cond_both, nat_tests}
use Rattle.cx_base.specs.declared.cluster.Cluster.{Cluster}
use Rattle.cx_base.specs.declared.event.Event.{Event}
use Rattle.cx_script.specs.declared.fault.LineFault.{LineFault}
use Rattle.cx_script.specs.declared.fault.LineFault.TheVariants.{Long}
use Rattle.cx_script.specs.Grammar.{line_event}
use Rattle.cx_script.specs.Header.{is_rule, header_in}
use Rattle.cx_script.specs.Lines.{ParsedLines, with_line, spelled_from, lines_of, schedule_of}
use Rattle.cx_script.specs.Unended.{lines_text}
use Rattle.cx_script.proofs.Feeds.{IsFree, AreFree, split_feed, lines_of_text, lines_of_unended, first_line_of}
use Rattle.cx_script.proofs.WholeLines.{parts}

-- what is spelled goes on: a bad line stays the first one, with the events before it, else others may come
pub record SpelledOn (s all : ParsedLines) : Type 0 where
  pub bad : (line : ℕ) → s.bad ≡ Some line → all ≡ s
  pub more : List Event
  pub events : all.events ≡ s.events ++ more

pub stays : (s : ParsedLines) → SpelledOn s s
stays s = record { bad = λ line e. refl; more = []; events = sym (append-nil s.events) }

pub on_test : (test : Bool) (n : ℕ) (s all : ParsedLines) → SpelledOn s all
    → SpelledOn (if test then record { events = []; bad = Some n } else s) (if test then record { events = []; bad = Some n } else all)
on_test true n s all on = stays (record { events = []; bad = Some n })
on_test false n s all on = on

pub on_line : (n : ℕ) (r : Result (Option Event) LineFault) (s all : ParsedLines) → SpelledOn s all
    → SpelledOn (with_line n r s) (with_line n r all)
on_line n (Err fault) s all on = stays (record { events = []; bad = Some n })
on_line n (Ok event) s all on = record {
  bad = λ line e. ap (with_line n (Ok event)) (on.bad line e);
  more = on.more;
  events = ap (λ l. option_to_list event ++ l) on.events ∙ sym (append_assoc (option_to_list event) s.events on.more);
}

on_lines : (c : Cluster) (n : ℕ) (ls before behind : List (List ℕ))
    → ((m : ℕ) → SpelledOn (spelled_from c m before) (spelled_from c m behind))
    → SpelledOn (spelled_from c n (ls ++ before)) (spelled_from c n (ls ++ behind))
on_lines c n [] before behind on = on n
on_lines c n (l ∷ ls) before behind on =
    on_test (nat_lt 65535 n) n _ _ (on_line n (line_event c l) _ _ (on_lines c (n + 1) ls before behind on))

-- a long line is bad, whatever follows
pub long_line : (c : Cluster) (l : List ℕ) → 1024 < length l → line_event c l ≡ Err Long
unfolding line_event
long_line c l long =
    let test : nat_lt 1024 (length l) ≡ true = grind (arith, nat_tests) in
    rw test refl

pub spelled_long : (c : Cluster) (n : ℕ) (l : List ℕ) (ls : List (List ℕ)) → 1024 < length l
    → spelled_from c n (l ∷ ls) ≡ record { events = []; bad = Some n }
spelled_long c n l ls long =
    let bad : ParsedLines = record { events = []; bad = Some n } in
    cond_both (nat_lt 65535 n) bad (with_line n (line_event c l) (spelled_from c (n + 1) ls)) (λ s. s ≡ bad) (λ e. refl)
    (λ e. rw (long_line c l long) refl)

-- the bytes of a line that isn't ended where it is longer than `most`
abbrev pub overlong : ℕ → List ℕ → List ℕ
overlong most last = if nat_lt most (length (strip_carriage_return last)) then last else []

pub some_byte : (last : List ℕ) → 0 < length (strip_carriage_return last) → 0 < length last
some_byte [] some = absurd (omega arith)
some_byte (b ∷ last) some = omega arith

-- a line that isn't ended counts where it is too long, and then it is bad, whatever follows
pub last_on : (spell : List (List ℕ) → ParsedLines) (n : ℕ) → spell [] ≡ record { events = []; bad = None }
    → ((l : List ℕ) (ls : List (List ℕ)) → 1024 < length l → spell (l ∷ ls) ≡ record { events = []; bad = Some n })
    → (last more : List ℕ) → IsFree last → SpelledOn (spell (lines_of (overlong 1024 last))) (spell (lines_of (last ++ more)))
last_on spell n empty long_is_bad last more free = cond_both (nat_lt 1024 (length (strip_carriage_return last))) last []
    (λ l. SpelledOn (spell (lines_of l)) (spell (lines_of (last ++ more)))) (λ e.
    let long : 1024 < length (strip_carriage_return last) = grind (arith, nat_tests) in
    let some = some_byte last (omega (arith, long)) in
    let first = first_line_of last more free some in
    let begun : spell (lines_of last) ≡ record { events = []; bad = Some n } =
    ap spell (lines_of_unended last free some) ∙ long_is_bad (strip_carriage_return last) [] long in
    let all : spell (lines_of (last ++ more)) ≡ record { events = []; bad = Some n } =
    rw first.is (long_is_bad first.line first.lines (omega (arith, long, first.longer))) in
    rw (begun, all) (stays (record { events = []; bad = Some n })))
    (λ e. subst (λ s. SpelledOn s (spell (lines_of (last ++ more)))) (sym empty)
    (record { bad = λ line h. cc; more = (spell (lines_of (last ++ more))).events; events = refl }))

-- what the lines after a header spell goes on
pub schedule_on : (c : Cluster) (ls : List (List ℕ)) (last more : List ℕ) → AreFree ls → IsFree last
    → SpelledOn (schedule_of c (lines_text ls ++ overlong 1024 last)) (schedule_of c (lines_text ls ++ (last ++ more)))
unfolding schedule_of
schedule_on c ls last more free last_free =
    rw (lines_of_text ls (overlong 1024 last) free, lines_of_text ls (last ++ more) free)
    (on_lines c 1 (map strip_carriage_return ls) (lines_of (overlong 1024 last)) (lines_of (last ++ more))
    (λ m. last_on (spelled_from c m) m refl (spelled_long c m) last more last_free))

-- the header in whole lines, and what comes after it as other bytes come after
abbrev pub header_on : Option (List ℕ × List (List ℕ)) → List (List ℕ) → List ℕ → Option (List ℕ × List (List ℕ))
header_on (Some (header, behind)) ls bytes = Some (header, parts (lines_text behind ++ bytes))
header_on None ls bytes = option_map (λ (front, rest). (lines_text (map strip_carriage_return ls) ++ front, rest)) (header_in (parts bytes))

abbrev pub in_front : List ℕ → List ℕ × List (List ℕ) → List ℕ × List (List ℕ)
in_front line (header, behind) = ((line ++ 10 ∷ []) ++ header, behind)

in_front_on : (l : List ℕ) (ls : List (List ℕ)) (bytes : List ℕ) (found : Option (List ℕ × List (List ℕ)))
    → option_map (in_front (strip_carriage_return l)) (header_on found ls bytes)
    ≡ header_on (option_map (in_front (strip_carriage_return l)) found) (l ∷ ls) bytes
in_front_on l ls bytes (Some (header, behind)) = refl
in_front_on l ls bytes None = later (header_in (parts bytes))
  where
    later : (found : Option (List ℕ × List (List ℕ))) → option_map (in_front (strip_carriage_return l))
        (option_map (λ (front, rest). (lines_text (map strip_carriage_return ls) ++ front, rest)) found)
        ≡ option_map (λ (front, rest). (lines_text (map strip_carriage_return (l ∷ ls)) ++ front, rest)) found
    later None = refl
    later (Some (front, rest)) =
        let line = strip_carriage_return l in
        let text = lines_text (map strip_carriage_return ls) in
        ap (λ (h : List ℕ). Some (h, rest)) (append_assoc line (10 ∷ []) (text ++ front) ∙ sym (append_assoc line (10 ∷ text) front))

pub header_in_on : (ls : List (List ℕ)) (bytes : List ℕ) → AreFree ls
    → header_in (parts (lines_text ls ++ bytes)) ≡ header_on (header_in ls) ls bytes
header_in_on [] bytes free = none_on (header_in (parts bytes))
  where
    none_on : (found : Option (List ℕ × List (List ℕ))) → found ≡ option_map (λ (front, rest). ([] ++ front, rest)) found
    none_on None = refl
    none_on (Some (front, rest)) = refl
header_in_on (l ∷ ls) bytes free =
    let split : parts (lines_text (l ∷ ls) ++ bytes) ≡ l ∷ parts (lines_text ls ++ bytes) =
    ap parts (append_assoc l (10 ∷ lines_text ls) bytes) ∙ split_feed l (lines_text ls ++ bytes) free.0 in
    let later =
    ap (option_map (in_front (strip_carriage_return l))) (header_in_on ls bytes free.1) ∙ in_front_on l ls bytes (header_in ls) in
    ap header_in split ∙ by_rule (is_rule (strip_carriage_return l)) later
  where
    by_rule : (rule : Bool) → option_map (in_front (strip_carriage_return l)) (header_in (parts (lines_text ls ++ bytes)))
        ≡ header_on (option_map (in_front (strip_carriage_return l)) (header_in ls)) (l ∷ ls) bytes
        → (if rule then Some ([], parts (lines_text ls ++ bytes))
        else option_map (in_front (strip_carriage_return l)) (header_in (parts (lines_text ls ++ bytes))))
        ≡ header_on (if rule then Some ([], ls) else option_map (in_front (strip_carriage_return l)) (header_in ls)) (l ∷ ls) bytes
    by_rule true later = refl
    by_rule false later = later
