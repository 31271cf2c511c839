-- What whole lines of requests spell stays as other bytes come after them, and how long they can be where none is bad.
use Rattle.cx_base.proofs.Common.{◌≡◌, ◌≤◌, ◌<◌, ◌+◌, ◌++◌, ℕ, Bool, true, false, List, [], ◌∷◌, length, map, refl, nat_lt, if◌then◌else◌}
use Rattle.cx_base.proofs.Common.{Option, Some, None, Result, Ok, Err, strip_carriage_return, cond_both}
use Rattle.cx_base.specs.declared.cluster.Cluster.{Cluster}
use Rattle.cx_base.specs.declared.event.Event.{Event}
use Rattle.cx_script.specs.declared.fault.LineFault.{LineFault}
use Rattle.cx_script.specs.declared.fault.LineFault.TheVariants.{Number, Word}
use Rattle.cx_script.specs.Grammar.{line_event}
use Rattle.cx_script.specs.Lines.{ParsedLines, with_line, spelled_from, lines_of, schedule_of}
use Rattle.cx_script.specs.Requests.{has_slash, request_behind, request_line, requests_from, requests_of, number_rises, with_event}
use Rattle.cx_script.specs.Requests.{without_floor}
use Rattle.cx_script.specs.Unended.{lines_text}
use Rattle.cx_script.proofs.Feeds.{IsFree, AreFree, lines_of_text}
use Rattle.cx_script.proofs.GoesOn.{SpelledOn, last_on, long_line, on_line, on_test, overlong}
use Rattle.cx_script.proofs.Lengths.{schedule_length}

on_requests : (c : Cluster) (n : ℕ) (events : List Event) (ls before behind : List (List ℕ))
    → ((m : ℕ) (es : List Event) → SpelledOn (requests_from c m es before) (requests_from c m es behind))
    → SpelledOn (requests_from c n events (ls ++ before)) (requests_from c n events (ls ++ behind))
on_requests c n events [] before behind on = on n events
on_requests c n events (l ∷ ls) before behind on = on_test (nat_lt 65535 n) n _ _ (on_line n (request_behind events (request_line c l))
    _ _ (on_requests c (n + 1) (with_event events (request_line c l)) ls before behind on))

requests_long : (c : Cluster) (n : ℕ) (events : List Event) (l : List ℕ) (ls : List (List ℕ)) → 1024 < length l
    → requests_from c n events (l ∷ ls) ≡ record { events = []; bad = Some n }
requests_long c n events l ls long =
    let bad : ParsedLines = record { events = []; bad = Some n } in
    cond_both (nat_lt 65535 n) bad (with_line n (request_behind events (request_line c l))
    (requests_from c (n + 1) (with_event events (request_line c l)) ls)) (λ s. s ≡ bad) (λ e. refl) (λ e. rw (long_line c l long) refl)

-- what the lines after a node's header spell goes on
pub requests_on : (c : Cluster) (ls : List (List ℕ)) (last more : List ℕ) → AreFree ls → IsFree last
    → SpelledOn (requests_of c (lines_text ls ++ overlong 1024 last)) (requests_of c (lines_text ls ++ (last ++ more)))
unfolding requests_of
requests_on c ls last more free last_free =
    rw (lines_of_text ls (overlong 1024 last) free, lines_of_text ls (last ++ more) free)
    (on_requests c 1 [] (map strip_carriage_return ls) (lines_of (overlong 1024 last)) (lines_of (last ++ more))
    (λ m es. last_on (requests_from c m es) m refl (requests_long c m es) last more last_free))

-- lines that are good requests are good in a schedule
good_from : (c : Cluster) (n : ℕ) (before : List Event) (ls : List (List ℕ)) → (requests_from c n before ls).bad ≡ None
    → (spelled_from c n ls).bad ≡ None
good_from c n before [] good = refl
good_from c n before (l ∷ ls) good = by_count (nat_lt 65535 n) (line_event c l) (λ es. good_from c (n + 1) es ls) good
  where
    by_rise : (test : Bool) (e : Event) (later schedule : ParsedLines) → (later.bad ≡ None → schedule.bad ≡ None)
        → (with_line n (if test then Ok (Some e) else Err Word) later).bad ≡ None → schedule.bad ≡ None
    by_rise true e later schedule others good = others good
    by_rise false e later schedule others good = cc

    by_slash : (slash : Bool) (e : Event)
        → ((es : List Event) → (requests_from c (n + 1) es ls).bad ≡ None → (spelled_from c (n + 1) ls).bad ≡ None)
        → (with_line n (request_behind before (if slash then Err Number else Ok (Some e))) (requests_from c (n + 1)
        (with_event before (if slash then Err Number else Ok (Some e))) ls)).bad ≡ None → (spelled_from c (n + 1) ls).bad ≡ None
    by_slash true e others good = cc
    by_slash false e others good = by_rise (number_rises before e) e (requests_from c (n + 1) (with_event before (Ok (Some e))) ls)
        (spelled_from c (n + 1) ls) (others (with_event before (Ok (Some e)))) good

    by_line : (r : Result (Option Event) LineFault)
        → ((es : List Event) → (requests_from c (n + 1) es ls).bad ≡ None → (spelled_from c (n + 1) ls).bad ≡ None)
        → (with_line n (request_behind before (without_floor l r)) (requests_from c (n + 1) (with_event before (without_floor l r)) ls)).bad
        ≡ None → (with_line n r (spelled_from c (n + 1) ls)).bad ≡ None
    by_line (Err fault) others good = cc
    by_line (Ok None) others good = others (with_event before (Ok None)) good
    by_line (Ok (Some e)) others good = by_slash (has_slash l) e others good

    by_count : (test : Bool) (r : Result (Option Event) LineFault)
        → ((es : List Event) → (requests_from c (n + 1) es ls).bad ≡ None → (spelled_from c (n + 1) ls).bad ≡ None)
        → (if test then record { events = []; bad = Some n } else with_line n (request_behind before (without_floor l r))
        (requests_from c (n + 1) (with_event before (without_floor l r)) ls)).bad ≡ None
        → (if test then record { events = []; bad = Some n } else with_line n r (spelled_from c (n + 1) ls)).bad ≡ None
    by_count true r others good = cc
    by_count false r others good = by_line r others good

good_requests : (c : Cluster) (bytes : List ℕ) → (requests_of c bytes).bad ≡ None → (schedule_of c bytes).bad ≡ None
unfolding requests_of schedule_of
good_requests c bytes good = good_from c 1 [] (lines_of bytes) good

-- the bytes of good requests and of the line that isn't ended
pub requests_length : (c : Cluster) (ls : List (List ℕ)) (last : List ℕ) → AreFree ls → IsFree last
    → (requests_of c (lines_text ls ++ overlong 1024 last)).bad ≡ None → length (lines_text ls) + length last ≤ 67239935
requests_length c ls last free last_free good =
    schedule_length c ls last free last_free (good_requests c (lines_text ls ++ overlong 1024 last) good)
