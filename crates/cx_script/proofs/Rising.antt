-- The numbers of each client rise among the requests that lines spell.
use Rattle.cx_base.proofs.Common.{◌≡◌, ◌<◌, ◌+◌, ◌==◌, ◌++◌, ℕ, Bool, true, false, nat_lt, max, List, [], ◌∷◌, length, get_or, filter}
use Rattle.cx_base.proofs.Common.{Option, None, Some, Result, Ok, Err, refl, sym, ap, subst, ◌∙◌, inl, inr, arith, append-nil, eqb-true}
use Rattle.cx_base.proofs.Common.{if◌then◌else◌, slice_set, list_all, cases_Bool, and_parts, nat_tests, get_or-set_same, get_or-set_other}
use Rattle.cx_base.proofs.Common.{is_valid_event}
use Rattle.cx_base.specs.declared.cluster.Cluster.{Cluster}
use Rattle.cx_base.specs.declared.event.Event.{Event}
use Rattle.cx_base.specs.declared.event.Event.TheVariants.{Write, Read, Session}
use Rattle.cx_script.specs.declared.fault.LineFault.{LineFault}
use Rattle.cx_script.specs.declared.fault.LineFault.TheVariants.{Word}
use Rattle.cx_script.specs.Lines.{ParsedLines, with_line, lines_of}
use Rattle.cx_script.specs.Names.{names_event}
use Rattle.cx_script.specs.Requests.{IsScript, HasGreatestNumbers, asker, asks, greatest_number, is_above_earlier, is_of_client, number_in}
use Rattle.cx_script.specs.Requests.{number_of, request_behind, request_line, requests_from, requests_of, rise_above, number_rises}
use Rattle.cx_script.specs.Requests.{script_of, tells_no_floor, with_event}
use Rattle.cx_script.proofs.Floors.{request_is_good, request_is_plain}

-- the client of a request
abbrev client_in : Option (ℕ × ℕ) → ℕ
client_in None = 0
client_in (Some (client, seq)) = client

-- a request of a cluster's client
small : (c : Cluster) (e : Event) (client seq : ℕ) → names_event c e ≡ true → asker e ≡ Some (client, seq) → client < 64
small c (Write command batcher) client seq named is =
    let own : command.client ≡ client = ap (λ (o : Option (ℕ × ℕ)). client_in o) is in
    let least : command.client < c.clients = grind (arith, nat_tests) in
    let fit = c.clients_fit in
    omega (arith, own, least, fit)
small c (Read other number floor reader replica key) client seq named is =
    let own : other ≡ client = ap (λ (o : Option (ℕ × ℕ)). client_in o) is in
    let least : other < c.clients = grind (arith, nat_tests) in
    let fit = c.clients_fit in
    omega (arith, own, least, fit)
small c (Session other number floor replica key) client seq named is =
    let own : other ≡ client = ap (λ (o : Option (ℕ × ℕ)). client_in o) is in
    let least : other < c.clients = grind (arith, nat_tests) in
    let fit = c.clients_fit in
    omega (arith, own, least, fit)
small c other client seq named is = cc

pub client_small : (c : Cluster) (line : List ℕ) (e : Event) (client seq : ℕ) → request_line c line ≡ Ok (Some e)
    → asker e ≡ Some (client, seq) → client < 64
client_small c line e client seq spelled is = small c e client seq (request_is_good c line e spelled).named is

-- another client's request leaves a client's greatest number
pub greatest_stays : (client : ℕ) (before : List Event) (e : Event) → asks client e ≡ false
    → greatest_number client (before ++ e ∷ []) ≡ greatest_number client before
greatest_stays client [] e other = rw other refl
greatest_stays client (x ∷ xs) e other = rw (greatest_stays client xs e other) refl

-- its own, with a number above, raises it
pub greatest_rises : (client : ℕ) (before : List Event) (e : Event) → asks client e ≡ true → greatest_number client before < number_of e
    → greatest_number client (before ++ e ∷ []) ≡ number_of e
greatest_rises client [] e own above = rw own (grind arith)
greatest_rises client (x ∷ xs) e own above =
    elim (cases_Bool (asks client x)) [
      | inl yes' ↦
          let room : max (number_of x) (greatest_number client xs) < number_of e = rw yes' at above in
          let rest : greatest_number client xs < number_of e = grind arith in
          rw (yes', greatest_rises client xs e own rest) (grind arith)
      | inr no' ↦
          let rest : greatest_number client xs < number_of e = rw no' at above in
          rw (no', greatest_rises client xs e own rest) refl
    ]

-- a request that rises is taken
pub is_taken : (before : List Event) (numbers : List ℕ) (e : Event) (r : Result (Option Event) LineFault) (client seq : ℕ) → r ≡ Ok (Some e)
    → asker e ≡ Some (client, seq)
    → client < 64 → HasGreatestNumbers before numbers → nat_lt (get_or numbers client 0) seq ≡ true → Ok (Some e) ≡ request_behind before r
is_taken before numbers e r client seq spelled is least tells above =
    let test : nat_lt (greatest_number client before) seq ≡ true = rw (tells client least) at above in
    rw (spelled, is, test) refl

-- and its number is known from then on
pub tells_next : (before : List Event) (numbers : List ℕ) (e : Event) (client seq : ℕ) → asker e ≡ Some (client, seq)
    → client < 64 → client < length numbers → HasGreatestNumbers before numbers → nat_lt (get_or numbers client 0) seq ≡ true
    → HasGreatestNumbers (before ++ e ∷ []) (slice_set numbers client seq)
tells_next before numbers e client seq is least inside tells above = λ other small_too.
    elim (cases_Bool (client == other)) [
      | inl same' ↦
          let one : client ≡ other = eqb-true client other same' in
          let own : asks other e ≡ true = rw is same' in
          let number : number_of e ≡ seq = ap number_in is in
          let test : greatest_number other before < seq = (let t : nat_lt (get_or numbers client 0) seq ≡ true = above in
          let g = tells other small_too in let w = rw one at t in grind (arith, nat_tests)) in
          let raised : greatest_number other (before ++ e ∷ []) ≡ seq = greatest_rises other before e own (rw number test) ∙ number in
          (subst (λ (k : ℕ). get_or (slice_set numbers client seq) k 0 ≡ seq) one (get_or-set_same numbers client seq 0 inside))
          ∙ sym raised
      | inr apart ↦
          let own : asks other e ≡ false = rw is apart in
          rw (greatest_stays other before e own)
          (get_or-set_other numbers client other seq 0 (λ (h : other ≡ client). grind (h, arith, nat_tests)) ∙ tells other small_too)
    ]

-- What holds of no events, and of an event before others where it holds of those, holds of all that lines spell.
on_count : (P : List Event → Type 0) (b : Bool) (n : ℕ) (later : ParsedLines) → P [] → P later.events
    → P (if b then record { events = []; bad = Some n } else later).events
on_count P true n later none rest = none
on_count P false n later none rest = rest

on_test : (P : List Event → Type 0) (n : ℕ) (e : Event) (b : Bool) (later : ParsedLines) → P [] → (b ≡ true → P (e ∷ later.events))
    → P (with_line n (if b then Ok (Some e) else Err Word) later).events
on_test P n e true later none taken = taken refl
on_test P n e false later none taken = none

on_line : (P : List Event → Type 0) (before : List Event) (n : ℕ) (r : Result (Option Event) LineFault) (later : List Event → ParsedLines)
    → P [] → P (later before).events
    → ((e : Event) → r ≡ Ok (Some e) → number_rises before e ≡ true → P (e ∷ (later (before ++ e ∷ [])).events))
    → P (with_line n (request_behind before r) (later (with_event before r))).events
on_line P before n (Err fault) later none blank taken = none
on_line P before n (Ok None) later none blank taken = rw (append-nil before) blank
on_line P before n (Ok (Some e)) later none blank taken =
    on_test P n e (number_rises before e) (later (before ++ e ∷ [])) none (taken e refl)

of_requests : (c : Cluster) (P : List Event → List Event → Type 0) → ((before : List Event) → P before [])
    → ((line : List ℕ) (before : List Event) (e : Event) (later : List Event) → request_line c line ≡ Ok (Some e)
    → number_rises before e ≡ true → P (before ++ e ∷ []) later → P before (e ∷ later))
    → (n : ℕ) (before : List Event) (lines : List (List ℕ)) → P before (requests_from c n before lines).events
of_requests c P none one n before [] = none before
of_requests c P none one n before (line ∷ lines) = on_count (P before) (nat_lt 65535 n) n (with_line n
    (request_behind before (request_line c line)) (requests_from c (n + 1) (with_event before (request_line c line)) lines)) (none before)
    (on_line (P before) before n (request_line c line) (λ events. requests_from c (n + 1) events lines) (none before)
    (of_requests c P none one (n + 1) before lines)
    (λ e spelled above. one line before e _ spelled above (of_requests c P none one (n + 1) (before ++ e ∷ []) lines)))

all_named : (c : Cluster) (n : ℕ) (before : List Event) (lines : List (List ℕ))
    → list_all (names_event c) (requests_from c n before lines).events ≡ true
all_named c = of_requests c (λ before events. list_all (names_event c) events ≡ true) (λ before. refl)
    (λ line before e later spelled above rest. rw ((request_is_good c line e spelled).named, rest) refl)

-- a request that rises, before others that rise, in its client's script
above_own : (client : ℕ) (before : List Event) (o : Option (ℕ × ℕ)) → is_of_client client o ≡ true → is_above_earlier before o ≡ true
    → greatest_number client before < number_in o
above_own client before None own above = cc
above_own client before (Some (other, seq)) own above =
    let same' : other ≡ client = eqb-true other client own in
    let test : nat_lt (greatest_number client before) seq ≡ true =
    subst (λ (k : ℕ). nat_lt (greatest_number k before) seq ≡ true) same' above in
    grind (arith, nat_tests)

rises_on : (client : ℕ) (before : List Event) (e : Event) (later : List Event) → number_rises before e ≡ true
    → rise_above (greatest_number client (before ++ e ∷ [])) (script_of client later) ≡ true
    → rise_above (greatest_number client before) (script_of client (e ∷ later)) ≡ true
rises_on client before e later above rest =
    elim (cases_Bool (asks client e)) [
      | inl own ↦
          let room = above_own client before (asker e) own above in
          let first : nat_lt (greatest_number client before) (number_of e) ≡ true = grind (room, arith, nat_tests) in
          let raised = greatest_rises client before e own room in
          let rest' : rise_above (number_of e) (script_of client later) ≡ true = rw raised at rest in
          rw (own, first, rest') refl
      | inr other ↦ rw other (rw (greatest_stays client before e other) at rest)
    ]

all_rise : (c : Cluster) (client n : ℕ) (before : List Event) (lines : List (List ℕ))
    → rise_above (greatest_number client before) (script_of client (requests_from c n before lines).events) ≡ true
all_rise c client = of_requests c (λ before events. rise_above (greatest_number client before) (script_of client events) ≡ true)
    (λ before. refl) (λ line before e later spelled above rest. rises_on client before e later above rest)

-- a filtered list passes the filter, and what the whole list passes
filtered : (p : Event → Bool) (es : List Event) → list_all p (filter p es) ≡ true
filtered p [] = refl
filtered p (e ∷ es) =
    elim (cases_Bool (p e)) [
      | inl passes ↦ rw (passes, passes, filtered p es) refl
      | inr fails ↦ rw fails (filtered p es)
    ]

still_passes : (p q : Event → Bool) (es : List Event) → list_all q es ≡ true → list_all q (filter p es) ≡ true
still_passes p q [] all = refl
still_passes p q (e ∷ es) all =
    let both = and_parts (q e) (list_all q es) all in
    elim (cases_Bool (p e)) [
      | inl passes ↦ rw (passes, both.0, still_passes p q es both.1) refl
      | inr fails ↦ rw fails (still_passes p q es both.1)
    ]

-- each client's requests are a script
pub requests_are_scripts : (c : Cluster) (bytes : List ℕ) (client : ℕ) → IsScript c client (script_of client (requests_of c bytes).events)
unfolding requests_of
requests_are_scripts c bytes client = record {
  own = filtered (asks client) (requests_from c 1 [] (lines_of bytes)).events;
  named = still_passes (asks client) (names_event c) (requests_from c 1 [] (lines_of bytes)).events (all_named c 1 [] (lines_of bytes));
  rising = all_rise c client 1 [] (lines_of bytes);
}

pub requests_are_named : (c : Cluster) (bytes : List ℕ) → list_all (names_event c) (requests_of c bytes).events ≡ true
unfolding requests_of
requests_are_named c bytes = all_named c 1 [] (lines_of bytes)

-- each request is one that the world takes, and tells no floor of its own
pub requests_are_taken : (c : Cluster) (bytes : List ℕ) → list_all is_valid_event (requests_of c bytes).events ≡ true
unfolding requests_of
requests_are_taken c bytes = of_requests c (λ before events. list_all is_valid_event events ≡ true) (λ before. refl)
    (λ line before e later spelled above rest. rw ((request_is_good c line e spelled).taken, rest) refl) 1 [] (lines_of bytes)

pub requests_are_plain : (c : Cluster) (bytes : List ℕ) → list_all tells_no_floor (requests_of c bytes).events ≡ true
unfolding requests_of
requests_are_plain c bytes = of_requests c (λ before events. list_all tells_no_floor events ≡ true) (λ before. refl)
    (λ line before e later spelled above rest. rw (request_is_plain c line e spelled, rest) refl) 1 [] (lines_of bytes)
