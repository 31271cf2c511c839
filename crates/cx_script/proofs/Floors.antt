-- Which words and lines tell a floor.
use Rattle.std.proofs.lemmas.List.Folds.{list_all_at}
use Rattle.cx_base.proofs.Common.{◌≡◌, ℕ, ◌<◌, ◌+◌, ◌-◌, Bool, true, false, not, nat_lt, List, [], ◌∷◌, length, codes, filter, get_or, drop}
use Rattle.cx_base.proofs.Common.{Option, None, Some, option_and_then, ok_or, Result, Ok, Err, IfOk, IfSome, refl, sym, subst, ◌==◌, ◌&&◌}
use Rattle.cx_base.proofs.Common.{inl, inr, arith, eqb-true, if◌then◌else◌, ⊤, is_ascii_digit, list_all, list_any, onto_first, position}
use Rattle.cx_base.proofs.Common.{slice_split, option_map_or, bytes_eq, cases_Bool, or_parts, or_from, nat_tests, position-Some}
use Rattle.cx_base.proofs.Common.{length-slice_split, floor_fits}
use Rattle.cx_base.specs.declared.cluster.Cluster.{Cluster}
use Rattle.cx_base.specs.declared.event.Event.{Event}
use Rattle.cx_base.specs.declared.event.Event.TheVariants as event
use Rattle.cx_base.specs.declared.event.Event.TheVariants.{Write, Read, Session}
use Rattle.cx_base.specs.declared.event.Order.TheVariants.{Collect}
use Rattle.cx_base.specs.declared.event.Cut.TheVariants.{Whole}
use Rattle.cx_base.specs.declared.role.Kind.TheVariants.{Client, Batcher, Leader, Replica, Reader, Replacer}
use Rattle.cx_script.specs.declared.fault.LineFault.{LineFault}
use Rattle.cx_script.specs.declared.fault.LineFault.TheVariants.{Long, Number}
use Rattle.cx_script.specs.Grammar.{◌>>=◌, next_word, op_at, cut_at, write_event, read_event, session_event, deliver_event, grid_order_of}
use Rattle.cx_script.specs.Grammar.{collect_event, snap_event, replace_event, offer_event, server_of, event_of, is_comment, event_in}
use Rattle.cx_script.specs.Grammar.{line_event}
use Rattle.cx_script.specs.Places.{fitting, seq_and_floor, seq_word, number_word, key_word, index_word, renewing_word, set_word}
use Rattle.cx_script.specs.Places.{other_word, slot_word}
use Rattle.cx_script.specs.Requests.{has_slash, request_line, tells_no_floor, without_floor}
use Rattle.cx_script.specs.Words.{is_blank, is_empty, word_number, parts_of, words_of}
use Rattle.cx_script.proofs.Cuts.{split_free, split_none, split_some}
use Rattle.cx_script.proofs.Parts.{and_then_some, anything, either_ok, ended_ok, some_ok, then_ok, whatever}
use Rattle.cx_script.proofs.Takes.{IsGood, spelled_is_good}

-- A word with a slash is no number.
no_number : (some small : Bool) (n : ℕ) → (if some && false && small then Some n else None) ≡ None
no_number true small n = refl
no_number false small n = refl

slashed : (word : List ℕ) (i : ℕ) → position (λ b. b == 47) word ≡ Some i → word_number word ≡ None
slashed word i found =
    let is = position-Some (λ b. b == 47) word i 0 found in
    let slash : get_or word i 0 ≡ 47 = eqb-true (get_or word i 0) 47 is.1 in
    let letter : is_ascii_digit (get_or word i 0) ≡ false = rw slash refl in
    let digits : list_all is_ascii_digit word ≡ false = list_all_at is_ascii_digit word i 0 is.0 letter in
    rw digits (no_number (not (is_empty word)) _ _)

-- so what a word says is read off its part before the first slash, and what comes after that
of_three : (seq floor : List ℕ) (parts : List (List ℕ)) → 0 < length parts → seq_and_floor (seq ∷ floor ∷ parts) ≡ None
of_three seq floor [] some = absurd (omega arith)
of_three seq floor (part ∷ parts) some = refl

no_floor : (o : Option ℕ) → option_and_then (λ n. option_and_then (fitting n) None) o ≡ None
no_floor None = refl
no_floor (Some n) = refl

pub read_at_slash : (seq : List ℕ) (behind : Option (List ℕ)) → seq_and_floor (seq ∷ parts_of 47 behind)
    ≡ option_and_then (λ n. option_and_then (fitting n) (option_map_or word_number behind (Some (n - 1)))) (word_number seq)
read_at_slash seq None = refl
read_at_slash seq (Some rest) = by_place (position (λ b. b == 47) rest) refl
  where
    by_place : (o : Option ℕ) → position (λ b. b == 47) rest ≡ o → seq_and_floor (seq ∷ slice_split (λ b. b == 47) rest)
        ≡ option_and_then (λ n. option_and_then (fitting n) (word_number rest)) (word_number seq)
    by_place None none = rw (split_none (λ b. b == 47) rest none) refl
    by_place (Some i) found =
        let more : 0 < length (slice_split (λ b. b == 47) (drop (i + 1) rest)) =
        omega (arith, length-slice_split (λ b. b == 47) (drop (i + 1) rest)) in
        rw (split_some (λ b. b == 47) rest i found, of_three seq _ _ more, slashed rest i found, no_floor (word_number seq)) refl

-- the words of a line without a slash have none
onto_plain : (b : ℕ) (parts : List (List ℕ)) → (b == 47) ≡ false → list_any has_slash parts ≡ false
    → list_any has_slash (onto_first b parts) ≡ false
onto_plain b [] other free = rw other refl
onto_plain b (part ∷ parts) other free = rw other free

parts_plain : (line : List ℕ) → has_slash line ≡ false → list_any has_slash (slice_split is_blank line) ≡ false
parts_plain [] free = refl
parts_plain (b ∷ line) free =
    let tests = or_parts (b == 47) (has_slash line) free in
    let rest = parts_plain line tests.1 in
    elim (cases_Bool (is_blank b)) [
      | inl blank ↦ rw blank rest
      | inr letter ↦ rw letter (onto_plain b (slice_split is_blank line) tests.0 rest)
    ]

among : (p q : List ℕ → Bool) (words : List (List ℕ)) → list_any p words ≡ false → list_any p (filter q words) ≡ false
among p q [] none = refl
among p q (word ∷ words) none =
    let tests = or_parts (p word) (list_any p words) none in
    elim (cases_Bool (q word)) [
      | inl selected ↦ rw selected (or_from (p word) _ tests.0 (among p q words tests.1))
      | inr lost ↦ rw lost (among p q words tests.1)
    ]

words_plain : (line : List ℕ) → has_slash line ≡ false → list_any has_slash (words_of line) ≡ false
words_plain line free = among has_slash (λ word. not (is_empty word)) (slice_split is_blank line) (parts_plain line free)

-- what the next of such words says, and the words after it
next_plain : {A : Type 0} (P : A → Type 0) (place : List ℕ → Result A LineFault)
    → ((word : List ℕ) → has_slash word ≡ false → IfOk (place word) P)
    → (words : List (List ℕ)) → list_any has_slash words ≡ false
    → IfOk (next_word place words) (λ part. P part.0 × (list_any has_slash part.1 ≡ false))
next_plain P place each [] free = tt
next_plain P place each (word ∷ words) free =
    let tests = or_parts (has_slash word) (list_any has_slash words) free in
    then_ok P _ (place word) (λ said. Ok (said, words)) (each word tests.0) (λ a h. (h, tests.1))

-- a number alone tells the number before it
abbrev IsPlain : ℕ × ℕ → Type 0
IsPlain numbers = (numbers.1 + 1 == numbers.0) ≡ true

fitting_plain : (n : ℕ) (b : Bool) → floor_fits n (n - 1) ≡ b → IfSome (if b then Some (n, n - 1) else None) IsPlain
fitting_plain n true fits = grind (arith, nat_tests)
fitting_plain n false none = tt

seq_plain : (word : List ℕ) → has_slash word ≡ false → IfOk (seq_word word) IsPlain
seq_plain word free =
    subst (λ (parts : List (List ℕ)). IfOk (ok_or (seq_and_floor parts) Number) IsPlain) (sym (split_free (λ b. b == 47) word free))
    (some_ok IsPlain (seq_and_floor (word ∷ [])) Number (and_then_some (λ n. ⊤) IsPlain (word_number word) (λ n. fitting n (n - 1))
    (anything (word_number word)) (λ n h. fitting_plain n (floor_fits n (n - 1)) refl)))

-- the event of such words tells no floor of its own
abbrev TellsNone : Event → Type 0
TellsNone e = tells_no_floor e ≡ true

write_plain : (c : Cluster) (words : List (List ℕ)) → list_any has_slash words ≡ false → IfOk (write_event c words) TellsNone
unfolding write_event
write_plain c words free = then_ok _ TellsNone (next_word (index_word c Client) words)
    _ (next_plain (λ i. ⊤) (index_word c Client) (λ word h. whatever (index_word c Client word)) words free) (λ (client, words) h.
    then_ok _ TellsNone (next_word seq_word words) _ (next_plain IsPlain seq_word seq_plain words h.1) (λ (numbers, words) k.
    then_ok _ TellsNone (next_word (index_word c Batcher) words) _ (whatever (next_word (index_word c Batcher) words))
    (λ (batcher, words) l. then_ok _ TellsNone (op_at words) _ (whatever (op_at words)) (λ (op, words) m.
    ended_ok TellsNone (Write (record { client = client; seq = numbers.0; floor = numbers.1; op = op }) batcher) words k.0))))

read_plain : (c : Cluster) (words : List (List ℕ)) → list_any has_slash words ≡ false → IfOk (read_event c words) TellsNone
unfolding read_event
read_plain c words free = then_ok _ TellsNone (next_word (index_word c Client) words)
    _ (next_plain (λ i. ⊤) (index_word c Client) (λ word h. whatever (index_word c Client word)) words free) (λ (client, words) h.
    then_ok _ TellsNone (next_word seq_word words) _ (next_plain IsPlain seq_word seq_plain words h.1) (λ (numbers, words) k.
    then_ok _ TellsNone (next_word (index_word c Reader) words) _ (whatever (next_word (index_word c Reader) words)) (λ (reader, words) l.
    then_ok _ TellsNone (next_word (index_word c Replica) words) _ (whatever (next_word (index_word c Replica) words))
    (λ (replica, words) m. then_ok _ TellsNone (next_word key_word words) _ (whatever (next_word key_word words)) (λ (key, words) n.
    ended_ok TellsNone (Read client numbers.0 numbers.1 reader replica key) words k.0)))))

session_plain : (c : Cluster) (words : List (List ℕ)) → list_any has_slash words ≡ false → IfOk (session_event c words) TellsNone
unfolding session_event
session_plain c words free = then_ok _ TellsNone (next_word (index_word c Client) words)
    _ (next_plain (λ i. ⊤) (index_word c Client) (λ word h. whatever (index_word c Client word)) words free) (λ (client, words) h.
    then_ok _ TellsNone (next_word seq_word words) _ (next_plain IsPlain seq_word seq_plain words h.1) (λ (numbers, words) k.
    then_ok _ TellsNone (next_word (index_word c Replica) words) _ (whatever (next_word (index_word c Replica) words))
    (λ (replica, words) l. then_ok _ TellsNone (next_word key_word words) _ (whatever (next_word key_word words)) (λ (key, words) m.
    ended_ok TellsNone (Session client numbers.0 numbers.1 replica key) words k.0))))

deliver_plain : (words : List (List ℕ)) → IfOk (deliver_event words) TellsNone
unfolding deliver_event
deliver_plain words =
    then_ok _ TellsNone (next_word number_word words) _ (whatever (next_word number_word words)) (λ (number, words) h.
    then_ok _ TellsNone (cut_at words) _ (whatever (cut_at words)) (λ cut k. refl))

collect_plain : (c : Cluster) (words : List (List ℕ)) → IfOk (collect_event c words) TellsNone
unfolding collect_event
collect_plain c words =
    then_ok _ TellsNone (next_word (index_word c Leader) words) _ (whatever (next_word (index_word c Leader) words)) (λ (leader, words) h.
    ended_ok TellsNone (event.Order leader Collect Whole) words refl)

snap_plain : (c : Cluster) (words : List (List ℕ)) → IfOk (snap_event c words) TellsNone
unfolding snap_event
snap_plain c words = then_ok _ TellsNone (next_word (renewing_word c) words) _ (whatever (next_word (renewing_word c) words))
    (λ (replica, words) h. then_ok _ TellsNone (cut_at words) _ (whatever (cut_at words)) (λ cut k. refl))

replace_plain : (c : Cluster) (words : List (List ℕ)) → IfOk (replace_event c words) TellsNone
unfolding replace_event
replace_plain c words = then_ok _ TellsNone (next_word (index_word c Replacer) words) _ (whatever (next_word (index_word c Replacer) words))
    (λ (replacer, words) h.
    then_ok _ TellsNone (next_word (set_word c) words) _ (whatever (next_word (set_word c) words)) (λ (set, words) k.
    then_ok _ TellsNone (cut_at words) _ (whatever (cut_at words)) (λ cut l. refl)))

offer_plain : (c : Cluster) (words : List (List ℕ)) → IfOk (offer_event c words) TellsNone
unfolding offer_event
offer_plain c words = then_ok _ TellsNone (next_word (index_word c Replica) words) _ (whatever (next_word (index_word c Replica) words))
    (λ (replica, words) h.
    then_ok _ TellsNone (next_word (other_word c Replica replica) words) _ (whatever (next_word (other_word c Replica replica) words))
    (λ (to, words) k. then_ok _ TellsNone (next_word slot_word words) _ (whatever (next_word slot_word words)) (λ (slot, words) l.
    ended_ok TellsNone (event.Offer replica to slot) words refl)))

event_plain : (c : Cluster) (verb : List ℕ) (words : List (List ℕ)) → list_any has_slash words ≡ false
    → IfOk (event_of c verb words) TellsNone
unfolding event_of
event_plain c verb words free =
    let server = whatever (server_of c words) in
    let round = whatever (grid_order_of c words) in
    let or_else : (b : Bool) (r s : Result Event LineFault) → IfOk r TellsNone → IfOk s TellsNone → IfOk (if b then r else s) TellsNone =
    λ b r s. either_ok TellsNone b r s in
    or_else (bytes_eq verb (codes "write")) _ _ (write_plain c words free) (
    or_else (bytes_eq verb (codes "read")) _ _ (read_plain c words free) (
    or_else (bytes_eq verb (codes "session")) _ _ (session_plain c words free) (
    or_else (bytes_eq verb (codes "deliver")) _ _ (deliver_plain words) (
    or_else (bytes_eq verb (codes "tick")) _ _ (then_ok _ TellsNone (server_of c words) _ server (λ role h. refl)) (
    or_else (bytes_eq verb (codes "lead")) _ _ (then_ok _ TellsNone (grid_order_of c words) _ round (λ (leader, grid, cut) h. refl)) (
    or_else (bytes_eq verb (codes "change")) _ _ (then_ok _ TellsNone (grid_order_of c words) _ round (λ (leader, grid, cut) h. refl)) (
    or_else (bytes_eq verb (codes "collect")) _ _ (collect_plain c words) (
    or_else (bytes_eq verb (codes "snap")) _ _ (snap_plain c words) (
    or_else (bytes_eq verb (codes "replace")) _ _ (replace_plain c words) (
    or_else (bytes_eq verb (codes "offer")) _ _ (offer_plain c words) (
    or_else (bytes_eq verb (codes "crash")) _ _ (then_ok _ TellsNone (server_of c words) _ server (λ role h. refl)) (
    or_else (bytes_eq verb (codes "restart")) _ _ (then_ok _ TellsNone (server_of c words) _ server (λ role h. refl)) tt))))))))))))

in_plain : (c : Cluster) (words : List (List ℕ)) → list_any has_slash words ≡ false → IfOk (event_in c words) (λ o. IfSome o TellsNone)
in_plain c [] free = tt
in_plain c (verb ∷ words) free =
    either_ok (λ o. IfSome o TellsNone) (is_comment verb) (Ok None) (event_of c verb words >>= (λ event. Ok (Some event))) tt
    (then_ok TellsNone (λ o. IfSome o TellsNone) (event_of c verb words) (λ event. Ok (Some event))
    (event_plain c verb words (or_parts (has_slash verb) (list_any has_slash words) free).1) (λ event h. h))

line_plain : (c : Cluster) (line : List ℕ) → has_slash line ≡ false → IfOk (line_event c line) (λ o. IfSome o TellsNone)
unfolding line_event
line_plain c line free = either_ok (λ o. IfSome o TellsNone) (nat_lt 1024 (length line)) (Err Long) (event_in c (words_of line)) tt
    (in_plain c (words_of line) (words_plain line free))

-- a request of a node's file is one of a schedule, on a line without a slash
taken_line : (line : List ℕ) (r : Result (Option Event) LineFault) (e : Event) → without_floor line r ≡ Ok (Some e)
    → (r ≡ Ok (Some e)) × (has_slash line ≡ false)
taken_line line (Err fault) e is = cc
taken_line line (Ok None) e is = cc
taken_line line (Ok (Some x)) e is =
    elim (cases_Bool (has_slash line)) [
      | inl slash ↦ absurd (cc (rw slash at is))
      | inr free ↦ (rw free at is, free)
    ]

pub request_is_good : (c : Cluster) (line : List ℕ) (e : Event) → request_line c line ≡ Ok (Some e) → IsGood c e
request_is_good c line e is = spelled_is_good c line e (taken_line line (line_event c line) e is).0

pub request_is_plain : (c : Cluster) (line : List ℕ) (e : Event) → request_line c line ≡ Ok (Some e) → tells_no_floor e ≡ true
request_is_plain c line e is =
    let from = taken_line line (line_event c line) e is in
    subst (λ (r : Result (Option Event) LineFault). IfOk r (λ o. IfSome o TellsNone)) from.0 (line_plain c line from.1)
