-- What lines spell can be recorded.
use Rattle.std.proofs.lemmas.List.Elements.{All-filter}
use Rattle.cx_base.proofs.Common.{option_and_then, ok_or, subst, sym, arith, true≢false, ⊤, and_parts, or_parts, nat_tests, first_twice}
use Rattle.cx_base.proofs.Common.{is_name_byte}
use Rattle.cx_letter.specs.Prelude.{◌≡◌, ◌<◌, ◌≤◌, ◌+◌, ◌-◌, ◌*◌, ◌^◌, ◌==◌, ◌&&◌, ◌||◌, not, nat_lt, nat_le, ℕ, zero, suc, Bool, true}
use Rattle.cx_letter.specs.Prelude.{false, List, [], ◌∷◌, length, codes, Option, None, Some, option_map, Result, Ok, Err, IfOk, IfSome}
use Rattle.cx_letter.specs.Prelude.{is_none, refl, if◌then◌else◌, All, list_all, slice_split, slice_index_or, bytes_eq, Cluster, Put, Del}
use Rattle.cx_letter.specs.Prelude.{App, Whole, Event, Collect, Client, Batcher, Leader, Replica, Reader, Replacer, IsGrid, grid_fault}
use Rattle.cx_letter.specs.Prelude.{make_grid, IsName}
use Rattle.cx_base.specs.declared.event.Event.TheVariants as event
use Rattle.cx_base.specs.declared.grid_fault.GridFault.{GridFault}
use Rattle.cx_base.specs.declared.grid_fault.GridFault.TheVariants.{Empty, Size, Count, Twice}
use Rattle.cx_base.specs.Name.{is_name, as_name}
use Rattle.cx_base.proofs.Members.{new_where_none}
use Rattle.cx_script.specs.declared.fault.LineFault.{LineFault}
use Rattle.cx_script.specs.declared.fault.LineFault.TheVariants.{Grid, Key, Long, Number, Word}
use Rattle.cx_script.specs.Grammar.{◌>>=◌, collect_event, cut_at, deliver_event, event_in, event_of, grid_at, is_comment, line_event}
use Rattle.cx_script.specs.Grammar.{next_word, op_at, key_text_at, read_event, replace_event, grid_order_of, server_of, session_event}
use Rattle.cx_script.specs.Grammar.{offer_event, snap_event, write_event}
use Rattle.cx_script.specs.Lines.{ParsedLines, lines_of, with_line}
use Rattle.cx_script.specs.Places.{fitting, grid_from_ids, ids_of, index_word, key_word, members_word, number_word, seq_and_floor, seq_word}
use Rattle.cx_script.specs.Places.{other_word, renewing_word, set_word, sides_word, slot_word, text_word}
use Rattle.cx_script.specs.Requests.{asks, has_slash, request_behind, request_line, requests_from, requests_of, number_rises, script_of}
use Rattle.cx_script.specs.Requests.{with_event, without_floor}
use Rattle.cx_script.specs.Words.{is_number, word_number, words_of}
use Rattle.cx_script.proofs.Parts.{and_then_some, anything, either_ok, ended_ok, next_ok, some_ok, then_ok, whatever}
use Rattle.cx_script.proofs.Takes.{IsGood, spelled_is_good}
use Rattle.cx_record.specs.Readable.{HasNames, HasRanges, IsRecordable, tells_all}

-- ---- words

where_true : {A : Type 0} (P : A → Type 0) (b : Bool) (a : A) → (b ≡ true → P a) → IfSome (if b then Some a else None) P
where_true P true a h = h refl
where_true P false a h = tt

abbrev IsNumber : ℕ → Type 0
IsNumber n = n < 2 ^ 64

number_some : (word : List ℕ) → IfSome (word_number word) IsNumber
number_some word =
    where_true IsNumber (is_number word) _ (λ is. small _ (and_parts _ _ is).1)
  where
    small : (n : ℕ) → nat_lt n (2 ^ 64) ≡ true → n < 2 ^ 64
    small n less = grind (arith, nat_tests)

number_ok : (word : List ℕ) → IfOk (number_word word) IsNumber
number_ok word = some_ok IsNumber (word_number word) Number (number_some word)

abbrev HasNumber : ℕ × ℕ → Type 0
HasNumber numbers = numbers.0 < 2 ^ 64

fitting_some : (seq floor : ℕ) → IsNumber seq → IfSome (fitting seq floor) HasNumber
fitting_some seq floor small = where_true HasNumber _ (seq, floor) (λ is. small)

told_some : (parts : List (List ℕ)) → IfSome (seq_and_floor parts) HasNumber
told_some [] = tt
told_some (seq ∷ []) =
    and_then_some IsNumber HasNumber (word_number seq) (λ n. fitting n (n - 1)) (number_some seq) (λ n h. fitting_some n (n - 1) h)
told_some (seq ∷ floor ∷ []) =
    and_then_some IsNumber HasNumber (word_number seq) (λ n. option_and_then (fitting n) (word_number floor)) (number_some seq) (λ n h.
    and_then_some (λ m. ⊤) HasNumber (word_number floor) (fitting n) (anything (word_number floor)) (λ m k. fitting_some n m h))
told_some (seq ∷ floor ∷ part ∷ parts) = tt

seq_ok : (word : List ℕ) → IfOk (seq_word word) HasNumber
seq_ok word = some_ok HasNumber (seq_and_floor (slice_split (λ b. b == 47) word)) Number (told_some (slice_split (λ b. b == 47) word))

name_is : (limit : ℕ) (bs : List ℕ) → is_name limit bs ≡ true → IsName limit bs
name_is limit bs is =
    let p = and_parts (nat_le 1 (length bs) && nat_le (length bs) limit) (list_all is_name_byte bs) is in
    let q = and_parts (nat_le 1 (length bs)) (nat_le (length bs) limit) p.0 in
    record { some = least 1 (length bs) q.0; room = least (length bs) limit q.1; each = p.1 }
  where
    least : (m n : ℕ) → nat_le m n ≡ true → m ≤ n
    least m n l = grind (arith, nat_tests)

name_ok : (limit : ℕ) (word : List ℕ) → IfOk (ok_or (as_name limit word) Key) (IsName limit)
name_ok limit word =
    some_ok (IsName limit) (as_name limit word) Key (where_true (IsName limit) (is_name limit word) word (name_is limit word))

-- ---- operations

abbrev IsPair : List ℕ × List ℕ → Type 0
IsPair pair = IsName 32 pair.0 × IsName 64 pair.1

pair_ok : (words : List (List ℕ)) → IfOk (key_text_at words) (λ part. IsPair part.0)
pair_ok words =
    then_ok _ (λ part. IsPair part.0) (next_word key_word words) _ (next_ok (IsName 32) key_word (name_ok 32) words) (λ (key, words) h.
    then_ok _ (λ part. IsPair part.0) (next_word text_word words) _ (next_ok (IsName 64) text_word (name_ok 64) words)
    (λ (text, words) k. (h, k)))

op_ok : (words : List (List ℕ)) → IfOk (op_at words) (λ part. HasNames part.0)
op_ok [] = tt
op_ok (verb ∷ words) =
    let put = then_ok (λ part. IsPair part.0) (λ part. HasNames part.0) (key_text_at words) (λ (pair, words). Ok (Put pair.0 pair.1, words))
    (pair_ok words) (λ (pair, words) h. h) in
    let del = then_ok (λ part. IsName 32 part.0) (λ part. HasNames part.0) (next_word key_word words) (λ (key, words). Ok (Del key, words))
    (next_ok (IsName 32) key_word (name_ok 32) words) (λ (key, words) h. h) in
    let app = then_ok (λ part. IsPair part.0) (λ part. HasNames part.0) (key_text_at words) (λ (pair, words). Ok (App pair.0 pair.1, words))
    (pair_ok words) (λ (pair, words) h. h) in
    either_ok (λ part. HasNames part.0) (bytes_eq verb (codes "put")) _ _ put (
    either_ok (λ part. HasNames part.0) (bytes_eq verb (codes "del")) _ _ del (
    either_ok (λ part. HasNames part.0) (bytes_eq verb (codes "app")) _ (Err Word) app tt))

-- ---- grids

-- where the first fault of several isn't there, the others aren't either
no_fault : (b : Bool) (fault : GridFault) (others : Option GridFault) → is_none (if b then Some fault else others) ≡ true
    → (b ≡ false) × (is_none others ≡ true)
no_fault true fault others none = absurd (true≢false (sym none))
no_fault false fault others none = (refl, none)

is_faultless : (rows cols : ℕ) (ids : List ℕ) → is_none (grid_fault rows cols ids) ≡ true → IsGrid (make_grid rows cols ids)
is_faultless rows cols ids none =
    let empty = no_fault (rows == 0 || cols == 0) Empty _ none in
    let size = no_fault (nat_lt 16 (rows * cols)) Size _ empty.1 in
    let count = no_fault (not (length ids == rows * cols)) Count _ size.1 in
    let sides = or_parts (rows == 0) (cols == 0) empty.0 in
    record {
      some_row = some rows sides.0;
      some_col = some cols sides.1;
      room = fits (rows * cols) size.0;
      count = same (length ids) (rows * cols) count.0;
      once = new_where_none [] ids (twice (first_twice [] ids) count.1);
    }
  where
    some : (n : ℕ) → (n == 0) ≡ false → 1 ≤ n
    some n e = grind (arith, nat_tests)

    fits : (n : ℕ) → nat_lt 16 n ≡ false → n ≤ 16
    fits n e = grind (arith, nat_tests)

    same : (m n : ℕ) → not (m == n) ≡ false → m ≡ n
    same m n e = grind (arith, nat_tests)

    twice : (o : Option ℕ) → is_none (option_map (λ id. Twice id) o) ≡ true → o ≡ None
    twice None e = refl
    twice (Some id) e = absurd (true≢false (sym e))

members_ok : (c : Cluster) (rows cols : ℕ) (word : List ℕ) → IfOk (members_word c rows cols word) IsGrid
members_ok c rows cols word =
    let ids : Option (List ℕ) = ids_of c.acceptors (slice_split (λ b. b == 44) word) in
    some_ok IsGrid (option_and_then (grid_from_ids rows cols) ids) Grid (and_then_some (λ ids. ⊤) IsGrid ids (grid_from_ids rows cols)
    (anything ids) (λ ids h. where_true IsGrid (is_none (grid_fault rows cols ids)) (make_grid rows cols ids) (is_faultless rows cols ids)))

grid_ok : (c : Cluster) (words : List (List ℕ)) → IfOk (grid_at c words) (λ part. IsGrid part.0)
grid_ok c words = then_ok (λ sides. ⊤) (λ part. IsGrid part.0) (next_word sides_word words)
    (λ (sides, words). next_word (members_word c sides.0 sides.1) words) (whatever (next_word sides_word words))
    (λ (sides, words) h. next_ok IsGrid (members_word c sides.0 sides.1) (members_ok c sides.0 sides.1) words)

-- ---- events: what their types keep, and that their lines tell all of them

pub record IsRanged (e : Event) : Type 0 where
  pub ranges : HasRanges e
  pub complete : tells_all e ≡ true

write_ok : (c : Cluster) (words : List (List ℕ)) → IfOk (write_event c words) IsRanged
unfolding write_event
write_ok c words =
    then_ok _ IsRanged (next_word (index_word c Client) words) _ (whatever (next_word (index_word c Client) words)) (λ (client, words) h.
    then_ok _ IsRanged (next_word seq_word words) _ (next_ok HasNumber seq_word seq_ok words) (λ (numbers, words) k.
    then_ok _ IsRanged (next_word (index_word c Batcher) words) _ (whatever (next_word (index_word c Batcher) words)) (λ (batcher, words) l.
    then_ok _ IsRanged (op_at words) _ (op_ok words) (λ (op, words) m.
    ended_ok IsRanged (event.Write (record { client = client; seq = numbers.0; floor = numbers.1; op = op }) batcher) words
    (record { ranges = (k, m); complete = refl })))))

read_ok : (c : Cluster) (words : List (List ℕ)) → IfOk (read_event c words) IsRanged
unfolding read_event
read_ok c words =
    then_ok _ IsRanged (next_word (index_word c Client) words) _ (whatever (next_word (index_word c Client) words)) (λ (client, words) h.
    then_ok _ IsRanged (next_word seq_word words) _ (next_ok HasNumber seq_word seq_ok words) (λ (numbers, words) k.
    then_ok _ IsRanged (next_word (index_word c Reader) words) _ (whatever (next_word (index_word c Reader) words)) (λ (reader, words) l.
    then_ok _ IsRanged (next_word (index_word c Replica) words) _ (whatever (next_word (index_word c Replica) words)) (λ (replica, words) m.
    then_ok _ IsRanged (next_word key_word words) _ (next_ok (IsName 32) key_word (name_ok 32) words) (λ (key, words) n.
    ended_ok IsRanged (event.Read client numbers.0 numbers.1 reader replica key) words (record { ranges = (k, n); complete = refl }))))))

session_ok : (c : Cluster) (words : List (List ℕ)) → IfOk (session_event c words) IsRanged
unfolding session_event
session_ok c words =
    then_ok _ IsRanged (next_word (index_word c Client) words) _ (whatever (next_word (index_word c Client) words)) (λ (client, words) h.
    then_ok _ IsRanged (next_word seq_word words) _ (next_ok HasNumber seq_word seq_ok words) (λ (numbers, words) k.
    then_ok _ IsRanged (next_word (index_word c Replica) words) _ (whatever (next_word (index_word c Replica) words)) (λ (replica, words) l.
    then_ok _ IsRanged (next_word key_word words) _ (next_ok (IsName 32) key_word (name_ok 32) words) (λ (key, words) m.
    ended_ok IsRanged (event.Session client numbers.0 numbers.1 replica key) words (record { ranges = (k, m); complete = refl })))))

deliver_ok : (words : List (List ℕ)) → IfOk (deliver_event words) IsRanged
unfolding deliver_event
deliver_ok words =
    then_ok _ IsRanged (next_word number_word words) _ (next_ok IsNumber number_word number_ok words) (λ (number, words) h.
    then_ok _ IsRanged (cut_at words) _ (whatever (cut_at words)) (λ cut k. record { ranges = h; complete = refl }))

round_ok : (c : Cluster) (words : List (List ℕ)) → IfOk (grid_order_of c words) (λ (leader, grid, cut). IsGrid grid)
unfolding grid_order_of
round_ok c words = then_ok _ (λ (leader, grid, cut). IsGrid grid) (next_word (index_word c Leader) words)
    _ (whatever (next_word (index_word c Leader) words)) (λ (leader, words) h.
    then_ok _ (λ (leader, grid, cut). IsGrid grid) (grid_at c words) _ (grid_ok c words) (λ (grid, words) k.
    then_ok _ (λ (leader, grid, cut). IsGrid grid) (cut_at words) _ (whatever (cut_at words)) (λ cut l. k)))

collect_ok : (c : Cluster) (words : List (List ℕ)) → IfOk (collect_event c words) IsRanged
unfolding collect_event
collect_ok c words =
    then_ok _ IsRanged (next_word (index_word c Leader) words) _ (whatever (next_word (index_word c Leader) words)) (λ (leader, words) h.
    ended_ok IsRanged (event.Order leader Collect Whole) words (record { ranges = tt; complete = refl }))

snap_ok : (c : Cluster) (words : List (List ℕ)) → IfOk (snap_event c words) IsRanged
unfolding snap_event
snap_ok c words =
    then_ok _ IsRanged (next_word (renewing_word c) words) _ (whatever (next_word (renewing_word c) words)) (λ (role, words) h.
    then_ok _ IsRanged (cut_at words) _ (whatever (cut_at words)) (λ cut k. record { ranges = tt; complete = refl }))

replace_ok : (c : Cluster) (words : List (List ℕ)) → IfOk (replace_event c words) IsRanged
unfolding replace_event
replace_ok c words = then_ok _ IsRanged (next_word (index_word c Replacer) words) _ (whatever (next_word (index_word c Replacer) words))
    (λ (replacer, words) h. then_ok _ IsRanged (next_word (set_word c) words) _ (whatever (next_word (set_word c) words)) (λ (set, words) k.
    then_ok _ IsRanged (cut_at words) _ (whatever (cut_at words)) (λ cut l. record { ranges = tt; complete = refl })))

offer_ok : (c : Cluster) (words : List (List ℕ)) → IfOk (offer_event c words) IsRanged
unfolding offer_event
offer_ok c words =
    then_ok _ IsRanged (next_word (index_word c Replica) words) _ (whatever (next_word (index_word c Replica) words)) (λ (replica, words) h.
    then_ok _ IsRanged (next_word (other_word c Replica replica) words) _ (whatever (next_word (other_word c Replica replica) words))
    (λ (to, words) k. then_ok _ IsRanged (next_word slot_word words) _ (whatever (next_word slot_word words)) (λ (slot, words) l.
    ended_ok IsRanged (event.Offer replica to slot) words (record { ranges = tt; complete = refl }))))

event_ok : (c : Cluster) (verb : List ℕ) (words : List (List ℕ)) → IfOk (event_of c verb words) IsRanged
unfolding event_of
event_ok c verb words =
    let server = whatever (server_of c words) in
    let round = round_ok c words in
    let or_else : (b : Bool) (r s : Result Event LineFault) → IfOk r IsRanged → IfOk s IsRanged → IfOk (if b then r else s) IsRanged =
    λ b r s. either_ok IsRanged b r s in
    or_else (bytes_eq verb (codes "write")) _ _ (write_ok c words) (
    or_else (bytes_eq verb (codes "read")) _ _ (read_ok c words) (
    or_else (bytes_eq verb (codes "session")) _ _ (session_ok c words) (
    or_else (bytes_eq verb (codes "deliver")) _ _ (deliver_ok words) (
    or_else (bytes_eq verb (codes "tick"))
    _ _ (then_ok _ IsRanged (server_of c words) _ server (λ role h. record { ranges = tt; complete = refl })) (
    or_else (bytes_eq verb (codes "lead"))
    _ _ (then_ok _ IsRanged (grid_order_of c words) _ round (λ (leader, grid, cut) h. record { ranges = h; complete = refl })) (
    or_else (bytes_eq verb (codes "change"))
    _ _ (then_ok _ IsRanged (grid_order_of c words) _ round (λ (leader, grid, cut) h. record { ranges = h; complete = refl })) (
    or_else (bytes_eq verb (codes "collect")) _ _ (collect_ok c words) (
    or_else (bytes_eq verb (codes "snap")) _ _ (snap_ok c words) (
    or_else (bytes_eq verb (codes "replace")) _ _ (replace_ok c words) (
    or_else (bytes_eq verb (codes "offer")) _ _ (offer_ok c words) (
    or_else (bytes_eq verb (codes "crash"))
    _ _ (then_ok _ IsRanged (server_of c words) _ server (λ role h. record { ranges = tt; complete = refl })) (
    or_else (bytes_eq verb (codes "restart")) _ _ (then_ok _ IsRanged (server_of c words) _ server (λ role h. record {
      ranges = tt;
      complete = refl;
    })) tt))))))))))))

-- ---- lines

abbrev IfEvent : (Event → Type 0) → Option Event → Type 0
IfEvent P event = IfSome event P

words_ok : (c : Cluster) (words : List (List ℕ)) → IfOk (event_in c words) (IfEvent IsRanged)
words_ok c [] = tt
words_ok c (verb ∷ words) =
    either_ok (IfEvent IsRanged) (is_comment verb) (Ok None) (event_of c verb words >>= (λ event. Ok (Some event))) tt
    (then_ok IsRanged (IfEvent IsRanged) (event_of c verb words) (λ event. Ok (Some event)) (event_ok c verb words) (λ event h. h))

line_ok : (c : Cluster) (line : List ℕ) → IfOk (line_event c line) (IfEvent IsRanged)
unfolding line_event
line_ok c line =
    either_ok (IfEvent IsRanged) (nat_lt 1024 (length line)) (Err Long) (event_in c (words_of line)) tt (words_ok c (words_of line))

both : (c : Cluster) (r : Result (Option Event) LineFault) → IfOk r (IfEvent IsRanged) → ((e : Event) → r ≡ Ok (Some e) → IsGood c e)
    → IfOk r (IfEvent (IsRecordable c))
both c (Err fault) ranged good = tt
both c (Ok None) ranged good = tt
both c (Ok (Some e)) ranged good =
    record { ranges = ranged.ranges; valid = (good e refl).taken; named = (good e refl).named; complete = ranged.complete }

line_recordable : (c : Cluster) (line : List ℕ) → IfOk (line_event c line) (IfEvent (IsRecordable c))
line_recordable c line = both c (line_event c line) (line_ok c line) (spelled_is_good c line)

-- the event of a line can be recorded
pub spelled_is_recordable : (c : Cluster) (line : List ℕ) (e : Event) → line_event c line ≡ Ok (Some e) → IsRecordable c e
spelled_is_recordable c line e is =
    subst (λ (r : Result (Option Event) LineFault). IfOk r (IfEvent (IsRecordable c))) is (line_recordable c line)

-- ---- a node's lines

abbrev Each : (Event → Type 0) → List Event → Type 0
Each P [] = Unit {0}
Each P (e ∷ es) = P e × Each P es

all_of : (P : Event → Type 0) (es : List Event) → Each P es → (k : ℕ) (d : Event) → k < length es → P (slice_index_or es k d)
all_of P [] each k d within = absurd (omega (arith, within))
all_of P (e ∷ es) each zero d within = each.0
all_of P (e ∷ es) each (suc k) d within = all_of P es each.1 k d (omega (arith, within))

no_floor : (P : Option Event → Type 0) (line : List ℕ) (r : Result (Option Event) LineFault) → IfOk r P → IfOk (without_floor line r) P
no_floor P line (Err fault) h = tt
no_floor P line (Ok None) h = h
no_floor P line (Ok (Some e)) h = either_ok P (has_slash line) (Err Number) (Ok (Some e)) tt h

behind_ok : (P : Option Event → Type 0) (before : List Event) (r : Result (Option Event) LineFault) → IfOk r P
    → IfOk (request_behind before r) P
behind_ok P before (Err fault) h = tt
behind_ok P before (Ok None) h = h
behind_ok P before (Ok (Some e)) h = either_ok P (number_rises before e) (Ok (Some e)) (Err Word) h tt

with_ok : (P : Event → Type 0) (n : ℕ) (r : Result (Option Event) LineFault) (later : ParsedLines) → IfOk r (IfEvent P)
    → Each P later.events → Each P (with_line n r later).events
with_ok P n (Err fault) later h rest = tt
with_ok P n (Ok None) later h rest = rest
with_ok P n (Ok (Some e)) later h rest = (h, rest)

where_few : (P : Event → Type 0) (b : Bool) (n : ℕ) (later : ParsedLines) → Each P later.events
    → Each P (if b then record { events = []; bad = Some n } else later).events
where_few P true n later h = tt
where_few P false n later h = h

requests_ok : (c : Cluster) (n : ℕ) (before : List Event) (lines : List (List ℕ))
    → Each (IsRecordable c) (requests_from c n before lines).events
requests_ok c n before [] = tt
requests_ok c n before (line ∷ lines) =
    let P : Event → Type 0 = IsRecordable c in
    let later = requests_from c (n + 1) (with_event before (request_line c line)) lines in
    where_few P (nat_lt 65535 n) n (with_line n (request_behind before (request_line c line)) later)
    (with_ok P n (request_behind before (request_line c line)) later
    (behind_ok (IfEvent P) before (request_line c line) (no_floor (IfEvent P) line (line_event c line) (line_recordable c line)))
    (requests_ok c (n + 1) (with_event before (request_line c line)) lines))

pub requests_are_recordable : (c : Cluster) (bytes : List ℕ) → All (IsRecordable c) (requests_of c bytes).events
unfolding requests_of
requests_are_recordable c bytes = all_of (IsRecordable c) (requests_of c bytes).events (requests_ok c 1 [] (lines_of bytes))

pub scripts_are_recordable : (c : Cluster) (bytes : List ℕ) (client : ℕ)
    → All (IsRecordable c) (script_of client (requests_of c bytes).events)
scripts_are_recordable c bytes client =
    All-filter (asks client) (IsRecordable c) (requests_of c bytes).events (requests_are_recordable c bytes)
