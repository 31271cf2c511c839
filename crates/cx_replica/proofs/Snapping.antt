-- A renewed list, record by record.
use Rattle.std.proofs.Math.ListN.{drop_of_length-le}
use Rattle.std.proofs.lemmas.Option.{get_or_from_slice_get}
use Rattle.cx_base.proofs.Common.{take-append-drop, drop-drop, get_or-drop, length-take, comes_before}
use Rattle.cx_role.proofs.Common.{◌≡◌, ◌⊎◌, ℕ, zero, suc, ◌+◌, ◌-◌, ◌<◌, ◌≤◌, ◌^◌, Bool, true, false, ◌&&◌, List, [], ◌∷◌, ◌++◌, length}
use Rattle.cx_role.proofs.Common.{map, filter, take, drop, inl, inr, ap, sym, subst, ◌∙◌, refl, arith, length-drop, append_assoc}
use Rattle.cx_role.proofs.Common.{append-nil, ◌==◌, if◌then◌else◌, nat_le, nat_lt, min, Option, None, Some, slice_get, slice_index_or}
use Rattle.cx_role.proofs.Common.{list_all, list_any, and_from, and_parts, cases_Bool, eqb-true, nat_tests, length-map, take_all, take_more}
use Rattle.cx_role.proofs.Common.{list_all-append, slice_get_within, Cluster, Answered, Floor, Note, Pair, Value, floor_fits, rises, Table}
use Rattle.cx_role.proofs.Common.{are_rising, floor_of, value, all_fit, names_value, IsOrdered, note_of, pieces, Record}
use Rattle.cx_field.specs.Fields.{answered, mark, note, notes, pair, pairs}
use Rattle.cx_model.specs.Renewed.{all_left, is_near, rises_left}
use Rattle.cx_model.specs.Replica.{pieces_of}
use Rattle.cx_letter.specs.declared.kept.Record.TheVariants as kept
use Rattle.cx_letter.specs.Records.{kept_record, fits as record_fits}
use Rattle.cx_table.specs.Entries.{of_client}
use Rattle.cx_wire.specs.Format.{Format, each_fits, u8, u16, u32, u64}
use Rattle.cx_replica.specs.Sound.{IsTableOfCluster, are_answers, are_clients_below, are_own, are_pairs, are_values, is_cluster_value}
use Rattle.cx_replica.proofs.Values.{values_fit}

-- the floors of the clients from one on
abbrev pub floors_from : ℕ → List Floor → List Floor
floors_from client floors = filter (λ (f : Floor). nat_le client f.client) floors

-- lists in pieces

-- how many pieces there may be doesn't matter, where there may be enough
pieces_enough : {A : Type 0} (one other size : ℕ) (xs : List A) → length xs ≤ one → length xs ≤ other → 1 ≤ size
    → pieces_of one size xs ≡ pieces_of other size xs
unfolding pieces_of
pieces_enough zero zero size xs few fewer some = refl
pieces_enough zero (suc other) size [] few fewer some = refl
pieces_enough zero (suc other) size (x ∷ xs) few fewer some = absurd (omega arith)
pieces_enough (suc one) zero size [] few fewer some = refl
pieces_enough (suc one) zero size (x ∷ xs) few fewer some = absurd (omega arith)
pieces_enough (suc one) (suc other) size [] few fewer some = refl
pieces_enough (suc one) (suc other) size (x ∷ xs) few fewer some =
    let left = drop size (x ∷ xs) in
    ap (λ rest. take size (x ∷ xs) ∷ rest)
    (pieces_enough one other size left (omega (arith, length-drop size (x ∷ xs))) (omega (arith, length-drop size (x ∷ xs))) some)

pub pieces_next : {A : Type 0} (size : ℕ) (xs : List A) → 1 ≤ size → 1 ≤ length xs
    → pieces size xs ≡ take size xs ∷ pieces size (drop size xs)
unfolding pieces_of
pieces_next size [] some one = absurd (omega arith)
pieces_next size (x ∷ xs) some one =
    ap (λ rest. take size (x ∷ xs) ∷ rest) (pieces_enough (length xs) (length (drop size (x ∷ xs))) size (drop size (x ∷ xs))
    (omega (arith, length-drop size (x ∷ xs))) (omega arith) some)

-- as many as there are, at most so many
pub take_least : {A : Type 0} (n : ℕ) (xs : List A) → take (min n (length xs)) xs ≡ take n xs
take_least n xs = elim (cases_Bool (nat_le n (length xs))) as (λ _. take (min n (length xs)) xs ≡ take n xs) [
  | inl t ↦
      let fits : n ≤ length xs = grind (arith, nat_tests, t) in
      let least : min n (length xs) ≡ n = omega arith in
      ap (λ k. take k xs) least
  | inr f ↦
      let few : length xs ≤ n = grind (arith, nat_tests, f) in
      let least : min n (length xs) ≡ length xs = omega arith in
      ap (λ k. take k xs) least ∙ take_all (length xs) xs (omega arith) ∙ sym (take_all n xs few)
]

-- where so many are left, the pieces are the next one and those of what is left then
pub pieces_left : {A : Type 0} (size count left : ℕ) (xs : List A) → 1 ≤ size → length xs ≡ count → 1 ≤ left → left ≤ count
    → pieces size (drop (count - left) xs) ≡ take size (drop (count - left) xs) ∷ pieces size (drop (count - (left - size)) xs)
pieces_left size count left xs some all one within =
    pieces_next size (drop (count - left) xs) some (omega (arith, length-drop (count - left) xs))
    ∙ ap (λ rest. take size (drop (count - left) xs) ∷ pieces size rest)
    (drop-drop size (count - left) xs ∙ rest (cases_Bool (nat_le size left)))
  where
    rest : (nat_le size left ≡ true) ⊎ (nat_le size left ≡ false) → drop (count - left + size) xs ≡ drop (count - (left - size)) xs
    rest (inl t) =
        let more : size ≤ left = grind (arith, nat_tests, t) in
        let same : count - left + size ≡ count - (left - size) = omega arith in
        ap (λ k. drop k xs) same
    rest (inr f) =
        let less : left ≤ size = grind (arith, nat_tests, f) in
        drop_of_length-le xs (omega arith) ∙ sym (drop_of_length-le xs (omega arith))

-- records behind others, and the next one
pub next_piece : {A R : Type 0} (of : A → R) (done : List R) (one : A) (whole rest : List A) (all : List R) → whole ≡ one ∷ rest
    → done ++ map of whole ≡ all → (done ++ of one ∷ []) ++ map of rest ≡ all
next_piece of done one whole rest all is so_far =
    append_assoc done (of one ∷ []) (map of rest) ∙ ap (λ xs. done ++ map of xs) (sym is) ∙ so_far

-- where nothing is left, all is done
pub last_piece : {A R : Type 0} (of : List A → R) (size k : ℕ) (done : List R) (xs : List A) (all : List R) → length xs ≤ k
    → done ++ map of (pieces size (drop k xs)) ≡ all → done ≡ all
unfolding pieces_of
last_piece of size k done xs all past so_far =
    let nothing : drop k xs ≡ [] = drop_of_length-le xs past in
    let there : done ++ map of (pieces size []) ≡ all = subst (λ ys. done ++ map of (pieces size ys) ≡ all) nothing so_far in
    sym (append-nil done) ∙ there

-- records that fit, and one more
pub fit_more : (records : List Record) (what : Record) → all_fit records ≡ true → record_fits what ≡ true
    → all_fit (records ++ what ∷ []) ≡ true
fit_more records what all fits =
    list_all-append (λ (r : Record). record_fits r) records (what ∷ [])
    ∙ and_from (all_fit records) (record_fits what && true) all (and_from (record_fits what) true fits refl)

-- the first few and the next one
pub take_next : {A : Type 0} (n i : ℕ) (xs : List A) (x : A) → slice_get xs (n + i) ≡ Some x
    → take (i + 1) (drop n xs) ≡ take i (drop n xs) ++ x ∷ []
take_next n i xs x at =
    let within : i < length (drop n xs) = omega (arith, length-drop n xs, slice_get_within xs (n + i) x at) in
    take_more (drop n xs) i x within
    ∙ ap (λ y. take i (drop n xs) ++ y ∷ []) (get_or-drop n xs i x ∙ get_or_from_slice_get xs (n + i) x x at)

pub take_next_at : {A : Type 0} (n i : ℕ) (xs : List A) (x : A) → n + i < length xs → slice_index_or xs (n + i) x ≡ x
    → take (i + 1) (drop n xs) ≡ take i (drop n xs) ++ x ∷ []
take_next_at n i xs x inside at =
    let within : i < length (drop n xs) = omega (arith, length-drop n xs) in
    take_more (drop n xs) i x within ∙ ap (λ y. take i (drop n xs) ++ y ∷ []) (get_or-drop n xs i x ∙ at)

-- a slot that a log has has a value
pub slot_there : (first slot : ℕ) (list : List Value) → first ≤ slot → slot < first + length list
    → (if nat_lt slot first then None else slice_get list (slot - first)) ≡ None → ⊥
slot_there first slot list after within none =
    let past : nat_lt slot first ≡ false = grind (arith, nat_tests, after) in
    let gone : slice_get list (slot - first) ≡ None = rw past at none in
    there list (slot - first) (omega arith) gone
  where
    there : {A : Type 0} (xs : List A) (i : ℕ) → i < length xs → slice_get xs i ≡ None → ⊥
    there [] i within none = omega arith
    there (x ∷ xs) zero within none = cc
    there (x ∷ xs) (suc i) within none = there xs i (omega arith) none

-- what is so of all is so of all but the first few
pub all_later : {A : Type 0} (p : A → Bool) (n : ℕ) (xs : List A) → list_all p xs ≡ true → list_all p (drop n xs) ≡ true
all_later p n xs all =
    (and_parts (list_all p (take n xs)) (list_all p (drop n xs))
    (sym (list_all-append p (take n xs) (drop n xs)) ∙ ap (λ l. list_all p l) (take-append-drop n xs) ∙ all)).1

pub all_first : {A : Type 0} (p : A → Bool) (n : ℕ) (xs : List A) → list_all p xs ≡ true → list_all p (take n xs) ≡ true
all_first p n xs all =
    (and_parts (list_all p (take n xs)) (list_all p (drop n xs))
    (sym (list_all-append p (take n xs) (drop n xs)) ∙ ap (λ l. list_all p l) (take-append-drop n xs) ∙ all)).0

-- floors from a client on

floors_over : (n m : ℕ) (floors : List Floor) → are_rising m floors ≡ true → n ≤ m → floors_from n floors ≡ floors
floors_over n m [] rise over = refl
floors_over n m (f ∷ floors) rise over =
    let parts = and_parts (nat_le m f.client) (are_rising (f.client + 1) floors) rise in
    let there : nat_le n f.client ≡ true = grind (arith, nat_tests, parts.0, over) in
    rw there (ap (λ rest. f ∷ rest) (floors_over n (f.client + 1) floors parts.1 (grind (arith, nat_tests, parts.0, over))))

-- all floors are those from the first client on
pub floors_all : (floors : List Floor) → are_rising 0 floors ≡ true → floors_from 0 floors ≡ floors
floors_all floors rise = floors_over 0 0 floors rise (omega arith)

none_under : (n m : ℕ) (floors : List Floor) → are_rising m floors ≡ true → n < m → floor_of n floors ≡ None
none_under n m [] rise under = refl
none_under n m (f ∷ floors) rise under =
    let parts = and_parts (nat_le m f.client) (are_rising (f.client + 1) floors) rise in
    let apart : (f.client == n) ≡ false = grind (arith, nat_tests, parts.0, under) in
    rw apart (none_under n (f.client + 1) floors parts.1 (grind (arith, nat_tests, parts.0, under)))

with_one : ℕ → Option ℕ → List Floor → List Floor
with_one client None floors = floors
with_one client (Some floor) floors = record { client = client; floor = floor } ∷ floors

floors_at : (n m : ℕ) (floors : List Floor) → are_rising m floors ≡ true
    → floors_from n floors ≡ with_one n (floor_of n floors) (floors_from (n + 1) floors)
unfolding with_one
floors_at n m [] rise = refl
floors_at n m (f ∷ floors) rise =
    let parts = and_parts (nat_le m f.client) (are_rising (f.client + 1) floors) rise in
    go (cases_Bool (f.client == n)) (cases_Bool (nat_le n f.client)) parts.1 (floors_at n (f.client + 1) floors parts.1)
  where
    go : ((f.client == n) ≡ true) ⊎ ((f.client == n) ≡ false) → (nat_le n f.client ≡ true) ⊎ (nat_le n f.client ≡ false)
        → are_rising (f.client + 1) floors ≡ true
        → floors_from n floors ≡ with_one n (floor_of n floors) (floors_from (n + 1) floors)
        → floors_from n (f ∷ floors) ≡ with_one n (floor_of n (f ∷ floors)) (floors_from (n + 1) (f ∷ floors))
    go (inl t) v rise rest =
        let same : f.client ≡ n = eqb-true f.client n t in
        let here : nat_le n f.client ≡ true = grind (arith, nat_tests, same) in
        let past : nat_le (n + 1) f.client ≡ false = grind (arith, nat_tests, same) in
        let over : floors_from n floors ≡ floors = floors_over n (f.client + 1) floors rise (omega (arith, same)) in
        let later : floors_from (n + 1) floors ≡ floors = floors_over (n + 1) (f.client + 1) floors rise (omega (arith, same)) in
        let own : f ≡ record { client = n; floor = f.floor } = ap (λ k. record { client = k; floor = f.floor }) same in
        rw (t, here, past, over, later) (ap (λ g. g ∷ floors) own)
    go (inr t) (inl v) rise rest =
        let there : nat_le (n + 1) f.client ≡ true = grind (arith, nat_tests, t, v) in
        let none : floor_of n floors ≡ None = none_under n (f.client + 1) floors rise (grind (arith, nat_tests, v)) in
        let all : floors_from n floors ≡ floors_from (n + 1) floors = rw none at rest in
        rw (t, v, there, none) (ap (λ xs. f ∷ xs) all)
    go (inr t) (inr v) rise rest =
        let past : nat_le (n + 1) f.client ≡ false = grind (arith, nat_tests, v) in
        rw (t, v, past) rest

-- where a client told a floor, it is the next one
pub floor_next : (n floor : ℕ) (floors : List Floor) → are_rising 0 floors ≡ true → floor_of n floors ≡ Some floor
    → floors_from n floors ≡ record { client = n; floor = floor } ∷ floors_from (n + 1) floors
unfolding with_one
floor_next n floor floors rise told = rw told at (floors_at n 0 floors rise)

pub floor_none : (n : ℕ) (floors : List Floor) → are_rising 0 floors ≡ true → floor_of n floors ≡ None
    → floors_from n floors ≡ floors_from (n + 1) floors
unfolding with_one
floor_none n floors rise told = rw told at (floors_at n 0 floors rise)

-- no client is at or above the count
pub floors_end : (count n : ℕ) (floors : List Floor) → count ≤ n → are_clients_below count floors ≡ true → floors_from n floors ≡ []
floors_end count n [] over below = refl
floors_end count n (f ∷ floors) over below =
    let parts = and_parts (nat_lt f.client count) (are_clients_below count floors) below in
    let past : nat_le n f.client ≡ false = grind (arith, nat_tests, parts.0, over) in
    rw past (floors_end count n floors over parts.1)

-- the notes of a client

-- whether an answer is a client's, to a number above one and up to another
abbrev is_between : ℕ → ℕ → ℕ → Answered → Bool
is_between client low high a = a.client == client && nat_lt low a.seq && nat_le a.seq high

abbrev are_between : ℕ → ℕ → ℕ → List Answered → Bool
are_between client low high notes = list_all (is_between client low high) notes

closer : (client low high : ℕ) (a : Answered) (notes : List Answered) → is_between client low high a ≡ true
    → list_all (λ (b : Answered). comes_before a b) notes ≡ true → are_between client low high notes ≡ true
    → are_between client a.seq high notes ≡ true
closer client low high a [] own before all = refl
closer client low high a (b ∷ notes) own before all =
    let first = and_parts (comes_before a b) (list_all (λ (x : Answered). comes_before a x) notes) before in
    let parts = and_parts (is_between client low high b) (are_between client low high notes) all in
    let here : is_between client a.seq high b ≡ true = grind (arith, nat_tests, own, first.0, parts.0) in
    and_from (is_between client a.seq high b) (are_between client a.seq high notes) here
    (closer client low high a notes own first.1 parts.1)

few_between : (client low high : ℕ) (notes : List Answered) → rises comes_before notes ≡ true → are_between client low high notes ≡ true
    → length notes ≤ high - low
few_between client low high [] rise all = omega arith
few_between client low high (a ∷ notes) rise all =
    let first = and_parts (list_all (λ (b : Answered). comes_before a b) notes) (rises comes_before notes) rise in
    let parts = and_parts (is_between client low high a) (are_between client low high notes) all in
    let few : length notes ≤ high - a.seq =
    few_between client a.seq high notes first.1 (closer client low high a notes parts.0 first.0 parts.1) in
    let under : low < a.seq = grind (arith, nat_tests, parts.0) in
    let over : a.seq ≤ high = grind (arith, nat_tests, parts.0) in
    omega (arith, few, under, over)

near_client : (client floor : ℕ) (floors : List Floor) (notes : List Answered) → floor_of client floors ≡ Some floor
    → list_all (λ (a : Answered). is_near floors a) notes ≡ true → are_between client floor (floor + 64) (of_client client notes) ≡ true
near_client client floor floors [] told all = refl
near_client client floor floors (a ∷ notes) told all =
    let parts = and_parts (is_near floors a) (list_all (λ (x : Answered). is_near floors x) notes) all in
    go (cases_Bool (a.client == client)) parts.0 (near_client client floor floors notes told parts.1)
  where
    go : ((a.client == client) ≡ true) ⊎ ((a.client == client) ≡ false) → is_near floors a ≡ true
        → are_between client floor (floor + 64) (of_client client notes) ≡ true
        → are_between client floor (floor + 64) (of_client client (a ∷ notes)) ≡ true
    go (inl t) near rest =
        let its : floor_of a.client floors ≡ Some floor = ap (λ k. floor_of k floors) (eqb-true a.client client t) ∙ told in
        let fits : floor_fits a.seq floor ≡ true = rw its at near in
        let own : is_between client floor (floor + 64) a ≡ true = grind (arith, nat_tests, t, fits) in
        rw t (and_from (is_between client floor (floor + 64) a) (are_between client floor (floor + 64) (of_client client notes)) own rest)
    go (inr t) near rest = rw t rest

-- at most 64 are noted of a client
pub few_notes : (c : Cluster) (t : Table) (client floor : ℕ) → IsOrdered t → IsTableOfCluster c t → floor_of client t.floors ≡ Some floor
    → length (of_client client t.notes) ≤ 64
few_notes c t client floor ordered noted told =
    let few = few_between client floor (floor + 64) (of_client client t.notes)
    (rises_left comes_before (λ (a : Answered). a.client == client) t.notes ordered.notes_rise)
    (near_client client floor t.floors t.notes told noted.near) in
    omega (arith, few)

has_some : (client : ℕ) (notes : List Answered) → list_any (λ (a : Answered). a.client == client) notes ≡ true
    → 1 ≤ length (of_client client notes)
has_some client [] any = cc
has_some client (a ∷ notes) any = elim (cases_Bool (a.client == client)) as (λ _. 1 ≤ length (of_client client (a ∷ notes))) [
  | inl t ↦ rw t (omega arith)
  | inr f ↦ let later : list_any (λ (x : Answered). x.client == client) notes ≡ true = rw f at any in rw f (has_some client notes later)
]

told_some : (client floor : ℕ) (floors : List Floor) (notes : List Answered) → floor_of client floors ≡ Some floor
    → list_all (λ (f : Floor). list_any (λ (a : Answered). a.client == f.client) notes) floors ≡ true
    → list_any (λ (a : Answered). a.client == client) notes ≡ true
told_some client floor [] notes told all = cc
told_some client floor (f ∷ floors) notes told all =
    let parts = and_parts (list_any (λ (a : Answered). a.client == f.client) notes)
    (list_all (λ (g : Floor). list_any (λ (a : Answered). a.client == g.client) notes) floors) all in
    elim (cases_Bool (f.client == client)) as (λ _. list_any (λ (a : Answered). a.client == client) notes ≡ true) [
      | inl t ↦ subst (λ k. list_any (λ (a : Answered). a.client == k) notes ≡ true) (eqb-true f.client client t) parts.0
      | inr x ↦ let later : floor_of client floors ≡ Some floor = rw x at told in told_some client floor floors notes later parts.1
    ]

-- one is noted, of a client that told a floor
pub some_notes : (c : Cluster) (t : Table) (client floor : ℕ) → IsTableOfCluster c t → floor_of client t.floors ≡ Some floor
    → 1 ≤ length (of_client client t.notes)
some_notes c t client floor noted told = has_some client t.notes (told_some client floor t.floors t.notes told noted.some)

-- records in their ranges

each_fits-same : {A : Type 0} (f : Format A) (before xs : List A) → each_fits (λ _. f) before xs ≡ list_all (λ (x : A). f.fits x) xs
unfolding each_fits
each_fits-same f before [] = refl
each_fits-same {A} f before (x ∷ xs) = ap (λ (b : Bool). f.fits x && b) (each_fits-same f (before ++ x ∷ []) xs)

pairs_fit : (list : List Pair) → 1 ≤ length list → length list ≤ 255 → are_pairs list ≡ true → record_fits (kept.Pairs list) ≡ true
unfolding kept_record pairs u8
pairs_fit list some room fit =
    let each : each_fits (λ _. pair) [] list ≡ true = each_fits-same pair [] list ∙ fit in
    grind (arith, nat_tests, each)

tail_fit : (list : List Value) → 1 ≤ length list → length list ≤ 32 → are_values list ≡ true → record_fits (kept.Tail list) ≡ true
unfolding kept_record
tail_fit list some room fit = values_fit list some room fit

-- the next pairs, or values, that fit are those of a record
pub next_pairs_fit : (list : List Pair) → 1 ≤ length list → are_pairs (take 255 list) ≡ true
    → record_fits (kept.Pairs (take 255 list)) ≡ true
next_pairs_fit list some fit =
    pairs_fit (take 255 list) (omega (arith, length-take 255 list, some)) (omega (arith, length-take 255 list)) fit

pub next_tail_fit : (list : List Value) → 1 ≤ length list → are_values list ≡ true → record_fits (kept.Tail (take 32 list)) ≡ true
next_tail_fit list some fit =
    tail_fit (take 32 list) (omega (arith, length-take 32 list, some)) (omega (arith, length-take 32 list))
    (all_first (λ (v : Value). value.fits v) 32 list fit)

note_fit : (a : Answered) → answered.fits a ≡ true → note.fits (note_of a) ≡ true
unfolding answered note
note_fit a fit = (and_parts _ _ fit).1

noted_fit : (client : ℕ) (notes : List Answered) → are_answers notes ≡ true
    → list_all (λ (n : Note). note.fits n) (map note_of (of_client client notes)) ≡ true
noted_fit client notes fit =
    each (of_client client notes) (all_left (λ (a : Answered). answered.fits a) (λ (a : Answered). a.client == client) notes fit)
  where
    each : (list : List Answered) → are_answers list ≡ true → list_all (λ (n : Note). note.fits n) (map note_of list) ≡ true
    each [] all = refl
    each (a ∷ list) all =
        let parts = and_parts (answered.fits a) (are_answers list) all in
        and_from (note.fits (note_of a)) (list_all (λ (n : Note). note.fits n) (map note_of list)) (note_fit a parts.0) (each list parts.1)

pub notes_fit : (client floor : ℕ) (answers : List Answered) → client < 2 ^ 16 → floor < 2 ^ 64 → are_answers answers ≡ true
    → 1 ≤ length (of_client client answers) → length (of_client client answers) ≤ 64
    → record_fits (kept.Notes client floor (map note_of (of_client client answers))) ≡ true
unfolding kept_record notes u8 u16 u64
notes_fit client floor answers who least fit some room =
    let list = map note_of (of_client client answers) in
    let long : length list ≡ length (of_client client answers) = length-map (of_client client answers) note_of in
    let each : each_fits (λ _. note) [] list ≡ true = each_fits-same note [] list ∙ noted_fit client answers fit in
    grind (arith, nat_tests, each, long)

pub base_fit : (first held keys clients : ℕ) → first ≤ 2 ^ 40 → held ≤ 2 ^ 40 → keys < 2 ^ 32 → clients ≤ 64
    → record_fits (kept.Base first held keys clients) ≡ true
unfolding kept_record mark u64 u32 u8
base_fit first held keys clients first_fits held_fits keys_fit clients_fit = grind (arith, nat_tests)

pub are_named : (c : Cluster) (vs : List Value) → are_own c vs ≡ true → list_all (λ (v : Value). names_value c v) vs ≡ true
are_named c [] all = refl
are_named c (v ∷ vs) all =
    let parts = and_parts (is_cluster_value c v) (are_own c vs) all in
    and_from (names_value c v) (list_all (λ (w : Value). names_value c w) vs) (and_parts (value.fits v) (names_value c v) parts.0).1
    (are_named c vs parts.1)

pub pairs_more : (list : List Pair) (p : Pair) → are_pairs list ≡ true → pair.fits p ≡ true → are_pairs (list ++ p ∷ []) ≡ true
pairs_more list p all fits = list_all-append (λ (x : Pair). pair.fits x) list (p ∷ [])
    ∙ and_from (are_pairs list) (pair.fits p && true) all (and_from (pair.fits p) true fits refl)
