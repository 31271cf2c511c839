-- What holds of all that a part of a line may say.
use Rattle.std.proofs.Common.{find}
use Rattle.cx_base.proofs.Common.{◌≡◌, ℕ, Bool, true, false, not, nat_lt, List, [], ◌∷◌, Option, None, Some, option_map, option_and_then}
use Rattle.cx_base.proofs.Common.{ok_or, Result, Ok, Err, IfOk, IfSome, is_none, length, refl, inl, inr, ◌-◌, ◌+◌, ◌*◌, ◌==◌, ◌&&◌, nat_le}
use Rattle.cx_base.proofs.Common.{if◌then◌else◌, ⊤, cases_Bool, and_parts, list_all, slice_split, bytes_eq, floor_fits, grid_fault}
use Rattle.cx_base.proofs.Common.{make_grid, kind_text, role, is_rising, count_of, and_from}
use Rattle.cx_base.specs.declared.cluster.Cluster.{Cluster}
use Rattle.cx_base.specs.declared.role.Kind.{Kind}
use Rattle.cx_base.specs.declared.role.RoleId.{RoleId}
use Rattle.cx_base.specs.Role.{puts_anew}
use Rattle.cx_script.specs.declared.fault.LineFault.{LineFault}
use Rattle.cx_script.specs.declared.fault.LineFault.TheVariants.{Number, Role, Grid}
use Rattle.cx_script.specs.Grammar.{◌>>=◌, next_word, ended, grid_at}
use Rattle.cx_script.specs.Names.{is_client, names_server, names_members, names_set, names_snap}
use Rattle.cx_script.specs.Places.{fitting, seq_and_floor, seq_word, number_if_below, index_below, kind_part, index_part, index_word}
use Rattle.cx_script.specs.Places.{server_kinds, server_kind, server_in, server_word, sides_word, ids_of, grid_from_ids, members_word}
use Rattle.cx_script.specs.Places.{server_named, set_in, set_word, if_puts_anew, renewing_word, if_slot, slot_word, other_than, other_word}
use Rattle.cx_script.specs.Words.{word_number}

pub then_ok : {A B : Type 0} (P : A → Type 0) (Q : B → Type 0) (r : Result A LineFault) (more : A → Result B LineFault) → IfOk r P
    → ((a : A) → P a → IfOk (more a) Q) → IfOk (r >>= more) Q
then_ok P Q (Ok a) more first rest = rest a first
then_ok P Q (Err fault) more first rest = tt

pub either_ok : {A : Type 0} (P : A → Type 0) (b : Bool) (r s : Result A LineFault) → IfOk r P → IfOk s P → IfOk (if b then r else s) P
either_ok P true r s first second = first
either_ok P false r s first second = second

pub next_ok : {A : Type 0} (P : A → Type 0) (place : List ℕ → Result A LineFault) → ((word : List ℕ) → IfOk (place word) P)
    → (words : List (List ℕ)) → IfOk (next_word place words) (λ part. P part.0)
next_ok P place each [] = tt
next_ok P place each (word ∷ words) = then_ok P (λ part. P part.0) (place word) (λ said. Ok (said, words)) (each word) (λ a h. h)

pub ended_ok : {A : Type 0} (P : A → Type 0) (a : A) (words : List (List ℕ)) → P a → IfOk (ended a words) P
ended_ok P a [] h = h
ended_ok P a (word ∷ words) h = tt

pub some_ok : {A : Type 0} (P : A → Type 0) (o : Option A) (fault : LineFault) → IfSome o P → IfOk (ok_or o fault) P
some_ok P None fault h = tt
some_ok P (Some a) fault h = h

pub and_then_some : {A B : Type 0} (P : A → Type 0) (Q : B → Type 0) (o : Option A) (f : A → Option B) → IfSome o P
    → ((a : A) → P a → IfSome (f a) Q) → IfSome (option_and_then f o) Q
and_then_some P Q None f first rest = tt
and_then_some P Q (Some a) f first rest = rest a first

-- what passes a test
tested : {A : Type 0} (test : A → Bool) (a : A) (b : Bool) → test a ≡ b → IfSome (if b then Some a else None) (λ c. test c ≡ true)
tested test a true is = is
tested test a false is = tt

pub anything : {A : Type 0} (o : Option A) → IfSome o (λ a. ⊤)
anything None = tt
anything (Some a) = tt

pub whatever : {A : Type 0} (r : Result A LineFault) → IfOk r (λ a. ⊤)
whatever (Ok a) = tt
whatever (Err fault) = tt

-- a floor that fits its number
abbrev pub Fits : ℕ × ℕ → Type 0
Fits numbers = floor_fits numbers.0 numbers.1 ≡ true

fitting_some : (seq floor : ℕ) → IfSome (fitting seq floor) Fits
fitting_some seq floor = tested (λ (numbers : ℕ × ℕ). floor_fits numbers.0 numbers.1) (seq, floor) (floor_fits seq floor) refl

told_some : (parts : List (List ℕ)) → IfSome (seq_and_floor parts) Fits
told_some [] = tt
told_some (seq ∷ []) =
    and_then_some (λ n. ⊤) Fits (word_number seq) (λ n. fitting n (n - 1)) (anything (word_number seq)) (λ n h. fitting_some n (n - 1))
told_some (seq ∷ floor ∷ []) = and_then_some (λ n. ⊤) Fits (word_number seq) (λ n. option_and_then (fitting n) (word_number floor))
    (anything (word_number seq)) (λ n h.
    and_then_some (λ m. ⊤) Fits (word_number floor) (fitting n) (anything (word_number floor)) (λ m k. fitting_some n m))
told_some (seq ∷ floor ∷ part ∷ parts) = tt

pub seq_ok : (word : List ℕ) → IfOk (seq_word word) Fits
seq_ok word = some_ok Fits (seq_and_floor (slice_split (λ b. b == 47) word)) Number (told_some (slice_split (λ b. b == 47) word))

pub slot_ok : (word : List ℕ) → IfOk (slot_word word) (λ s. nat_le s 1099511627776 ≡ true)
slot_ok word =
    let P : ℕ → Type 0 = λ s. nat_le s 1099511627776 ≡ true in
    some_ok P (option_and_then if_slot (word_number word)) Number (and_then_some (λ n. ⊤) P (word_number word) if_slot
    (anything (word_number word)) (λ n h. tested (λ m. nat_le m 1099511627776) n (nat_le n 1099511627776) refl))

index_below_some : (count : ℕ) (digits : List ℕ) → IfSome (index_below count digits) (λ i. nat_lt i count ≡ true)
index_below_some count digits = and_then_some (λ n. ⊤) (λ i. nat_lt i count ≡ true) (word_number digits) (number_if_below count)
    (anything (word_number digits)) (λ n h. tested (λ m. nat_lt m count) n (nat_lt n count) refl)

pub index_ok : (c : Cluster) (kind : Kind) (word : List ℕ) → IfOk (index_word c kind word) (λ i. nat_lt i (count_of c kind) ≡ true)
index_ok c kind word = either_ok (λ i. nat_lt i (count_of c kind) ≡ true) (bytes_eq (kind_part word) (kind_text kind))
    (ok_or (index_below (count_of c kind) (index_part word)) Role) (Err Role)
    (some_ok (λ i. nat_lt i (count_of c kind) ≡ true) (index_below (count_of c kind) (index_part word)) Role
    (index_below_some (count_of c kind) (index_part word))) tt

-- an index of the cluster, and another one
abbrev pub IsOther : Cluster → Kind → ℕ → ℕ → Type 0
IsOther c kind first i = (nat_lt i (count_of c kind) ≡ true) × (not (i == first) ≡ true)

pub other_ok : (c : Cluster) (kind : Kind) (first : ℕ) (word : List ℕ) → IfOk (other_word c kind first word) (IsOther c kind first)
other_ok c kind first word = go (index_word c kind word) (index_ok c kind word)
  where
    apart : (i : ℕ) (b : Bool) → (i == first) ≡ b → nat_lt i (count_of c kind) ≡ true
        → IfOk (if b then Err Role else Ok i) (IsOther c kind first)
    apart i true is h = tt
    apart i false is h = (h, rw is refl)

    go : (r : Result ℕ LineFault) → IfOk r (λ i. nat_lt i (count_of c kind) ≡ true) → IfOk (other_than first r) (IsOther c kind first)
    go (Err fault) h = tt
    go (Ok i) h = apart i (i == first) refl h

found_server : (test : Kind → Bool) (kinds : List Kind) → list_all (λ kind. not (is_client kind)) kinds ≡ true
    → IfSome (find test kinds) (λ kind. not (is_client kind) ≡ true)
found_server test [] each = tt
found_server test (kind ∷ kinds) each =
    let parts = and_parts (not (is_client kind)) (list_all (λ k. not (is_client k)) kinds) each in
    elim (cases_Bool (test kind)) [
      | inl here ↦ rw here parts.0
      | inr later ↦ rw later (found_server test kinds parts.1)
    ]

map_some : {A B : Type 0} (P : A → Type 0) (Q : B → Type 0) (o : Option A) (f : A → B) → IfSome o P → ((a : A) → P a → Q (f a))
    → IfSome (option_map f o) Q
map_some P Q None f first rest = tt
map_some P Q (Some a) f first rest = rest a first

server_some : (c : Cluster) (digits : List ℕ) (o : Option Kind) → IfSome o (λ kind. not (is_client kind) ≡ true)
    → IfSome (server_in c digits o) (λ r. names_server c r ≡ true)
server_some c digits None h = tt
server_some c digits (Some kind) h = map_some (λ i. nat_lt i (count_of c kind) ≡ true) (λ r. names_server c r ≡ true)
    (index_below (count_of c kind) digits) (role kind) (index_below_some (count_of c kind) digits) (λ i k. rw (h, k) refl)

pub server_ok : (c : Cluster) (word : List ℕ) → IfOk (server_word c word) (λ r. names_server c r ≡ true)
server_ok c word =
    some_ok (λ r. names_server c r ≡ true) (server_in c (index_part word) (server_kind (kind_part word))) Role (server_some c
    (index_part word) (server_kind (kind_part word)) (found_server (λ kind. bytes_eq (kind_part word) (kind_text kind)) server_kinds refl))

anew_some : (c : Cluster) (r : RoleId) → names_server c r ≡ true → IfSome (if_puts_anew r) (λ s. names_snap c s ≡ true)
anew_some c r h = go (puts_anew r.kind) refl
  where
    go : (b : Bool) → puts_anew r.kind ≡ b → IfSome (if b then Some r else None) (λ s. names_snap c s ≡ true)
    go true e = and_from (puts_anew r.kind) (nat_lt r.index (count_of c r.kind)) e
        (and_parts (not (is_client r.kind)) (nat_lt r.index (count_of c r.kind)) h).1
    go false e = tt

pub snap_ok : (c : Cluster) (word : List ℕ) → IfOk (renewing_word c word) (λ r. names_snap c r ≡ true)
snap_ok c word =
    let named = server_named c word in
    some_ok (λ r. names_snap c r ≡ true) (option_and_then if_puts_anew named) Role
    (and_then_some (λ r. names_server c r ≡ true) (λ r. names_snap c r ≡ true) named if_puts_anew (server_some c (index_part word)
    (server_kind (kind_part word)) (found_server (λ kind. bytes_eq (kind_part word) (kind_text kind)) server_kinds refl)) (anew_some c))

ids_some : (count : ℕ) (parts : List (List ℕ)) → IfSome (ids_of count parts) (λ ids. list_all (λ id. nat_lt id count) ids ≡ true)
ids_some count [] = refl
ids_some count (part ∷ parts) = and_then_some (λ id. nat_lt id count ≡ true) (λ ids. list_all (λ id. nat_lt id count) ids ≡ true)
    (index_below count part) (λ id. option_map (λ ids. id ∷ ids) (ids_of count parts)) (index_below_some count part) (λ id h.
    map_some (λ ids. list_all (λ id. nat_lt id count) ids ≡ true) (λ ids. list_all (λ id. nat_lt id count) ids ≡ true) (ids_of count parts)
    (λ ids. id ∷ ids) (ids_some count parts) (λ ids k. rw (h, k) refl))

where_true : {A : Type 0} (P : A → Type 0) (b : Bool) (a : A) → P a → IfSome (if b then Some a else None) P
where_true P true a h = h
where_true P false a h = tt

members_ok : (c : Cluster) (rows cols : ℕ) (word : List ℕ) → IfOk (members_word c rows cols word) (λ g. names_members c g ≡ true)
members_ok c rows cols word =
    let ids : Option (List ℕ) = ids_of c.acceptors (slice_split (λ b. b == 44) word) in
    some_ok (λ g. names_members c g ≡ true) (option_and_then (grid_from_ids rows cols) ids) Grid
    (and_then_some (λ ids. list_all (λ id. nat_lt id c.acceptors) ids ≡ true) (λ g. names_members c g ≡ true) ids (grid_from_ids rows cols)
    (ids_some c.acceptors (slice_split (λ b. b == 44) word))
    (λ ids h. where_true (λ g. names_members c g ≡ true) (is_none (grid_fault rows cols ids)) (make_grid rows cols ids) h))

pub grid_ok : (c : Cluster) (words : List (List ℕ)) → IfOk (grid_at c words) (λ part. names_members c part.0 ≡ true)
grid_ok c words = then_ok (λ sides. ⊤) (λ part. names_members c part.0 ≡ true) (next_word sides_word words)
    (λ (sides, words). next_word (members_word c sides.0 sides.1) words) (whatever (next_word sides_word words))
    (λ (sides, words) h. next_ok (λ g. names_members c g ≡ true) (members_word c sides.0 sides.1) (members_ok c sides.0 sides.1) words)

-- the ids of such a set are matchmakers of the cluster
set_some : (c : Cluster) (ids : List ℕ) → list_all (λ id. nat_lt id c.pool) ids ≡ true → IfSome (set_in c ids) (λ s. names_set c s ≡ true)
set_some c ids named = go ((length ids == 2 * c.f + 1) && is_rising ids) refl
  where
    go : (b : Bool) → ((length ids == 2 * c.f + 1) && is_rising ids) ≡ b → IfSome (if b then Some ids else None) (λ s. names_set c s ≡ true)
    go true is = rw (is, named) refl
    go false is = tt

pub set_ok : (c : Cluster) (word : List ℕ) → IfOk (set_word c word) (λ s. names_set c s ≡ true)
set_ok c word =
    let ids : Option (List ℕ) = ids_of c.pool (slice_split (λ b. b == 44) word) in
    some_ok (λ s. names_set c s ≡ true) (option_and_then (set_in c) ids) Number
    (and_then_some (λ ids. list_all (λ id. nat_lt id c.pool) ids ≡ true) (λ s. names_set c s ≡ true) ids (set_in c)
    (ids_some c.pool (slice_split (λ b. b == 44) word)) (set_some c))
