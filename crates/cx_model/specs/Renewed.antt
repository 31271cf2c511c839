-- Laws of a renewed list: it leaves what it was made of, without the values that it forgets, and it is one that a replica could
-- have made.
use Rattle.std.specs.Prelude.{◌≡◌, ◌≤◌, ℕ, zero, suc, ◌+◌, ◌-◌, ◌==◌, ◌&&◌, ◌⊎◌, Bool, true, false, not, nat_le, nat_lt, min, map, filter}
use Rattle.std.specs.Prelude.{List, [], ◌∷◌, ◌++◌, length, take, drop, Option, None, Some, refl}
use Rattle.std.proofs.Common.{ap, sym, ◌∙◌, subst, inl, inr, arith, append_assoc, append-nil, length-append, length-drop, take-append-drop}
use Rattle.std.proofs.lemmas.Bool.{and_from, and_parts, cases_Bool}
use Rattle.std.proofs.lemmas.Bool.Decides.{nat_tests}
use Rattle.std.proofs.lemmas.List.{length-take}
use Rattle.std.proofs.lemmas.List.Folds.{list_all-append}
use Rattle.cx_letter.specs.Prelude.{list_all, Cluster, Answered, Floor, Pair, Value, RoleId, floor_fits, rises, Table, are_rising}
use Rattle.cx_letter.specs.Prelude.{comes_before, floor_of}
use Rattle.cx_letter.specs.declared.kept.Record.{Record}
use Rattle.cx_letter.specs.declared.kept.Record.TheVariants as kept
use Rattle.cx_model.specs.Names.{names_value}
use Rattle.cx_model.specs.Replica.{ReplicaDurable, answer_of, are_client_notes, is_renewal_whole, key_before, note_of, notes_of, pieces}
use Rattle.cx_model.specs.Replica.{pieces_of, replica_after, replica_fits, replica_rules}
use Rattle.cx_model.specs.Rules.{folded_from, refused, refused_from}

-- whether a number is above a floor that was told
abbrev pub is_over : ℕ → Option ℕ → Bool
is_over seq None = false
is_over seq (Some floor) = nat_lt floor seq

-- whether a client may tell a floor with a number, which it told
abbrev pub fits_told : ℕ → Option ℕ → Bool
fits_told seq None = false
fits_told seq (Some floor) = floor_fits seq floor

-- whether an answer is above its client's floor; whether it is at most 64 above
abbrev pub is_above_client_floor : List Floor → Answered → Bool
is_above_client_floor floors a = is_over a.seq (floor_of a.client floors)

abbrev pub is_near : List Floor → Answered → Bool
is_near floors a = fits_told a.seq (floor_of a.client floors)

-- A client table in order: the clients of its floors rise, its answers rise, and each is above its client's floor.
pub record IsOrdered (t : Table) : Type 0 where
  pub floors_rise : are_rising 0 t.floors ≡ true
  pub notes_rise : rises comes_before t.notes ≡ true
  pub above : list_all (λ (a : Answered). is_above_client_floor t.floors a) t.notes ≡ true

-- what a durable part has besides, so that a replica could have made its renewed list
pub record IsRenewable (c : Cluster) (d : ReplicaDurable) : Type 0 where
  pub keys : rises key_before d.machine.map ≡ true
  pub near : list_all (λ (a : Answered). is_near d.machine.table.floors a) d.machine.table.notes ≡ true
  pub clients : list_all (λ (f : Floor). nat_lt f.client c.clients) d.machine.table.floors ≡ true
  pub values : list_all (λ (v : Value). names_value c v) d.log ≡ true

-- the same state without the values below a slot
abbrev pub forgets : ReplicaDurable → ℕ → ReplicaDurable
forgets d first =
    record { first = first; log = drop (first - d.first) d.log; machine = d.machine; begun = true; pairs = 0; clients = 0; values = 0 }

-- lists in pieces

pub all_pieces : {A : Type 0} → List (List A) → List A
all_pieces [] = []
all_pieces (x ∷ xs) = x ++ all_pieces xs

pub pieces_joined : {A : Type 0} (fuel size : ℕ) (xs : List A) → length xs ≤ fuel → 1 ≤ size → all_pieces (pieces_of fuel size xs) ≡ xs
unfolding all_pieces pieces_of
pieces_joined zero size [] few some = refl
pieces_joined zero size (x ∷ xs) few some = absurd (omega arith)
pieces_joined (suc fuel) size [] few some = refl
pieces_joined (suc fuel) size (x ∷ xs) few some =
    ap (λ rest. take size (x ∷ xs) ++ rest) (pieces_joined fuel size (drop size (x ∷ xs)) (omega (arith, length-drop size (x ∷ xs))) some)
    ∙ take-append-drop size (x ∷ xs)

-- tests of lists and of their parts

pub all_parts : {A : Type 0} (p : A → Bool) (n : ℕ) (xs : List A) → list_all p xs ≡ true
    → (list_all p (take n xs) ≡ true) × (list_all p (drop n xs) ≡ true)
all_parts p n xs all =
    and_parts (list_all p (take n xs)) (list_all p (drop n xs))
    (sym (list_all-append p (take n xs) (drop n xs)) ∙ ap (λ l. list_all p l) (take-append-drop n xs) ∙ all)

-- what is so of each is so of each that is left
pub all_left : {A : Type 0} (p q : A → Bool) (xs : List A) → list_all p xs ≡ true → list_all p (filter q xs) ≡ true
all_left p q [] all = refl
all_left p q (x ∷ xs) all =
    let parts = and_parts (p x) (list_all p xs) all in
    go (cases_Bool (q x)) parts.0 (all_left p q xs parts.1)
  where
    go : (q x ≡ true) ⊎ (q x ≡ false) → p x ≡ true → list_all p (filter q xs) ≡ true → list_all p (filter q (x ∷ xs)) ≡ true
    go (inl t) first rest = rw t (and_from (p x) (list_all p (filter q xs)) first rest)
    go (inr t) first rest = rw t rest

rises_front : {A : Type 0} (comes : A → A → Bool) (xs ys : List A) → rises comes (xs ++ ys) ≡ true → rises comes xs ≡ true
rises_front comes [] ys h = refl
rises_front comes (x ∷ xs) ys h =
    let p = and_parts (list_all (λ y. comes x y) (xs ++ ys)) (rises comes (xs ++ ys)) h in
    let all =
    and_parts (list_all (λ y. comes x y) xs) (list_all (λ y. comes x y) ys) (sym (list_all-append (λ y. comes x y) xs ys) ∙ p.0) in
    and_from (list_all (λ y. comes x y) xs) (rises comes xs) all.0 (rises_front comes xs ys p.1)

rising_front : (n : ℕ) (xs ys : List Floor) → are_rising n (xs ++ ys) ≡ true → are_rising n xs ≡ true
rising_front n [] ys h = refl
rising_front n (f ∷ xs) ys h =
    let p = and_parts (nat_le n f.client) (are_rising (f.client + 1) (xs ++ ys)) h in
    and_from (nat_le n f.client) (are_rising (f.client + 1) xs) p.0 (rising_front (f.client + 1) xs ys p.1)

same_number : (n m : ℕ) → n ≡ m → (n == m) ≡ true
same_number n m e = grind (arith, nat_tests, e)

all_five : (p q r s t : Bool) → p ≡ true → q ≡ true → r ≡ true → s ≡ true → t ≡ true → (p && q && r && s && t) ≡ true
all_five p q r s t hp hq hr hs ht = rw (hp, hq, hr, hs, ht) refl

all_four : (p q r s : Bool) → p ≡ true → q ≡ true → r ≡ true → s ≡ true → (p && q && r && s) ≡ true
all_four p q r s hp hq hr hs = rw (hp, hq, hr, hs) refl

pub rises_left : {A : Type 0} (comes : A → A → Bool) (p : A → Bool) (xs : List A) → rises comes xs ≡ true → rises comes (filter p xs) ≡ true
rises_left comes p [] h = refl
rises_left comes p (x ∷ xs) h =
    let parts = and_parts (list_all (λ y. comes x y) xs) (rises comes xs) h in
    go (cases_Bool (p x)) (all_left (λ y. comes x y) p xs parts.0) (rises_left comes p xs parts.1)
  where
    go : (p x ≡ true) ⊎ (p x ≡ false) → list_all (λ y. comes x y) (filter p xs) ≡ true → rises comes (filter p xs) ≡ true
        → rises comes (filter p (x ∷ xs)) ≡ true
    go (inl t) first rest = rw t (and_from (list_all (λ y. comes x y) (filter p xs)) (rises comes (filter p xs)) first rest)
    go (inr t) first rest = rw t rest

-- what a part of the list leaves

abbrev pub replica_folds : ReplicaDurable → List Record → ReplicaDurable
replica_folds d rs = folded_from replica_rules d rs

pub folds_append : (d : ReplicaDurable) (rs qs : List Record) → replica_folds d (rs ++ qs) ≡ replica_folds (replica_folds d rs) qs
folds_append d [] qs = refl
folds_append d (r ∷ rs) qs = folds_append (replica_after d r) rs qs

pub with_pairs : (d : ReplicaDurable) (xs : List (List Pair)) → d.begun ≡ true
    → replica_folds d (map (λ ps. kept.Pairs ps) xs) ≡ record d {
      machine = record { map = d.machine.map ++ all_pieces xs; table = d.machine.table };
      pairs = d.pairs - length (all_pieces xs);
    }
unfolding all_pieces
with_pairs d [] begun =
    let none : d.pairs - 0 ≡ d.pairs = omega arith in
    rw (append-nil d.machine.map, none) refl
with_pairs d (x ∷ xs) begun =
    let fewer : d.pairs - length x - length (all_pieces xs) ≡ d.pairs - length (x ++ all_pieces xs) =
    omega (arith, length-append x (all_pieces xs)) in
    with_pairs (replica_after d (kept.Pairs x)) xs refl ∙ rw (append_assoc d.machine.map x (all_pieces xs), fewer, begun) refl

-- answers, client by client
unfoldable pub spread : List Answered → List Floor → List Answered
spread notes [] = []
spread notes (f ∷ fs) = map (answer_of f.client) (map note_of (filter (λ (a : Answered). a.client == f.client) notes)) ++ spread notes fs

pub with_notes : (t : Table) (d : ReplicaDurable) (fs : List Floor) → d.begun ≡ true
    → replica_folds d (map (notes_of t) fs)
    ≡ record d {
      machine = record {
        map = d.machine.map;
        table = record { floors = d.machine.table.floors ++ fs; notes = d.machine.table.notes ++ spread t.notes fs };
      };
      clients = d.clients - length fs;
    }
unfolding spread
with_notes t d [] begun =
    let none : d.clients - 0 ≡ d.clients = omega arith in
    rw (append-nil d.machine.table.floors, append-nil d.machine.table.notes, none) refl
with_notes t d (f ∷ fs) begun =
    let own = map (answer_of f.client) (map note_of (filter (λ (a : Answered). a.client == f.client) t.notes)) in
    let fewer : d.clients - 1 - length fs ≡ d.clients - suc (length fs) = omega arith in
    with_notes t (replica_after d (notes_of t f)) fs refl
    ∙ rw (append_assoc d.machine.table.floors (f ∷ []) fs, append_assoc d.machine.table.notes own (spread t.notes fs), fewer, begun) refl

pub with_tail : (d : ReplicaDurable) (xs : List (List Value)) → d.begun ≡ true
    → replica_folds d (map (λ vs. kept.Tail vs) xs) ≡ record d { log = d.log ++ all_pieces xs; values = d.values - length (all_pieces xs) }
unfolding all_pieces
with_tail d [] begun =
    let none : d.values - 0 ≡ d.values = omega arith in
    rw (append-nil d.log, none) refl
with_tail d (x ∷ xs) begun =
    let fewer : d.values - length x - length (all_pieces xs) ≡ d.values - length (x ++ all_pieces xs) =
    omega (arith, length-append x (all_pieces xs)) in
    with_tail (replica_after d (kept.Tail x)) xs refl ∙ rw (append_assoc d.log x (all_pieces xs), fewer, begun) refl

-- a list whose records fit is not refused

module _ (c : Cluster) (me : RoleId) where
  abbrev pub AllFit : ReplicaDurable → List Record → Type 0
  AllFit d [] = Unit {0}
  AllFit d (r ∷ rs) = (replica_fits c me d r ≡ true) × AllFit (replica_after d r) rs

  pub fit_append : (d : ReplicaDurable) (rs qs : List Record) → AllFit d rs → AllFit (replica_folds d rs) qs → AllFit d (rs ++ qs)
  fit_append d [] qs fits more = more
  fit_append d (r ∷ rs) qs fits more = (fits.0, fit_append (replica_after d r) rs qs fits.1 more)

  pub not_refused : (d : ReplicaDurable) (i : ℕ) (rs : List Record) → AllFit d rs → is_renewal_whole (replica_folds d rs) ≡ true
      → refused_from replica_rules c me d i rs ≡ None
  not_refused d i [] fits whole = rw whole refl
  not_refused d i (r ∷ rs) fits whole = rw fits.0 (not_refused (replica_after d r) (i + 1) rs fits.1 whole)

  pub pairs_fit : (size : ℕ) → size ≡ 255 → (fuel : ℕ) (d : ReplicaDurable) (xs : List Pair) → length xs ≤ fuel → d.pairs ≡ length xs
      → rises key_before (d.machine.map ++ xs) ≡ true → AllFit d (map (λ ps. kept.Pairs ps) (pieces_of fuel size xs))
  unfolding pieces_of
  pairs_fit size is zero d [] few count rise = tt
  pairs_fit size is zero d (x ∷ xs) few count rise = absurd (omega arith)
  pairs_fit size is (suc fuel) d [] few count rise = tt
  pairs_fit size is (suc fuel) d (x ∷ xs) few count rise =
      let front = take size (x ∷ xs) in
      let behind = drop size (x ∷ xs) in
      let all : (d.machine.map ++ front) ++ behind ≡ d.machine.map ++ x ∷ xs
      = append_assoc d.machine.map front behind ∙ ap (λ l. d.machine.map ++ l) (take-append-drop size (x ∷ xs)) in
      let risen : rises key_before ((d.machine.map ++ front) ++ behind) ≡ true = ap (λ l. rises key_before l) all ∙ rise in
      let sum : length front + length behind ≡ suc (length xs) =
      sym (length-append front behind) ∙ ap (λ l. length l) (take-append-drop size (x ∷ xs)) in
      let filled : (length front == min size d.pairs) ≡ true
      = same_number (length front) (min size d.pairs) (length-take size (x ∷ xs) ∙ ap (λ n. min size n) (sym count)) in
      let few_behind : length behind ≤ fuel = omega (arith, length-drop size (x ∷ xs), is) in
      let left : d.pairs - length front ≡ length behind = omega (arith, sum, count) in (
        and_from (length front == min 255 d.pairs) (rises key_before (d.machine.map ++ front))
            (subst (λ n. (length front == min n d.pairs) ≡ true) is filled) (rises_front key_before (d.machine.map ++ front) behind risen),
        pairs_fit size is fuel (replica_after d (kept.Pairs front)) behind few_behind left risen,
      )

  pub notes_fit : (t : Table) (d : ReplicaDurable) (fs : List Floor) → d.pairs ≡ 0 → d.clients ≡ length fs
      → list_all (λ (f : Floor). nat_lt f.client c.clients) fs ≡ true → are_rising 0 (d.machine.table.floors ++ fs) ≡ true
      → list_all (λ (f : Floor). are_client_notes f.floor (map note_of (filter (λ (a : Answered). a.client == f.client) t.notes))) fs ≡ true
      → AllFit d (map (notes_of t) fs)
  notes_fit t d [] none count named rise above = tt
  notes_fit t d (f ∷ fs) none count named rise above =
      let floors = d.machine.table.floors in
      let notes = map note_of (filter (λ (a : Answered). a.client == f.client) t.notes) in
      let n = and_parts (nat_lt f.client c.clients) (list_all (λ (g : Floor). nat_lt g.client c.clients) fs) named in
      let a = and_parts (are_client_notes f.floor notes)
      (list_all (λ (g : Floor). are_client_notes g.floor (map note_of (filter (λ (x : Answered). x.client == g.client) t.notes)))
      fs) above in
      let all : (floors ++ f ∷ []) ++ fs ≡ floors ++ f ∷ fs = append_assoc floors (f ∷ []) fs in
      let risen : are_rising 0 ((floors ++ f ∷ []) ++ fs) ≡ true = ap (λ l. are_rising 0 l) all ∙ rise in
      let some : nat_lt 0 d.clients ≡ true = grind (arith, nat_tests, count) in
      let left : d.clients - 1 ≡ length fs = omega (arith, count) in (
        all_five (d.pairs == 0) (nat_lt 0 d.clients) (nat_lt f.client c.clients) (are_rising 0 (floors ++ f ∷ []))
            (are_client_notes f.floor notes) (same_number d.pairs 0 none) some n.0 (rising_front 0 (floors ++ f ∷ []) fs risen) a.0,
        notes_fit t (replica_after d (notes_of t f)) fs none left n.1 risen a.1,
      )

  pub tail_fits : (size : ℕ) → size ≡ 32 → (fuel : ℕ) (d : ReplicaDurable) (xs : List Value) → length xs ≤ fuel → d.pairs ≡ 0
      → d.clients ≡ 0
      → d.values ≡ length xs → list_all (λ (v : Value). names_value c v) xs ≡ true
      → AllFit d (map (λ vs. kept.Tail vs) (pieces_of fuel size xs))
  unfolding pieces_of
  tail_fits size is zero d [] few none nobody count named = tt
  tail_fits size is zero d (x ∷ xs) few none nobody count named = absurd (omega arith)
  tail_fits size is (suc fuel) d [] few none nobody count named = tt
  tail_fits size is (suc fuel) d (x ∷ xs) few none nobody count named =
      let front = take size (x ∷ xs) in
      let behind = drop size (x ∷ xs) in
      let sum : length front + length behind ≡ suc (length xs) =
      sym (length-append front behind) ∙ ap (λ l. length l) (take-append-drop size (x ∷ xs)) in
      let filled : (length front == min size d.values) ≡ true
      = same_number (length front) (min size d.values) (length-take size (x ∷ xs) ∙ ap (λ n. min size n) (sym count)) in
      let few_behind : length behind ≤ fuel = omega (arith, length-drop size (x ∷ xs), is) in
      let left : d.values - length front ≡ length behind = omega (arith, sum, count) in
      let parts = all_parts (λ (v : Value). names_value c v) size (x ∷ xs) named in (
        all_four (d.pairs == 0) (d.clients == 0) (list_all (λ (v : Value). names_value c v) front) (length front == min 32 d.values)
            (same_number d.pairs 0 none) (same_number d.clients 0 nobody) parts.0
            (subst (λ n. (length front == min n d.values) ≡ true) is filled),
        tail_fits size is fuel (replica_after d (kept.Tail front)) behind few_behind none nobody left parts.1,
      )
