-- The answers of an ordered client table are those of its clients, one client after another.
use Rattle.std.specs.Prelude.{◌≡◌, ℕ, ◌+◌, ◌-◌, ◌==◌, ◌⊎◌, Bool, true, false, not, nat_le, nat_lt, map, filter, List, [], ◌∷◌, ◌++◌, Option}
use Rattle.std.specs.Prelude.{Some, refl}
use Rattle.std.proofs.Common.{ap, sym, ◌∙◌, subst, inl, inr, arith}
use Rattle.std.proofs.lemmas.Bool.{and_from, and_parts, cases_Bool, eqb-true}
use Rattle.std.proofs.lemmas.Bool.Decides.{nat_tests}
use Rattle.cx_letter.specs.Prelude.{list_all, Answered, Floor, Note, floor_fits, rises, are_rising, comes_before, floor_of}
use Rattle.cx_model.specs.Replica.{answer_of, are_client_notes, note_of}
use Rattle.cx_model.specs.Renewed.{is_over, fits_told, is_above_client_floor, is_near, rises_left, spread}

-- an ordered table's answers are those of its clients, one client after another

abbrev of_client : ℕ → List Answered → List Answered
of_client client notes = filter (λ (a : Answered). a.client == client) notes

abbrev of_others : ℕ → List Answered → List Answered
of_others client notes = filter (λ (a : Answered). not (a.client == client)) notes

abbrev all_near : List Floor → List Answered → Bool
all_near floors notes = list_all (λ (a : Answered). is_near floors a) notes

abbrev all_told : List Floor → List Answered → Bool
all_told floors notes = list_all (λ (a : Answered). is_above_client_floor floors a) notes

pub notes_by_client : List Answered → List Floor → List Answered
notes_by_client notes [] = []
notes_by_client notes (f ∷ fs) = of_client f.client notes ++ notes_by_client notes fs

given_back : (k : ℕ) (ns : List Answered) → map (answer_of k) (map note_of (of_client k ns)) ≡ of_client k ns
given_back k [] = refl
given_back k (a ∷ ns) = go (cases_Bool (a.client == k)) (given_back k ns)
  where
    go : ((a.client == k) ≡ true) ⊎ ((a.client == k) ≡ false) → map (answer_of k) (map note_of (of_client k ns)) ≡ of_client k ns
        → map (answer_of k) (map note_of (of_client k (a ∷ ns))) ≡ of_client k (a ∷ ns)
    go (inl t) rest =
        let own : answer_of k (note_of a) ≡ a = subst (λ (x : ℕ). answer_of x (note_of a) ≡ a) (eqb-true a.client k t) refl in
        rw t (ap (λ (x : Answered). x ∷ map (answer_of k) (map note_of (of_client k ns))) own ∙ ap (λ (l : List Answered). a ∷ l) rest)
    go (inr t) rest = rw t rest

pub spread_is : (ns : List Answered) (fs : List Floor) → spread ns fs ≡ notes_by_client ns fs
unfolding spread notes_by_client
spread_is ns [] = refl
spread_is ns (f ∷ fs) = ap (λ (l : List Answered). l ++ spread ns fs) (given_back f.client ns)
    ∙ ap (λ (l : List Answered). of_client f.client ns ++ l) (spread_is ns fs)

-- the answers of one client and of all others, where no client comes before it

none_of : (k : ℕ) (ns : List Answered) → list_all (λ (a : Answered). not (a.client == k)) ns ≡ true → of_client k ns ++ of_others k ns ≡ ns
none_of k [] all = refl
none_of k (a ∷ ns) all =
    let p = and_parts (not (a.client == k)) (list_all (λ (b : Answered). not (b.client == k)) ns) all in
    let other : (a.client == k) ≡ false = grind (arith, nat_tests, p.0) in
    go other (none_of k ns p.1)
  where
    none_own : (bs : List Answered) → list_all (λ (b : Answered). not (b.client == k)) bs ≡ true → of_client k bs ≡ []
    none_own [] h = refl
    none_own (b ∷ bs) h =
        let p = and_parts (not (b.client == k)) (list_all (λ (x : Answered). not (x.client == k)) bs) h in
        let other : (b.client == k) ≡ false = grind (arith, nat_tests, p.0) in
        rw other (none_own bs p.1)

    go : (a.client == k) ≡ false → of_client k ns ++ of_others k ns ≡ ns → of_client k (a ∷ ns) ++ of_others k (a ∷ ns) ≡ a ∷ ns
    go other rest =
        let nobody : of_client k ns ≡ [] =
        none_own ns (and_parts (not (a.client == k)) (list_all (λ (b : Answered). not (b.client == k)) ns) all).1 in
        let all_of_them : of_others k ns ≡ ns = ap (λ (l : List Answered). l ++ of_others k ns) (sym nobody) ∙ rest in
        rw (other, nobody) (ap (λ (l : List Answered). a ∷ l) all_of_them)

later_others : (k : ℕ) (a : Answered) (ns : List Answered) → nat_lt k a.client ≡ true
    → list_all (λ (b : Answered). comes_before a b) ns ≡ true → list_all (λ (b : Answered). not (b.client == k)) ns ≡ true
later_others k a [] later all = refl
later_others k a (b ∷ ns) later all =
    let p = and_parts (comes_before a b) (list_all (λ (x : Answered). comes_before a x) ns) all in
    and_from (not (b.client == k)) (list_all (λ (x : Answered). not (x.client == k)) ns) (apart k a b later p.0)
    (later_others k a ns later p.1)
  where
    apart : (k : ℕ) (a b : Answered) → nat_lt k a.client ≡ true → comes_before a b ≡ true → not (b.client == k) ≡ true
    apart k a b h g = grind (arith, nat_tests, h, g)

own_first : (k : ℕ) (ns : List Answered) → rises comes_before ns ≡ true → list_all (λ (a : Answered). nat_le k a.client) ns ≡ true
    → of_client k ns ++ of_others k ns ≡ ns
own_first k [] rise least = refl
own_first k (a ∷ ns) rise least =
    let r = and_parts (list_all (λ (b : Answered). comes_before a b) ns) (rises comes_before ns) rise in
    let l = and_parts (nat_le k a.client) (list_all (λ (b : Answered). nat_le k b.client) ns) least in
    go (cases_Bool (a.client == k)) r.0 l.0 (own_first k ns r.1 l.1)
  where
    go : ((a.client == k) ≡ true) ⊎ ((a.client == k) ≡ false) → list_all (λ (b : Answered). comes_before a b) ns ≡ true
        → nat_le k a.client ≡ true → of_client k ns ++ of_others k ns ≡ ns → of_client k (a ∷ ns) ++ of_others k (a ∷ ns) ≡ a ∷ ns
    go (inl t) all above rest = rw t (ap (λ (l : List Answered). a ∷ l) rest)
    go (inr t) all above rest =
        let later : nat_lt k a.client ≡ true = grind (arith, nat_tests, t, above) in
        let other : not (a.client == k) ≡ true = rw t refl in
        none_of k (a ∷ ns)
        (and_from (not (a.client == k)) (list_all (λ (b : Answered). not (b.client == k)) ns) other (later_others k a ns later all))

-- answers of others are not those of a client

of_other : (k m : ℕ) (ns : List Answered) → (m == k) ≡ false → of_client m (of_others k ns) ≡ of_client m ns
of_other k m [] apart = refl
of_other k m (a ∷ ns) apart = go (cases_Bool (a.client == k)) (cases_Bool (a.client == m)) (of_other k m ns apart)
  where
    go : ((a.client == k) ≡ true) ⊎ ((a.client == k) ≡ false) → ((a.client == m) ≡ true) ⊎ ((a.client == m) ≡ false)
        → of_client m (of_others k ns) ≡ of_client m ns → of_client m (of_others k (a ∷ ns)) ≡ of_client m (a ∷ ns)
    go (inl t) s rest = (let other : (a.client == m) ≡ false = grind (arith, nat_tests, t, apart) in rw (t, other) rest)
    go (inr t) (inl s) rest = rw (t, s) (ap (λ (l : List Answered). a ∷ l) rest)
    go (inr t) (inr s) rest = rw (t, s) rest

of_others_by_client : (k n : ℕ) (ns : List Answered) (fs : List Floor) → nat_lt k n ≡ true → are_rising n fs ≡ true
    → notes_by_client (of_others k ns) fs ≡ notes_by_client ns fs
unfolding notes_by_client
of_others_by_client k n ns [] below rise = refl
of_others_by_client k n ns (f ∷ fs) below rise =
    let p = and_parts (nat_le n f.client) (are_rising (f.client + 1) fs) rise in
    let least = p.0 in
    let apart : (f.client == k) ≡ false = grind (arith, nat_tests, below, least) in
    let next : nat_lt k (f.client + 1) ≡ true = grind (arith, nat_tests, below, least) in
    ap (λ (l : List Answered). l ++ notes_by_client (of_others k ns) fs) (of_other k f.client ns apart)
    ∙ ap (λ (l : List Answered). of_client f.client ns ++ l) (of_others_by_client k (f.client + 1) ns fs next p.1)

-- a client that told a floor is one of theirs
told_least : (n : ℕ) (fs : List Floor) (client seq : ℕ) → are_rising n fs ≡ true → is_over seq (floor_of client fs) ≡ true
    → nat_le n client ≡ true
told_least n [] client seq rise told = cc
told_least n (f ∷ fs) client seq rise told =
    let p = and_parts (nat_le n f.client) (are_rising (f.client + 1) fs) rise in
    go (cases_Bool (f.client == client)) p.0 told (told_least (f.client + 1) fs client seq p.1)
  where
    go : ((f.client == client) ≡ true) ⊎ ((f.client == client) ≡ false) → nat_le n f.client ≡ true → is_over seq (floor_of client (f ∷ fs))
        ≡ true → (is_over seq (floor_of client fs) ≡ true → nat_le (f.client + 1) client ≡ true) → nat_le n client ≡ true
    go (inl t) least told rest = grind (arith, nat_tests, t, least)
    go (inr t) least told rest =
        let later : nat_le (f.client + 1) client ≡ true = rest (rw t at told) in
        grind (arith, nat_tests, later, least)

all_least : (n : ℕ) (fs : List Floor) (ns : List Answered) → are_rising n fs ≡ true → all_told fs ns ≡ true
    → list_all (λ (a : Answered). nat_le n a.client) ns ≡ true
all_least n fs [] rise told = refl
all_least n fs (a ∷ ns) rise told =
    let p = and_parts (is_over a.seq (floor_of a.client fs)) (all_told fs ns) told in
    and_from (nat_le n a.client) (list_all (λ (b : Answered). nat_le n b.client) ns) (told_least n fs a.client a.seq rise p.0)
    (all_least n fs ns rise p.1)

others_told : (f : Floor) (fs : List Floor) (ns : List Answered) → all_told (f ∷ fs) ns ≡ true → all_told fs (of_others f.client ns) ≡ true
others_told f fs [] told = refl
others_told f fs (a ∷ ns) told =
    let p = and_parts (is_over a.seq (floor_of a.client (f ∷ fs))) (all_told (f ∷ fs) ns) told in
    go (cases_Bool (a.client == f.client)) p.0 (others_told f fs ns p.1)
  where
    go : ((a.client == f.client) ≡ true) ⊎ ((a.client == f.client) ≡ false) → is_over a.seq (floor_of a.client (f ∷ fs)) ≡ true
        → all_told fs (of_others f.client ns) ≡ true → all_told fs (of_others f.client (a ∷ ns)) ≡ true
    go (inl t) first rest = rw t rest
    go (inr t) first rest =
        let turned : (f.client == a.client) ≡ false = grind (arith, nat_tests, t) in
        let own : is_over a.seq (floor_of a.client fs) ≡ true = rw turned at first in
        rw t (and_from (is_over a.seq (floor_of a.client fs)) (all_told fs (of_others f.client ns)) own rest)

pub all_by_client : (n : ℕ) (fs : List Floor) (ns : List Answered) → are_rising n fs ≡ true → rises comes_before ns ≡ true
    → all_told fs ns ≡ true → notes_by_client ns fs ≡ ns
unfolding notes_by_client
all_by_client n [] [] rise order told = refl
all_by_client n [] (a ∷ ns) rise order told = cc
all_by_client n (f ∷ fs) ns rise order told =
    let p = and_parts (nat_le n f.client) (are_rising (f.client + 1) fs) rise in
    let below : nat_lt f.client (f.client + 1) ≡ true = grind (arith, nat_tests) in
    let itself : nat_le f.client f.client ≡ true = grind (arith, nat_tests) in
    let least = all_least f.client (f ∷ fs) ns (and_from (nat_le f.client f.client) (are_rising (f.client + 1) fs) itself p.1) told in
    let rest = all_by_client (f.client + 1) fs (of_others f.client ns) p.1
    (rises_left comes_before (λ (a : Answered). not (a.client == f.client)) ns order) (others_told f fs ns told) in
    ap (λ (l : List Answered). of_client f.client ns ++ l) (sym (of_others_by_client f.client (f.client + 1) ns fs below p.1) ∙ rest)
    ∙ own_first f.client ns order least

-- each client's notes are above its floor, and rise

noted_above : (k floor : ℕ) (fs : List Floor) (ns : List Answered) → floor_of k fs ≡ Some floor → all_near fs ns ≡ true
    → list_all (λ (n : Note). floor_fits n.seq floor) (map note_of (of_client k ns)) ≡ true
noted_above k floor fs [] found told = refl
noted_above k floor fs (a ∷ ns) found told =
    let p = and_parts (fits_told a.seq (floor_of a.client fs)) (all_near fs ns) told in
    go (cases_Bool (a.client == k)) p.0 (noted_above k floor fs ns found p.1)
  where
    go : ((a.client == k) ≡ true) ⊎ ((a.client == k) ≡ false) → fits_told a.seq (floor_of a.client fs) ≡ true
        → list_all (λ (n : Note). floor_fits n.seq floor) (map note_of (of_client k ns)) ≡ true
        → list_all (λ (n : Note). floor_fits n.seq floor) (map note_of (of_client k (a ∷ ns))) ≡ true
    go (inl t) first rest =
        let own : floor_of a.client fs ≡ Some floor = ap (λ (x : ℕ). floor_of x fs) (eqb-true a.client k t) ∙ found in
        let fits : floor_fits a.seq floor ≡ true = subst (λ (o : Option ℕ). fits_told a.seq o ≡ true) own first in
        rw t (and_from (floor_fits a.seq floor) (list_all (λ (n : Note). floor_fits n.seq floor) (map note_of (of_client k ns))) fits rest)
    go (inr t) first rest = rw t rest

noted_rise : (k : ℕ) (ns : List Answered) → rises comes_before ns ≡ true
    → rises (λ (n : Note) (later : Note). nat_lt n.seq later.seq) (map note_of (of_client k ns)) ≡ true
noted_rise k [] order = refl
noted_rise k (a ∷ ns) order =
    let p = and_parts (list_all (λ (b : Answered). comes_before a b) ns) (rises comes_before ns) order in
    go (cases_Bool (a.client == k)) p.0 (noted_rise k ns p.1)
  where
    by_number : (b : Answered) → (a.client == k) ≡ true → (b.client == k) ≡ true → comes_before a b ≡ true → nat_lt a.seq b.seq ≡ true
    by_number b s t h = grind (arith, nat_tests, s, t, h)

    all_lower : (bs : List Answered) → (a.client == k) ≡ true → list_all (λ (b : Answered). comes_before a b) bs ≡ true
        → list_all (λ (later : Note). nat_lt a.seq later.seq) (map note_of (of_client k bs)) ≡ true
    all_lower [] s h = refl
    all_lower (b ∷ bs) s h =
        let q = and_parts (comes_before a b) (list_all (λ (x : Answered). comes_before a x) bs) h in
        one (cases_Bool (b.client == k)) q.0 (all_lower bs s q.1)
      where
        one : ((b.client == k) ≡ true) ⊎ ((b.client == k) ≡ false) → comes_before a b ≡ true
            → list_all (λ (later : Note). nat_lt a.seq later.seq) (map note_of (of_client k bs)) ≡ true
            → list_all (λ (later : Note). nat_lt a.seq later.seq) (map note_of (of_client k (b ∷ bs))) ≡ true
        one (inl t) h rest = rw t (and_from (nat_lt a.seq b.seq)
            (list_all (λ (later : Note). nat_lt a.seq later.seq) (map note_of (of_client k bs))) (by_number b s t h) rest)
        one (inr t) h rest = rw t rest

    go : ((a.client == k) ≡ true) ⊎ ((a.client == k) ≡ false) → list_all (λ (b : Answered). comes_before a b) ns ≡ true
        → rises (λ (n : Note) (later : Note). nat_lt n.seq later.seq) (map note_of (of_client k ns)) ≡ true
        → rises (λ (n : Note) (later : Note). nat_lt n.seq later.seq) (map note_of (of_client k (a ∷ ns))) ≡ true
    go (inl t) all rest =
        rw t (and_from (list_all (λ (later : Note). nat_lt a.seq later.seq) (map note_of (of_client k ns)))
        (rises (λ (n : Note) (later : Note). nat_lt n.seq later.seq) (map note_of (of_client k ns))) (all_lower ns t all) rest)
    go (inr t) all rest = rw t rest

pub all_above : (n : ℕ) (all fs : List Floor) (ns : List Answered) → are_rising n fs ≡ true
    → ((k : ℕ) → nat_le n k ≡ true → floor_of k all ≡ floor_of k fs) → rises comes_before ns ≡ true → all_near all ns ≡ true
    → list_all (λ (f : Floor). are_client_notes f.floor (map note_of (of_client f.client ns))) fs ≡ true
all_above n all [] ns rise found order told = refl
all_above n all (f ∷ fs) ns rise found order told =
    let p = and_parts (nat_le n f.client) (are_rising (f.client + 1) fs) rise in
    let itself : (f.client == f.client) ≡ true = grind (arith, nat_tests) in
    let here : floor_of f.client (f ∷ fs) ≡ Some f.floor = rw itself refl in
    let notes = map note_of (of_client f.client ns) in
    let own : are_client_notes f.floor notes ≡ true
    = and_from (rises (λ (n : Note) (later : Note). nat_lt n.seq later.seq) notes) (list_all (λ (n : Note). floor_fits n.seq f.floor) notes)
    (noted_rise f.client ns order) (noted_above f.client f.floor all ns (found f.client p.0 ∙ here) told) in
    and_from (are_client_notes f.floor notes) (list_all (λ (g : Floor). are_client_notes g.floor (map note_of (of_client g.client ns))) fs)
    own (all_above (f.client + 1) all fs ns p.1 (λ k above. later k above p.0) order told)
  where
    later : (k : ℕ) → nat_le (f.client + 1) k ≡ true → nat_le n f.client ≡ true → floor_of k all ≡ floor_of k fs
    later k above least =
        let apart : (f.client == k) ≡ false = grind (arith, nat_tests, above) in
        let from_n : nat_le n k ≡ true = grind (arith, nat_tests, above, least) in
        found k from_n ∙ rw apart refl
