-- What the matchmakers that have stopped had, one entry after the other.
use Rattle.std.specs.List.{insert}
use Rattle.cx_role.proofs.Common.{◌≡◌, ◌≤◌, ◌&&◌, ℕ, Bool, true, false, filter, List, [], ◌∷◌, ◌++◌, length, refl, ap, sym, ◌∙◌, list_all}
use Rattle.cx_role.proofs.Common.{arith, nat_tests, and_from, and_parts, by_test, either_way, list_all-append, filter-append, is_before}
use Rattle.cx_role.proofs.Common.{same_round, no_round, Entry, Round, entries_told, greatest_watermark, live_entries, slice_get}
use Rattle.cx_role.proofs.Common.{option_map_or, append-nil, common_steps, entries_since, sorted_into}
use Rattle.cx_wire.specs.Format.{u16, u32}
use Rattle.cx_field.specs.Fields.{entries, joined, round0}
use Rattle.cx_field.specs.Ranges.{entry_in_range, rounds_rise}
use Rattle.cx_field.proofs.ListLaws.{entries_apart, joined_fit}
use Rattle.cx_model.specs.declared.states.Halt.{Halt}
use Rattle.cx_model.specs.Replacer.{answers_of, joined_entries as joined_of, with_entry}
use Rattle.cx_replace.specs.Joining.{earlier}
use Rattle.cx_replace.specs.State.{halt_fits}

-- whether an entry's round is before that of a later one
abbrev comes : Entry → Entry → Bool
comes e later = is_before e.round later.round

-- ---- one entry more, at its place

-- whether the entry at this place is of this round
abbrev pub is_at : List Entry → ℕ → Round → Bool
is_at es place i = option_map_or (λ (e : Entry). same_round i e.round) (slice_get es place) false

-- a round that is before another is not after it, nor the same
not_after : (a b : Round) → is_before a b ≡ true → (is_before b a ≡ false) × (same_round b a ≡ false)
not_after a b h = (grind (arith, nat_tests), grind (arith, nat_tests))

-- of two rounds that aren't the same, where the second isn't before the first, the first is before the second
ahead : (a b : Round) → is_before b a ≡ false → same_round a b ≡ false → is_before a b ≡ true
ahead a b before same = grind (arith, nat_tests)

-- the same round is not before
same_not_before : (a b : Round) → same_round a b ≡ true → is_before a b ≡ false
same_not_before a b same = grind (arith, nat_tests)

abbrev NewAt : Entry → List Entry → Type 0
NewAt e es = is_at es (earlier e.round es) e.round ≡ false → insert es (earlier e.round es) e ≡ with_entry e es

new_step : (e x : Entry) (xs : List Entry) (b : Bool) → is_before x.round e.round ≡ b → NewAt e xs → NewAt e (x ∷ xs)
new_step e x xs true before rest new =
    let new_on : is_at xs (earlier e.round xs) e.round ≡ false = rw before at new in
    let n = not_after x.round e.round before in
    rw (before, n.0, n.1) (ap (λ ys. x ∷ ys) (rest new_on))
new_step e x xs false before rest new =
    let other : same_round e.round x.round ≡ false = rw before at new in
    let below = ahead e.round x.round before other in
    rw (before, below) refl

-- where nothing of its round is at its place, it is put there
pub put_new : (e : Entry) (es : List Entry) → is_at es (earlier e.round es) e.round ≡ false
    → insert es (earlier e.round es) e ≡ with_entry e es
put_new e [] new = refl
put_new e (x ∷ xs) new = new_step e x xs _ refl (put_new e xs) new

abbrev SameAt : Entry → List Entry → Type 0
SameAt e es = is_at es (earlier e.round es) e.round ≡ true → es ≡ with_entry e es

same_step : (e x : Entry) (xs : List Entry) (b : Bool) → is_before x.round e.round ≡ b → SameAt e xs → SameAt e (x ∷ xs)
same_step e x xs true before rest same =
    let same_on : is_at xs (earlier e.round xs) e.round ≡ true = rw before at same in
    let n = not_after x.round e.round before in
    rw (n.0, n.1) (ap (λ ys. x ∷ ys) (rest same_on))
same_step e x xs false before rest same =
    let is : same_round e.round x.round ≡ true = rw before at same in
    rw (same_not_before e.round x.round is, is) refl

-- where an entry of its round is at its place, all stays
pub put_same : (e : Entry) (es : List Entry) → is_at es (earlier e.round es) e.round ≡ true → es ≡ with_entry e es
put_same e [] same = cc
put_same e (x ∷ xs) same = same_step e x xs _ refl (put_same e xs) same

-- ---- several entries

sorted-append : (xs es more : List Entry) → sorted_into xs (es ++ more) ≡ sorted_into (sorted_into xs es) more
sorted-append xs [] more = refl
sorted-append xs (e ∷ es) more = sorted-append (with_entry e xs) es more

-- the entries of one answer, then those of the rest
pub joined_on : (w : Round) (xs : List Entry) (h : Halt) (rest : List Halt)
    → sorted_into (sorted_into xs (entries_since w h.answer.entries)) (entries_since w (entries_told (answers_of rest)))
    ≡ sorted_into xs (entries_since w (entries_told (answers_of (h ∷ rest))))
joined_on w xs h rest =
    sym (ap (sorted_into xs) (filter-append _ h.answer.entries (entries_told (answers_of rest)))
    ∙ sorted-append xs (entries_since w h.answer.entries) (entries_since w (entries_told (answers_of rest))))

-- and of the last one
pub joined_last : (w : Round) (xs : List Entry) (h : Halt)
    → sorted_into xs (entries_since w h.answer.entries) ≡ sorted_into xs (entries_since w (entries_told (answers_of (h ∷ []))))
joined_last w xs h = ap (λ es. sorted_into xs (entries_since w es)) (sym (append-nil h.answer.entries))

pub ruleset more_told = (common_steps, joined_on, joined_last)

-- ---- the ranges of what is joined

before_trans : (a b c : Round) → is_before a b ≡ true → is_before b c ≡ true → is_before a c ≡ true
before_trans a b c h k = grind (arith, nat_tests)

-- what comes before an entry comes before those that the entry comes before
comes_all : (e x : Entry) (xs : List Entry) → comes e x ≡ true → list_all (comes x) xs ≡ true → list_all (comes e) xs ≡ true
comes_all e x [] h k = refl
comes_all e x (y ∷ ys) h k =
    let p = and_parts (comes x y) (list_all (comes x) ys) k in
    and_from (comes e y) (list_all (comes e) ys) (before_trans e.round x.round y.round h p.0) (comes_all e x ys h p.1)

-- a test that all pass, with one entry more
with_entry_all : (q : Entry → Bool) (e : Entry) (es : List Entry) → q e ≡ true → list_all q es ≡ true → list_all q (with_entry e es) ≡ true
with_entry_all q e [] h k = and_from (q e) true h refl
with_entry_all q e (x ∷ xs) h k =
    let All = λ (ys : List Entry). list_all q ys ≡ true in
    let p = and_parts (q x) (list_all q xs) k in
    by_test All (is_before e.round x.round) _ _ (λ _. and_from (q e) (list_all q (x ∷ xs)) h k) (λ _.
    by_test All (same_round e.round x.round) _ _ (λ _. k) (λ _.
    and_from (q x) (list_all q (with_entry e xs)) p.0 (with_entry_all q e xs h p.1)))

with_entry_rises : (e : Entry) (es : List Entry) → rounds_rise es ≡ true → rounds_rise (with_entry e es) ≡ true
with_entry_rises e [] r = refl
with_entry_rises e (x ∷ xs) r =
    let Rise = λ (ys : List Entry). rounds_rise ys ≡ true in
    let p = and_parts (list_all (comes x) xs) (rounds_rise xs) r in
    by_test Rise (is_before e.round x.round) _ _ (λ below. and_from (list_all (comes e) (x ∷ xs)) (rounds_rise (x ∷ xs))
    (and_from (comes e x) (list_all (comes e) xs) below (comes_all e x xs below p.0)) r) (λ high.
    by_test Rise (same_round e.round x.round) _ _ (λ _. r) (λ other.
    and_from (list_all (comes x) (with_entry e xs)) (rounds_rise (with_entry e xs))
    (with_entry_all (comes x) e xs (behind e.round x.round high other) p.0) (with_entry_rises e xs p.1)))
  where
    behind : (a b : Round) → is_before a b ≡ false → same_round a b ≡ false → is_before b a ≡ true
    behind a b before same = grind (arith, nat_tests)

abbrev are_in_range : List Entry → Bool
are_in_range es = list_all (λ (e : Entry). entry_in_range e) es

sorted_range : (xs es : List Entry) → are_in_range xs ≡ true → are_in_range es ≡ true → are_in_range (sorted_into xs es) ≡ true
sorted_range xs [] h k = h
sorted_range xs (e ∷ es) h k =
    let p = and_parts (entry_in_range e) (are_in_range es) k in
    sorted_range (with_entry e xs) es (with_entry_all (λ (x : Entry). entry_in_range x) e xs p.0 h) p.1

sorted_rises : (xs es : List Entry) → rounds_rise xs ≡ true → rounds_rise (sorted_into xs es) ≡ true
sorted_rises xs [] r = r
sorted_rises xs (e ∷ es) r = sorted_rises (with_entry e xs) es (with_entry_rises e xs r)

told_range : (halts : List Halt) → list_all (λ (h : Halt). halt_fits h) halts ≡ true → are_in_range (entries_told (answers_of halts)) ≡ true
told_range [] h = refl
told_range (x ∷ halts) h =
    let p = and_parts (halt_fits x) (list_all (λ (h : Halt). halt_fits h) halts) h in
    let q = and_parts (round0.fits x.answer.watermark) (entries.fits x.answer.entries) p.0 in
    list_all-append (λ (e : Entry). entry_in_range e) x.answer.entries (entries_told (answers_of halts))
    ∙ and_from (are_in_range x.answer.entries) (are_in_range (entries_told (answers_of halts))) (entries_apart x.answer.entries q.1).1
    (told_range halts p.1)

filter_range : (p : Entry → Bool) (es : List Entry) → are_in_range es ≡ true → are_in_range (filter p es) ≡ true
filter_range p [] h = refl
filter_range p (e ∷ es) h =
    let a = and_parts (entry_in_range e) (are_in_range es) h in
    either_way (λ (xs : List Entry). are_in_range xs ≡ true) (p e) (e ∷ filter p es) (filter p es)
    (and_from (entry_in_range e) (are_in_range (filter p es)) a.0 (filter_range p es a.1)) (filter_range p es a.1)

-- what some matchmakers had together, where a matchmaker may begin with it
pub joined_fits : (halts : List Halt) → list_all (λ (h : Halt). halt_fits h) halts ≡ true → length (joined_of halts) ≤ 254
    → joined.fits (joined_of halts) ≡ true
joined_fits halts told few =
    let live = live_entries (answers_of halts) in
    joined_fit (joined_of halts) few
    (sorted_range [] live refl (filter_range _ (entries_told (answers_of halts)) (told_range halts told)))
    (sorted_rises [] live refl)

pub none_fits : round0.fits no_round ≡ true
unfolding round0 u16 u32
none_fits = refl

-- and their greatest watermark
pub water_fits : (halts : List Halt) → list_all (λ (h : Halt). halt_fits h) halts ≡ true
    → round0.fits (greatest_watermark (answers_of halts)) ≡ true
water_fits [] told = none_fits
water_fits (x ∷ halts) told =
    let p = and_parts (halt_fits x) (list_all (λ (h : Halt). halt_fits h) halts) told in
    let q = and_parts (round0.fits x.answer.watermark) (entries.fits x.answer.entries) p.0 in
    either_way (λ (w : Round). round0.fits w ≡ true) (is_before x.answer.watermark (greatest_watermark (answers_of halts))) _ _
    (water_fits halts p.1) q.0

-- one more answer
pub told_more : (halts : List Halt) (h : Halt) → list_all (λ (x : Halt). halt_fits x) halts ≡ true → halt_fits h ≡ true
    → list_all (λ (x : Halt). halt_fits x) (halts ++ h ∷ []) ≡ true
told_more halts h told fit =
    list_all-append (λ (x : Halt). halt_fits x) halts (h ∷ [])
    ∙ and_from (list_all (λ (x : Halt). halt_fits x) halts) (halt_fits h && true) told (and_from (halt_fits h) true fit refl)

pub ruleset joins = (joined_fits, water_fits, told_more)
