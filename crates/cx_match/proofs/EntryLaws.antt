-- Entries in rising order.
use Rattle.cx_role.proofs.Common.{◌≡◌, ◌≤◌, ◌<◌, ◌+◌, not, Bool, true, false, filter, List, [], ◌∷◌, length, refl, list_all, list_any}
use Rattle.cx_role.proofs.Common.{arith, nat_tests, Cluster, Round, Shape, is_before, same_round, Entry, by_test, entries_since, has_round}
use Rattle.cx_field.proofs.ListLaws.{entries_filter, entries_apart, entries_cons}
use Rattle.cx_field.specs.Fields.{round, entries}
use Rattle.cx_field.specs.Ranges.{entry_in_range}
use Rattle.cx_model.specs.Matchmaker.{entry, greatest, has_place, with_own}

-- entries that a datagram may have are at most 255
pub at_most_255 : (es : List Entry) → entries.fits es ≡ true → length es ≤ 255
at_most_255 es h = (entries_apart es h).0

-- a round that is neither before another nor the same is after it
pub behind : (a b : Round) → is_before a b ≡ false → same_round a b ≡ false → is_before b a ≡ true
behind a b before same = grind (arith, nat_tests)

abbrev are_above : Round → List Entry → Bool
are_above i es = list_all (λ (e : Entry). is_before i e.round) es

-- of entries from a round on, none of that round, all are above it
above_from : (i : Round) (es : List Entry) → has_round i (entries_since i es) ≡ false
    → are_above i (entries_since i es) ≡ true
above_from i [] none = refl
above_from i (e ∷ es) none = grind (arith, nat_tests, above_from i es)

-- a retiring round's own entry goes before the others, which leave room for it
pub with_own_fits : (i : Round) (g : Shape) (es : List Entry) → entries.fits es ≡ true
    → length (entries_since i es) ≤ 254 → entry_in_range (entry i g) ≡ true
    → entries.fits (with_own i g (entries_since i es)) ≡ true
with_own_fits i g es h few own =
    let later = entries_filter (λ (e : Entry). not (is_before e.round i)) es h in
    by_test (λ (all : List Entry). entries.fits all ≡ true) (has_round i (entries_since i es)) _ _ (λ has. later)
    (λ none. entries_cons (entry i g) (entries_since i es) later (omega arith) own (above_from i es none))

-- and the list has an entry of that round
pub own_round : (i : Round) (g : Shape) (es : List Entry) → has_round i (with_own i g es) ≡ true
own_round i g es = grind (arith, nat_tests)

-- a filter leaves no more entries than there are
pub filter_fewer : {X : Type 0} (q : X → Bool) (xs : List X) → length (filter q xs) ≤ length xs
filter_fewer q [] = omega arith
filter_fewer q (x ∷ xs) = let rest = filter_fewer q xs in grind (arith, rest)

-- an entry below a retiring round makes room for its own
pub from_fewer : (w i : Round) (es : List Entry) → is_before w i ≡ true → has_round w es ≡ true
    → length (entries_since i es) + 1 ≤ length es
from_fewer w i [] before has = cc
from_fewer w i (e ∷ es) before has =
    let fewer = filter_fewer (λ (x : Entry). not (is_before x.round i)) es in
    grind (arith, nat_tests, fewer, from_fewer w i es before)

greatest_of : (es : List Entry) → 0 < length es → list_all (λ (e : Entry). entry_in_range e) es ≡ true → round.fits (greatest es) ≡ true
greatest_of [] some all = absurd (omega arith)
greatest_of (e ∷ []) some all = grind (arith, nat_tests)
greatest_of (e ∷ (f ∷ fs)) some all = grind (arith, nat_tests, greatest_of (f ∷ fs))

-- the greatest round of some entries is a round
pub greatest_fits : (es : List Entry) → 0 < length es → entries.fits es ≡ true → round.fits (greatest es) ≡ true
greatest_fits es some h = greatest_of es some (entries_apart es h).1

pub some_later : (i : Round) (es : List Entry) → list_any (λ (e : Entry). is_before i e.round) es ≡ true
    → 0 < length es
some_later i [] later = cc
some_later i (e ∷ es) later = omega arith

-- where there is no room there is an entry
pub some_entry : (c : Cluster) (g : Shape) (es : List Entry) → has_place c g es ≡ false → 0 < length es
some_entry c g [] full = cc
some_entry c g (e ∷ es) full = omega arith

-- entries none of which is later or of this round are all of earlier rounds
pub all_before : (i : Round) (es : List Entry) → list_any (λ (e : Entry). is_before i e.round) es ≡ false
    → has_round i es ≡ false → list_all (λ (e : Entry). is_before e.round i) es ≡ true
all_before i [] later same = refl
all_before i (e ∷ es) later same = grind (arith, nat_tests, all_before i es)
