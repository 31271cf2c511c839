-- The parts of a list round the first place where a test passes.
use Rattle.std.proofs.lemmas.List.Elements.{All-from_get_or}
use Rattle.std.proofs.lemmas.List.Splits.{slice_split_none, slice_split_first, slice_split-cons_no}
use Rattle.cx_base.proofs.Common.{◌≡◌, ℕ, ◌<◌, ◌+◌, Bool, true, false, List, [], ◌∷◌, take, drop, get_or, length, None, Some, refl, ap}
use Rattle.cx_base.proofs.Common.{subst, ◌∙◌, if◌then◌else◌, nat_lt, arith, slice_split, position, position_or_len, list_any, onto_first}
use Rattle.cx_base.proofs.Common.{or_parts, nat_tests, fails_before_first}

-- a number that comes where a test passes
chosen : (b : Bool) (n i : ℕ) → (if b then Some n else None) ≡ Some i → (b ≡ true) × (n ≡ i)
chosen true n i h = (refl, cc)
chosen false n i h = cc

not_chosen : (b : Bool) (n : ℕ) → (if b then Some n else None) ≡ None → b ≡ false
not_chosen true n h = cc
not_chosen false n h = refl

below : (n m : ℕ) → nat_lt n m ≡ true → n < m
below n m h = grind (arith, nat_tests)

at_least : (n m i : ℕ) → nat_lt n m ≡ false → i < m → i < n
at_least n m i h k = grind (arith, nat_tests)

-- where none passes, each fails
pub none_passes : (p : ℕ → Bool) (xs : List ℕ) → position p xs ≡ None → (k : ℕ) → k < length xs → p (get_or xs k 0) ≡ false
none_passes p xs h k l =
    let n = position_or_len p xs in
    let fails : nat_lt n (length xs) ≡ false = not_chosen (nat_lt n (length xs)) n h in
    fails_before_first p xs k 0 (at_least n (length xs) k fails l)

pub split_none : (p : ℕ → Bool) (xs : List ℕ) → position p xs ≡ None → slice_split p xs ≡ xs ∷ []
split_none p xs h = slice_split_none p xs (All-from_get_or (λ x. p x ≡ false) xs 0 (none_passes p xs h))

pub split_some : (p : ℕ → Bool) (xs : List ℕ) (i : ℕ) → position p xs ≡ Some i
    → slice_split p xs ≡ take i xs ∷ slice_split p (drop (i + 1) xs)
split_some p xs i h =
    let n = position_or_len p xs in
    let found = chosen (nat_lt n (length xs)) n i h in
    subst (λ (k : ℕ). slice_split p xs ≡ take k xs ∷ slice_split p (drop (k + 1) xs)) found.1
    (slice_split_first p xs 0 (below n (length xs) found.0))

pub split_free : (p : ℕ → Bool) (part : List ℕ) → list_any p part ≡ false → slice_split p part ≡ part ∷ []
split_free p [] free = refl
split_free p (b ∷ part) free =
    let tests = or_parts (p b) (list_any p part) free in
    slice_split-cons_no p b part tests.0 ∙ ap (onto_first b) (split_free p part tests.1)
