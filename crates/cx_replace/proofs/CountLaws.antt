-- How many were counted.
use Rattle.cx_base.proofs.Common.{◌≡◌, ◌≤◌, ◌<◌, ◌+◌, ◌==◌, ℕ, Bool, true, false, nat_lt, List, [], ◌∷◌, length, refl, arith, nat_tests}
use Rattle.cx_base.proofs.Common.{is_in, or_parts, lt-ltb, le-ltb}
use Rattle.cx_grid.specs.Quorum.{with_mark}

swapped : (a b : ℕ) → (b == a) ≡ false → (a == b) ≡ false
swapped a b h = grind (arith, nat_tests)

longer_by : (id m : ℕ) (ms : List ℕ) (less : Bool) → nat_lt id m ≡ less → (m == id) ≡ false → length (with_mark id ms) ≡ length ms + 1
    → length (with_mark id (m ∷ ms)) ≡ length (m ∷ ms) + 1
longer_by id m ms true l new rest = let e = swapped id m new in rw (e, l) (omega arith)
longer_by id m ms false l new rest = let e = swapped id m new in rw (e, l) (omega (arith, rest))

-- one more mark
pub one_longer : (id : ℕ) (ms : List ℕ) → is_in id ms ≡ false → length (with_mark id ms) ≡ length ms + 1
one_longer id [] new = refl
one_longer id (m ∷ ms) new =
    let p = or_parts (m == id) (is_in id ms) new in
    longer_by id m ms _ refl p.0 (one_longer id ms p.1)

-- fewer than f + 1 are counted
pub still_few : (id f : ℕ) (ms : List ℕ) → is_in id ms ≡ false → length ms < f → nat_lt (length (with_mark id ms)) (f + 1) ≡ true
still_few id f ms new few = lt-ltb _ _ (omega (arith, one_longer id ms new))

-- and at most f stay so
pub at_most : (id f : ℕ) (ms : List ℕ) → is_in id ms ≡ false → length ms < f → length (with_mark id ms) ≤ f
at_most id f ms new few = omega (arith, one_longer id ms new)

-- f + 1 are counted
pub are_enough : (id f : ℕ) (ms : List ℕ) → is_in id ms ≡ false → f ≤ length ms → nat_lt (length (with_mark id ms)) (f + 1) ≡ false
are_enough id f ms new enough = le-ltb _ _ (omega (arith, one_longer id ms new))

pub ruleset counts = (still_few, at_most, are_enough)
