-- The order of rounds.
use Rattle.std.specs.Ordering.{is_lt, nat_cmp, ordering_then}
use Rattle.cx_base.proofs.Common.{◌≡◌, true, false, arith, nat_tests, is_before}
use Rattle.cx_letter.specs.Prelude.{same_round, Round}

-- at most one of two rounds is before the other
pub one_way : (a b : Round) → is_before a b ≡ true → is_before b a ≡ false
one_way a b h = grind (arith, nat_tests)

pub chain : (a b c : Round) → is_before a b ≡ false → is_before b c ≡ false → is_before a c ≡ false
chain a b c h k = grind (arith, nat_tests)

-- rounds of which none is before the other are the same
pub neither : (a b : Round) → is_before a b ≡ false → is_before b a ≡ false → same_round a b ≡ true
neither a b h k = grind (arith, nat_tests)

pub before_differs : (a b : Round) → is_before a b ≡ true → same_round a b ≡ false
before_differs a b h = grind (arith, nat_tests)

pub behind_differs : (a b : Round) → is_before b a ≡ true → same_round a b ≡ false
behind_differs a b h = grind (arith, nat_tests)

-- the order of a round's fields
pub by_fields : (a b : Round)
    → is_lt (ordering_then (nat_cmp a.r b.r) (ordering_then (nat_cmp a.id b.id) (nat_cmp a.s b.s))) ≡ is_before a b
by_fields a b = grind (arith, nat_tests)
