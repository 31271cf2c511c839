-- The ranges of rounds and of numbers of slots.
use Rattle.cx_base.proofs.Common.{◌≡◌, ℕ, true, max, arith, nat_tests, is_before}
use Rattle.cx_base.specs.declared.round.Round.{Round}
use Rattle.cx_field.specs.Fields.{mark, round, round0}

pub real_or_none : (i : Round) → round.fits i ≡ true → round0.fits i ≡ true
unfolding round round0
real_or_none i h = grind (arith, nat_tests)

-- what is above a round is a round
pub real_above : (i w : Round) → round.fits i ≡ true → round0.fits w ≡ true → is_before i w ≡ true
    → round.fits w ≡ true
unfolding round round0
real_above i w real fit before = grind (arith, nat_tests)

pub max_fits : (a b : ℕ) → mark.fits a ≡ true → mark.fits b ≡ true → mark.fits (max a b) ≡ true
unfolding mark
max_fits a b f g = grind (arith, nat_tests)
