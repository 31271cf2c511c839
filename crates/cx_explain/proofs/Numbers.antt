-- Numbers one by one.
use Rattle.cx_base.proofs.Common.{◌≡◌, ◌<◌, ◌-◌, ◌+◌, ℕ, ◌∷◌, suc, refl, arith, numbers}

-- the first of some numbers, and the others
pub numbers_more : (first last : ℕ) → first < last → numbers first (last - first) ≡ first ∷ numbers (first + 1) (last - (first + 1))
numbers_more first last l = let e : last - first ≡ suc (last - (first + 1)) = omega arith in rw e refl
