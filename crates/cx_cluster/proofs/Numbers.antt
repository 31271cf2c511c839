-- A number that is tested to be in its range.
use Rattle.std.proofs.Common.{◌≡◌, ◌≤◌, ℕ, ℤ, pos, negsuc, Ok, nat_abs, sym, subst, refl, arith}
use Rattle.std.proofs.Math.Decide.{dec_le}
use Rattle.std.specs.Int.{FitsUnsignedBits}
use Rattle.cx_cluster.specs.declared.key.ClusterKey.{ClusterKey}
use Rattle.cx_cluster.specs.Reading.{IsNumber, ranged, tested}

pub of_tests : (key : ClusterKey) (low high n : ℕ) (least : low ≤ n) (most : n ≤ high) (d : Dec (low ≤ n)) (e : Dec (n ≤ high))
    → IsNumber (Ok n) (tested key low high n d e)
of_tests key low high n least most (yes first) (yes second) = (first, second, refl)
of_tests key low high n least most (yes first) (no more) = absurd (more most)
of_tests key low high n least most (no less) e = absurd (less least)

pub in_range : (key : ClusterKey) (low high : ℕ) (z : ℤ) (n : ℕ) → FitsUnsignedBits 16 z → n ≡ nat_abs z → low ≤ n → n ≤ high
    → IsNumber (Ok n) (ranged key low high z)
in_range key low high (pos m) n fits is least most =
    subst (λ (k : ℕ). IsNumber (Ok k) (ranged key low high (pos m))) (sym is)
    (of_tests key low high m (omega (arith, is)) (omega (arith, is)) (dec_le low m) (dec_le m high))
in_range key low high (negsuc m) n fits is least most = absurd fits
