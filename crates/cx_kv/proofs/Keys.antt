-- The order of keys.
use Rattle.std.specs.Ordering.{nat_cmp, is_lt}
use Rattle.std.specs.Cmp.Lexicographic.{slice_cmp}
use Rattle.std.specs.declared.cmp.Ordering.{Ordering}
use Rattle.std.proofs.lemmas.Cmp.{same_from_slice_cmp}
use Rattle.cx_base.proofs.Common.{◌≡◌, ℕ, true, false, List, [], ◌∷◌, refl, arith, bytes_eq, nat_tests, is_less}

pub is_less_by_cmp : (a b : List ℕ) (o : Ordering) → o ≡ slice_cmp nat_cmp a b → is_lt o ≡ is_less a b
is_less_by_cmp = same_from_slice_cmp nat_cmp is_lt is_less refl (λ _ _. refl) (λ _ _. refl) (λ x y xs ys o h. grind (arith, nat_tests))

-- a key is not before itself, nor before one that is before it
pub is_less-back : (a b : List ℕ) → is_less a b ≡ true → is_less b a ≡ false
is_less-back [] [] h = refl
is_less-back [] (y ∷ ys) h = refl
is_less-back (x ∷ xs) [] h = cc
is_less-back (x ∷ xs) (y ∷ ys) h = grind (arith, nat_tests, is_less-back xs ys)

pub is_less-ne : (a b : List ℕ) → is_less a b ≡ true → (bytes_eq a b ≡ false) × (bytes_eq b a ≡ false)
is_less-ne [] [] h = cc
is_less-ne [] (y ∷ ys) h = (refl, refl)
is_less-ne (x ∷ xs) [] h = cc
is_less-ne (x ∷ xs) (y ∷ ys) h = grind (arith, nat_tests, is_less-ne xs ys)

pub is_less-trans : (a b c : List ℕ) → is_less a b ≡ true → is_less b c ≡ true → is_less a c ≡ true
is_less-trans [] [] c h k = cc
is_less-trans [] (y ∷ ys) [] h k = cc
is_less-trans [] (y ∷ ys) (z ∷ zs) h k = refl
is_less-trans (x ∷ xs) [] c h k = cc
is_less-trans (x ∷ xs) (y ∷ ys) [] h k = cc
is_less-trans (x ∷ xs) (y ∷ ys) (z ∷ zs) h k = grind (arith, nat_tests, is_less-trans xs ys zs)

-- of two keys that differ, one comes before the other
pub is_less-other : (a b : List ℕ) → is_less a b ≡ false → bytes_eq a b ≡ false → is_less b a ≡ true
is_less-other [] [] h k = cc
is_less-other [] (y ∷ ys) h k = cc
is_less-other (x ∷ xs) [] h k = refl
is_less-other (x ∷ xs) (y ∷ ys) h k = grind (arith, nat_tests, is_less-other xs ys)

pub same_bytes : (a b : List ℕ) → bytes_eq a b ≡ true → a ≡ b
same_bytes [] [] h = refl
same_bytes [] (y ∷ ys) h = cc
same_bytes (x ∷ xs) [] h = cc
same_bytes (x ∷ xs) (y ∷ ys) h = grind (arith, nat_tests, same_bytes xs ys)

pub bytes_ne : (a b : List ℕ) → bytes_eq a b ≡ false → bytes_eq b a ≡ false
bytes_ne [] [] h = h
bytes_ne [] (y ∷ ys) h = refl
bytes_ne (x ∷ xs) [] h = refl
bytes_ne (x ∷ xs) (y ∷ ys) h = grind (arith, nat_tests, bytes_ne xs ys)
