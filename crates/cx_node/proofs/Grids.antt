-- The grid of the first acceptors.
use Rattle.std.proofs.Common.{lit≤}
use Rattle.cx_base.proofs.Common.{◌≡◌, ◌≤◌, ◌/◌, ◌%◌, ◌==◌, ℕ, zero, suc, Bool, true, false, List, [], ◌∷◌, take, arith, if◌then◌else◌}
use Rattle.cx_base.proofs.Common.{refl, sym, ap, ◌∙◌, subst, nat_tests, IsGrid, Shape, make_grid, numbers}
use Rattle.cx_course.specs.Run.{first_grid}

abbrev pub firsts : List ℕ
firsts = 0 ∷ 1 ∷ 2 ∷ 3 ∷ 4 ∷ 5 ∷ 6 ∷ 7 ∷ 8 ∷ 9 ∷ 10 ∷ 11 ∷ 12 ∷ 13 ∷ 14 ∷ 15 ∷ []

first_grid_fits : (n : ℕ) → 1 ≤ n → n ≤ 16 → IsGrid (first_grid n) × (take n firsts ≡ numbers 0 n)
first_grid_fits zero some most = let none : ⊥ = omega (arith, some) in absurd none
first_grid_fits (suc zero) some most =
    (record { some_row = lit≤ tt; some_col = lit≤ tt; room = lit≤ tt; count = refl; once = refl }, refl)
first_grid_fits (suc (suc zero)) some most =
    (record { some_row = lit≤ tt; some_col = lit≤ tt; room = lit≤ tt; count = refl; once = refl }, refl)
first_grid_fits (suc (suc (suc zero))) some most =
    (record { some_row = lit≤ tt; some_col = lit≤ tt; room = lit≤ tt; count = refl; once = refl }, refl)
first_grid_fits (suc (suc (suc (suc zero)))) some most =
    (record { some_row = lit≤ tt; some_col = lit≤ tt; room = lit≤ tt; count = refl; once = refl }, refl)
first_grid_fits (suc (suc (suc (suc (suc zero))))) some most =
    (record { some_row = lit≤ tt; some_col = lit≤ tt; room = lit≤ tt; count = refl; once = refl }, refl)
first_grid_fits (suc (suc (suc (suc (suc (suc zero)))))) some most =
    (record { some_row = lit≤ tt; some_col = lit≤ tt; room = lit≤ tt; count = refl; once = refl }, refl)
first_grid_fits (suc (suc (suc (suc (suc (suc (suc zero))))))) some most =
    (record { some_row = lit≤ tt; some_col = lit≤ tt; room = lit≤ tt; count = refl; once = refl }, refl)
first_grid_fits (suc (suc (suc (suc (suc (suc (suc (suc zero)))))))) some most =
    (record { some_row = lit≤ tt; some_col = lit≤ tt; room = lit≤ tt; count = refl; once = refl }, refl)
first_grid_fits (suc (suc (suc (suc (suc (suc (suc (suc (suc zero))))))))) some most =
    (record { some_row = lit≤ tt; some_col = lit≤ tt; room = lit≤ tt; count = refl; once = refl }, refl)
first_grid_fits (suc (suc (suc (suc (suc (suc (suc (suc (suc (suc zero)))))))))) some most =
    (record { some_row = lit≤ tt; some_col = lit≤ tt; room = lit≤ tt; count = refl; once = refl }, refl)
first_grid_fits (suc (suc (suc (suc (suc (suc (suc (suc (suc (suc (suc zero))))))))))) some most =
    (record { some_row = lit≤ tt; some_col = lit≤ tt; room = lit≤ tt; count = refl; once = refl }, refl)
first_grid_fits (suc (suc (suc (suc (suc (suc (suc (suc (suc (suc (suc (suc zero)))))))))))) some most =
    (record { some_row = lit≤ tt; some_col = lit≤ tt; room = lit≤ tt; count = refl; once = refl }, refl)
first_grid_fits (suc (suc (suc (suc (suc (suc (suc (suc (suc (suc (suc (suc (suc zero))))))))))))) some most =
    (record { some_row = lit≤ tt; some_col = lit≤ tt; room = lit≤ tt; count = refl; once = refl }, refl)
first_grid_fits (suc (suc (suc (suc (suc (suc (suc (suc (suc (suc (suc (suc (suc (suc zero)))))))))))))) some most =
    (record { some_row = lit≤ tt; some_col = lit≤ tt; room = lit≤ tt; count = refl; once = refl }, refl)
first_grid_fits (suc (suc (suc (suc (suc (suc (suc (suc (suc (suc (suc (suc (suc (suc
    (suc zero))))))))))))))) some most =
    (record { some_row = lit≤ tt; some_col = lit≤ tt; room = lit≤ tt; count = refl; once = refl }, refl)
first_grid_fits (suc (suc (suc (suc (suc (suc (suc (suc (suc (suc (suc (suc (suc (suc (suc
    (suc zero)))))))))))))))) some most =
    (record { some_row = lit≤ tt; some_col = lit≤ tt; room = lit≤ tt; count = refl; once = refl }, refl)
first_grid_fits (suc (suc (suc (suc (suc (suc (suc (suc (suc (suc (suc (suc (suc (suc (suc (suc
    (suc n))))))))))))))))) some most = let none : ⊥ = omega (arith, most) in absurd none

even : (n : ℕ) → n % 2 ≡ 0 → (n % 2 == 0) ≡ true
even n h = rw h refl

odd : (n : ℕ) → (n % 2 ≡ 0 → ⊥) → (n % 2 == 0) ≡ false
odd n h = grind (arith, nat_tests)

pub even_grid : (n : ℕ) → n % 2 ≡ 0 → 1 ≤ n → n ≤ 16 → make_grid 2 (n / 2) (take n firsts) ≡ first_grid n
even_grid n h some most =
    ap (make_grid 2 (n / 2)) (first_grid_fits n some most).1
    ∙ ap (λ (t : Bool). if t then make_grid 2 (n / 2) (numbers 0 n) else make_grid 1 n (numbers 0 n)) (sym (even n h))

pub odd_grid : (n : ℕ) → (n % 2 ≡ 0 → ⊥) → 1 ≤ n → n ≤ 16 → make_grid 1 n (take n firsts) ≡ first_grid n
odd_grid n h some most =
    ap (make_grid 1 n) (first_grid_fits n some most).1
    ∙ ap (λ (t : Bool). if t then make_grid 2 (n / 2) (numbers 0 n) else make_grid 1 n (numbers 0 n)) (sym (odd n h))

pub is_grid : (n : ℕ) (s : Shape) → s ≡ first_grid n → 1 ≤ n → n ≤ 16 → IsGrid s
is_grid n s e some most = subst IsGrid (sym e) (first_grid_fits n some most).0
