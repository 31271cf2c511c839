-- The record that was kept last.
use Rattle.cx_base.proofs.Common.{◌≡◌, ◌≤◌, ◌+◌, ℕ, zero, suc, true, List, [], ◌∷◌, Option, Result, Ok, Err, length, drop, option_to_list}
use Rattle.cx_base.proofs.Common.{refl, arith, IfOk, slice_get, and_parts}
use Rattle.cx_letter.specs.Records.{fits}
use Rattle.cx_letter.specs.declared.kept.Record.{Record}
use Rattle.cx_keep.specs.Keeper.{all_fit}

-- one at most is left
one_left : {A : Type 0} (xs : List A) (n : ℕ) → length xs ≤ n + 1 → option_to_list (slice_get xs n) ≡ drop n xs
one_left [] zero l = refl
one_left [] (suc n) l = refl
one_left (x ∷ []) zero l = refl
one_left (x ∷ y ∷ xs) zero l = absurd (omega (arith, l))
one_left (x ∷ xs) (suc n) l = one_left xs n (omega (arith, l))

pub kept_last : {A E : Type 0} (xs : List A) (n : ℕ) (found : Result (Option A) E) → length xs ≤ n + 1
    → IfOk found (λ r. r ≡ slice_get xs n) → IfOk found (λ r. option_to_list r ≡ drop n xs)
kept_last xs n (Ok r) l h = rw h (one_left xs n l)
kept_last xs n (Err e) l h = tt

-- each record that is left has its fields in their ranges
fit_from : (xs : List Record) (n : ℕ) → all_fit xs ≡ true → all_fit (drop n xs) ≡ true
fit_from xs zero h = h
fit_from [] (suc n) h = h
fit_from (x ∷ xs) (suc n) h = fit_from xs n (and_parts (fits x) (all_fit xs) h).1

pub last_fits : {E : Type 0} (xs : List Record) (n : ℕ) (found : Result (Option Record) E) → all_fit xs ≡ true
    → IfOk found (λ r. option_to_list r ≡ drop n xs) → IfOk found (λ r. all_fit (option_to_list r) ≡ true)
last_fits xs n (Ok r) all h = rw h (fit_from xs n all)
last_fits xs n (Err e) all h = tt
