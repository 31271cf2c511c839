-- What passes a test is counted one by one.
use Rattle.std.proofs.lemmas.List.Elements.{filter-append}
use Rattle.cx_base.proofs.Common.{◌≡◌, ◌≤◌, ◌+◌, ◌∙◌, ℕ, Bool, true, false, if◌then◌else◌, List, [], ◌∷◌, ◌++◌, length, filter, ap, sym}
use Rattle.cx_base.proofs.Common.{refl, arith, add-zero, length-append}

pub counted_more : {A : Type 0} (q : A → Bool) (xs : List A) (x : A) (n : ℕ) → n ≡ length (filter q xs)
    → (if q x then n + 1 else n) ≡ length (filter q (xs ++ x ∷ []))
counted_more q xs x n same =
    let both : length (filter q (xs ++ x ∷ [])) ≡ length (filter q xs) + length (filter q (x ∷ [])) =
    ap length (filter-append q xs (x ∷ [])) ∙ length-append (filter q xs) (filter q (x ∷ [])) in
    rw (both, same) (elim (q x) as (λ b.
    (if b then length (filter q xs) + 1 else length (filter q xs)) ≡ length (filter q xs) + length (if b then x ∷ [] else [])) [
      | true ↦ refl
      | false ↦ sym (add-zero (length (filter q xs)))
    ])

pub filtered_least : {A : Type 0} (q : A → Bool) (xs : List A) → length (filter q xs) ≤ length xs
filtered_least q [] = omega arith
filtered_least q (x ∷ xs) =
    let rest = filtered_least q xs in
    elim (q x) as (λ b. length (if b then x ∷ filter q xs else filter q xs) ≤ length (x ∷ xs)) [
      | true ↦ omega (arith, rest)
      | false ↦ omega (arith, rest)
    ]
