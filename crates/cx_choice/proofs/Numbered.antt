-- Records that are read by their numbers.
use Rattle.std.proofs.Common.{ap, sym, ◌∙◌, append_assoc, arith}
use Rattle.cx_model.specs.Prelude.{◌≡◌, ◌+◌, ℕ, zero, suc, List, [], ◌∷◌, ◌++◌, Some, drop, slice_get, Shape, KeptRecord}
use Rattle.cx_choice.specs.Sorted.{begun_by, rounds_of}
use Rattle.cx_choice.specs.declared.of_round.OfRound.{OfRound}

next_of : {A : Type 0} (xs : List A) (n : ℕ) (x : A) → slice_get xs n ≡ Some x → drop n xs ≡ x ∷ drop (suc n) xs
next_of [] n x e = cc
next_of (y ∷ xs) zero x e = let same : y ≡ x = cc in ap (λ z. z ∷ xs) same
next_of (y ∷ xs) (suc n) x e = next_of xs n x e

-- the rest of a list from a number on begins with the record of that number
pub next_kept : {A : Type 0} (xs : List A) (n : ℕ) (x : A) → slice_get xs n ≡ Some x → drop n xs ≡ x ∷ drop (n + 1) xs
next_kept xs n x e =
    let more : suc n ≡ n + 1 = omega arith in
    next_of xs n x e ∙ ap (λ k. x ∷ drop k xs) more

-- one record more
pub rounds_next : (kept : List KeptRecord) (so_far new : List (OfRound Shape)) (n : ℕ) (one : KeptRecord) → slice_get kept n ≡ Some one
    → new ≡ so_far ++ begun_by one.what
    → so_far ++ rounds_of (drop n kept) ≡ rounds_of kept → new ++ rounds_of (drop (n + 1) kept) ≡ rounds_of kept
rounds_next kept so_far new n one at more h =
    let rest = drop (n + 1) kept in
    ap (λ l. l ++ rounds_of rest) more ∙ append_assoc so_far (begun_by one.what) (rounds_of rest)
    ∙ ap (λ l. so_far ++ rounds_of l) (sym (next_kept kept n one at)) ∙ h
