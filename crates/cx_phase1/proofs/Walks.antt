-- Going over a list.
use Rattle.cx_base.proofs.Common.{◌≡◌, ◌≤◌, ◌<◌, ◌+◌, ◌-◌, ℕ, suc, List, [], ◌∷◌, ◌++◌, length, map, refl, drop, get_or, drop-cons}
use Rattle.cx_base.proofs.Common.{append_assoc, arith, ap, sym, ◌∙◌, drop_all, numbers}

-- what is left at a place is the value there and what is left after it
pub next_left : {X : Type 0} (xs : List X) (i : ℕ) (x : X) → i < length xs → x ≡ get_or xs i x → drop i xs ≡ x ∷ drop (i + 1) xs
next_left xs i x lt is = let k : i + 1 ≡ suc i = omega arith in drop-cons xs i x lt ∙ rw (← is, k) refl

-- Of what is left f gives the whole answer. If g takes the next value in, then it gives the answer of what is left after it.
pub carried : {X Y : Type 0} (f g : List X → Y) (xs : List X) (i : ℕ) (x : X) (all : Y) → i < length xs → x ≡ get_or xs i x
    → ((rest : List X) → g rest ≡ f (x ∷ rest)) → f (drop i xs) ≡ all → g (drop (i + 1) xs) ≡ all
carried f g xs i x all lt is step so_far = step (drop (i + 1) xs) ∙ ap f (sym (next_left xs i x lt is)) ∙ so_far

-- and nothing is left at the end
pub carried_out : {X Y : Type 0} (f : List X → Y) (xs : List X) (i : ℕ) (all : Y) → length xs ≤ i → f (drop i xs) ≡ all → f [] ≡ all
carried_out f xs i all le so_far = ap f (sym (drop_all i xs le)) ∙ so_far

numbers_on : (i n : ℕ) → i < n → numbers i (n - i) ≡ i ∷ numbers (i + 1) (n - (i + 1))
numbers_on i n lt = let e : n - i ≡ suc (n - (i + 1)) = omega arith in rw e refl

-- what was made, and what is to be made of the numbers from i on, is all that is to be made
pub made_on : {Y : Type 0} (f : ℕ → Y) (made all : List Y) (i n : ℕ) → i < n → made ++ map f (numbers i (n - i)) ≡ all
    → (made ++ f i ∷ []) ++ map f (numbers (i + 1) (n - (i + 1))) ≡ all
made_on f made all i n lt so_far = let step = numbers_on i n lt in rw (append_assoc, ← so_far, step) refl
