-- A number, digit by digit.
use Rattle.std.specs.Str.Parse.{digits_value_after}
use Rattle.cx_base.proofs.Common.{◌≡◌, ◌≤◌, ◌+◌, ◌*◌, ◌^◌, ◌&&◌, ℕ, Bool, true, false, List, [], ◌∷◌, Option, Some, None, nat_lt}
use Rattle.cx_base.proofs.Common.{if◌then◌else◌, ◌<◌, length, refl, inl, inr, arith, cases_Bool, nat_tests, is_ascii_digit, list_all}
use Rattle.cx_base.proofs.Common.{digit_value}
use Rattle.cx_script.specs.Words.{word_number}

-- the number of the digits so far, and those that follow
abbrev pub after : ℕ → List ℕ → Option ℕ
after n word =
    if list_all is_ascii_digit word && nat_lt (digits_value_after 10 n word) (2 ^ 64) then Some (digits_value_after 10 n word) else None

pub grows : (n : ℕ) (word : List ℕ) → n ≤ digits_value_after 10 n word
grows n [] = omega arith
grows n (b ∷ bs) = omega (arith, grows (n * 10 + digit_value b) bs)

past : (n m k : ℕ) → nat_lt n k ≡ false → n ≤ m → nat_lt m k ≡ false
past n m k large more = grind (arith, nat_tests)

too_many : (c : Bool) (n m : ℕ) → nat_lt n (2 ^ 64) ≡ false → n ≤ m → (if c && nat_lt m (2 ^ 64) then Some m else None) ≡ None
too_many true n m large more = rw (past n m (2 ^ 64) large more) refl
too_many false n m large more = refl

-- a byte that is no digit, or too many of them
pub stopped : (n b : ℕ) (bs : List ℕ) → None ≡ (if is_ascii_digit b && nat_lt (n * 10 + digit_value b) (2 ^ 64)
    then Some (n * 10 + digit_value b) else None) → after n (b ∷ bs) ≡ None
stopped n b bs = elim (cases_Bool (is_ascii_digit b)) as (λ x. None ≡ (if is_ascii_digit b && nat_lt (n * 10 + digit_value b) (2 ^ 64)
    then Some (n * 10 + digit_value b) else None) → after n (b ∷ bs) ≡ None) [
      | inl digit ↦ elim (cases_Bool (nat_lt (n * 10 + digit_value b) (2 ^ 64))) as (λ x. None ≡ (if is_ascii_digit b
          && nat_lt (n * 10 + digit_value b) (2 ^ 64) then Some (n * 10 + digit_value b) else None) → after n (b ∷ bs) ≡ None) [
            | inl small ↦ λ none. absurd (cc (rw (digit, small) at none))
            | inr large ↦ λ none. too_many (list_all is_ascii_digit (b ∷ bs)) (n * 10 + digit_value b)
                (digits_value_after 10 (n * 10 + digit_value b) bs) large (grows (n * 10 + digit_value b) bs)
          ]
      | inr other ↦ λ none. rw other refl
    ]

pub all_digits : (word : List ℕ) → 0 < length word → word_number word ≡ after 0 word
all_digits [] some = absurd (omega arith)
all_digits (b ∷ bs) some = refl

-- a number of 64 bits with no digit to follow
pub ended : (n : ℕ) → n < 2 ^ 64 → after n [] ≡ Some n
ended n small = let fits : nat_lt n (2 ^ 64) ≡ true = grind (arith, nat_tests) in rw fits refl
