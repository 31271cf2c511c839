-- Decimal numbers: read back, without breaks, and short.
use Rattle.std.specs.Prelude.{decimal}
use Rattle.std.specs.Str.Parse.{AllDigits}
use Rattle.std.proofs.lemmas.Fmt.{decimal_is_IsNumeral, length-decimal-le}
use Rattle.cx_base.proofs.Common.{◌≡◌, ◌<◌, ◌≤◌, ◌^◌, ◌==◌, nat_lt, ℕ, Bool, true, false, List, [], ◌∷◌, length, Some, refl, arith}
use Rattle.cx_base.proofs.Common.{digit_value, is_ascii_digit, list_all, nat_tests}
use Rattle.cx_script.specs.Words.{is_empty, is_number, word_number}
use Rattle.cx_record.proofs.Words.{Avoids, IsWord, is_break}

digit_so : (b : ℕ) → digit_value b < 10 → is_ascii_digit b ≡ true
digit_so b small = grind (arith, nat_tests)

digits_so : (ds : List ℕ) → AllDigits 10 ds → list_all is_ascii_digit ds ≡ true
digits_so [] all = refl
digits_so (d ∷ ds) all = rw (digit_so d all.0, digits_so ds all.1) refl

some_byte : (ds : List ℕ) → 0 < length ds → is_empty ds ≡ false
some_byte [] some = absurd (omega (arith, some))
some_byte (d ∷ ds) some = refl

fits_so : (n : ℕ) → n < 2 ^ 64 → nat_lt n (2 ^ 64) ≡ true
fits_so n small = grind (arith, nat_tests)

pub number_back : (n : ℕ) → n < 2 ^ 64 → word_number (decimal n) ≡ Some n
number_back n small =
    let is = decimal_is_IsNumeral n small in
    let numeral : is_number (decimal n) ≡ true =
    rw (some_byte (decimal n) is.0.0, digits_so (decimal n) is.0.1, is.1, fits_so n small) refl in
    rw (numeral, is.1) refl

-- a digit is no break, and none of the bytes that join numbers
pub no_break : (b : ℕ) → digit_value b < 10 → is_break b ≡ false
no_break b small = grind (arith, nat_tests)

pub no_slash : (b : ℕ) → digit_value b < 10 → (b == 47) ≡ false
no_slash b small = grind (arith, nat_tests)

pub no_comma : (b : ℕ) → digit_value b < 10 → (b == 44) ≡ false
no_comma b small = grind (arith, nat_tests)

pub no_x : (b : ℕ) → digit_value b < 10 → (b == 120) ≡ false
no_x b small = grind (arith, nat_tests)

digits_avoid : (p : ℕ → Bool) → ((b : ℕ) → digit_value b < 10 → p b ≡ false) → (ds : List ℕ) → AllDigits 10 ds → Avoids p ds
digits_avoid p off [] all = tt
digits_avoid p off (d ∷ ds) all = (off d all.0, digits_avoid p off ds all.1)

pub decimal_avoids : (p : ℕ → Bool) → ((b : ℕ) → digit_value b < 10 → p b ≡ false) → (n : ℕ) → n < 2 ^ 64 → Avoids p (decimal n)
decimal_avoids p off n small = digits_avoid p off (decimal n) (decimal_is_IsNumeral n small).0.1

pub some_digit : (n : ℕ) → n < 2 ^ 64 → is_empty (decimal n) ≡ false
some_digit n small = some_byte (decimal n) (decimal_is_IsNumeral n small).0.0

-- 64 bits take 20 digits at most
pub decimal_short : (n : ℕ) → n < 2 ^ 64 → length (decimal n) ≤ 20
decimal_short n small = length-decimal-le 20 n (omega arith) (below n small) small
  where
    below : (n : ℕ) → n < 2 ^ 64 → n < 10 ^ 20
    below n small = omega (arith, small)

pub decimal_word : (n : ℕ) → n < 2 ^ 64 → IsWord (decimal n)
decimal_word n small = let short = decimal_short n small in
    record { some = some_digit n small; off = decimal_avoids is_break no_break n small; short = omega (arith, short) }
