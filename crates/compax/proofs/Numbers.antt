-- What clap's getter of a number reads of the rows.
use Rattle.std.specs.Str.Parse.{ParsesUnsigned}
use Rattle.clap.specs.Words.{ReadsOne, one_text, rows_of, Text}
use Rattle.clap.specs.ValueTests.{is_unsigned_in}
use Rattle.clap.specs.declared.parser.matches.Found.{Found}
use Rattle.clap.specs.declared.builder.value_parser.ValueParser.TheVariants as parser
use Rattle.clap.proofs.WalkLemmas.{one_text-rows}
use Rattle.clap.proofs.ValueTestLemmas.{accepts-Accepts, Accepts-accepts}
use Rattle.cx_base.proofs.Common.{◌≡◌, ap, refl, ℕ, ◌+◌, ◌≤◌, ◌^◌, List, Option, Some, None, Result, Ok, Err, true, false, inl, inr, arith}
use Rattle.cx_base.proofs.Common.{option_and_then, cases_Bool}
use Rattle.compax.specs.Words.{text_number, number_at}

-- the getter of a number at a type of `bits` bits
pub number_at-read : {E : Type 0} (bits most : ℕ) (G : List ℕ → Result ℕ E → Type 0) (f : Found) (id : Text) (r : Option ℕ)
    → most + 1 ≡ 2 ^ bits → 2 ^ bits ≤ 2 ^ 64 → ((t : Text) (x : Result ℕ E) → G t x → ParsesUnsigned bits 10 t x)
    → (one_text f id ≡ None → r ≡ None) → ((t : Text) → one_text f id ≡ Some t → ReadsOne G t r) → r ≡ number_at most id (rows_of f)
number_at-read {E} bits most G f id r top within parses none value = rw (← one_text-rows f id) (go (one_text f id) refl)
  where
    found : (t : Text) (q : Option ℕ) → ReadsOne G t q → q ≡ text_number most t
    found t (Some n) g =
        let h = parses t (Ok n) g in
        let in_range : is_unsigned_in 0 most t ≡ true =
        Accepts-accepts false (parser.Unsigned 0 most) t (h.0.0, omega arith, omega arith, omega arith) in
        rw in_range (ap Some h.1)
    found t None g =
        elim (cases_Bool (is_unsigned_in 0 most t)) [
          | inl taken ↦
              let a = accepts-Accepts false (parser.Unsigned 0 most) t taken in
              absurd (parses t (Err g.0) g.1 (a.0, omega (arith, a.3)))
          | inr refused ↦ rw refused refl
        ]

    go : (o : Option Text) → one_text f id ≡ o → r ≡ option_and_then (text_number most) o
    go None is = none is
    go (Some t) is = found t r (value t is)
