-- The lines of datagrams one by one.
use Rattle.cx_base.proofs.Common.{◌≡◌, ◌≤◌, ◌<◌, ◌+◌, ◌∙◌, ℕ, zero, suc, List, [], ◌∷◌, ◌++◌, length, length-take, take, drop, refl, ap}
use Rattle.cx_base.proofs.Common.{arith, slice_get, take-append-le}
use Rattle.cx_letter.specs.Letter.{Letter}
use Rattle.cx_trace.specs.Trace.{datagrams_text}
use Rattle.cx_replay.specs.Sending.{sent_line_text}

lines_from : (number n m : ℕ) (sent : List Letter) → m ≡ suc n → n < length sent
    → datagrams_text number (drop n sent) ≡ sent_line_text number (slice_get sent n) ++ datagrams_text (number + 1) (drop m sent)
lines_from number n m [] next l = absurd (omega (arith, l))
lines_from number zero m (d ∷ sent) next l = rw next refl
lines_from number (suc n) zero (d ∷ sent) next l = absurd (omega (arith, next))
lines_from number (suc n) (suc m) (d ∷ sent) next l = lines_from number n m sent (omega (arith, next)) (omega (arith, l))

-- the lines from a number on begin with its own
pub next_lines : (n : ℕ) (sent : List Letter) → n < length sent
    → datagrams_text n (drop n sent) ≡ sent_line_text n (slice_get sent n) ++ datagrams_text (n + 1) (drop (n + 1) sent)
next_lines n sent l = lines_from n n (n + 1) sent (omega arith) l

-- none are left after the last
pub no_lines : (number n : ℕ) (sent : List Letter) → length sent ≤ n → datagrams_text number (drop n sent) ≡ []
no_lines number zero [] l = refl
no_lines number (suc n) [] l = refl
no_lines number zero (d ∷ sent) l = absurd (omega (arith, l))
no_lines number (suc n) (d ∷ sent) l = no_lines number n sent (omega (arith, l))

-- what begins with a text does so when it is longer
pub begins_longer : (old now more longer : List ℕ) → longer ≡ now ++ more → take (length old) now ≡ old → take (length old) longer ≡ old
begins_longer old now more longer is begins =
    let inside : length old ≤ length now = omega (arith, length-take (length old) now, ap length begins) in
    ap (take (length old)) is ∙ take-append-le (length old) now more inside ∙ begins
