-- The next byte of a name.
use Rattle.cx_base.proofs.Common.{◌≡◌, ℕ, zero, suc, ◌+◌, ◌≤◌, List, [], ◌∷◌, ◌++◌, length, take, drop, refl, sym, ap, ◌∙◌, subst, get_or}
use Rattle.cx_base.proofs.Common.{◌<◌, ◌%◌, arith, Ok, true, lit<, eq-eqb, nat_tests, length-take, take-append-drop, list_all, is_name_byte}
use Rattle.cx_wire.specs.Format.{Format, each_read, each_spell, u8}
use Rattle.cx_wire.proofs.Laws.{both, times-exact}
use Rattle.cx_field.specs.Fields.{name_byte}
use Rattle.cx_field.proofs.FieldLaws.{name_byte-exact}
use Rattle.cx_field.proofs.RangeLaws.{bytes_fit}

next_suc : (i : ℕ) (bytes : List ℕ) (b : ℕ) (after : List ℕ) → drop i bytes ≡ b ∷ after
    → (suc i ≤ length bytes) × (after ≡ drop (suc i) bytes) × (take (suc i) bytes ≡ take i bytes ++ b ∷ [])
next_suc zero [] b after e = absurd cc
next_suc zero (x ∷ xs) b after e =
    let head : x ≡ b = cc in
    let tail : after ≡ xs = cc in
    (omega arith, tail, ap (λ (y : ℕ). y ∷ []) head)
next_suc (suc i) [] b after e = absurd cc
next_suc (suc i) (x ∷ xs) b after e =
    let r = next_suc i xs b after e in
    (omega (arith, r.0), r.1, ap (λ (ys : List ℕ). x ∷ ys) r.2)

pub next : (i : ℕ) (bytes : List ℕ) (b : ℕ) (after rest : List ℕ) → rest ≡ drop i bytes → rest ≡ b ∷ after
    → (i + 1 ≤ length bytes) × (after ≡ drop (i + 1) bytes) × (take (i + 1) bytes ≡ take i bytes ++ b ∷ [])
next i bytes b after rest place front =
    let k : suc i ≡ i + 1 = omega arith in
    subst (λ (j : ℕ). (j ≤ length bytes) × (after ≡ drop j bytes) × (take j bytes ≡ take i bytes ++ b ∷ [])) k
    (next_suc i bytes b after (sym place ∙ front))

-- bytes spell themselves
pub bytes_spell : (xs before : List ℕ) → ((i : ℕ) → get_or xs i 0 < 256) → each_spell (λ _. name_byte) before xs ≡ xs
unfolding each_spell name_byte u8
bytes_spell [] before small = refl
bytes_spell (x ∷ xs) before small =
    let lt : x < 256 = small 0 in
    let same : x % 256 ≡ x = omega arith in
    let rest : each_spell (λ (_ : List ℕ). name_byte) (before ++ x ∷ []) xs ≡ xs = bytes_spell xs (before ++ x ∷ []) (λ i. small (suc i)) in
    rw (same, rest) refl

are_bytes : (xs : List ℕ) → list_all is_name_byte xs ≡ true → (i : ℕ) → get_or xs i 0 < 256
are_bytes [] all i = lit< tt
are_bytes (x ∷ xs) all zero =
    let p = both (is_name_byte x) (list_all is_name_byte xs) all in
    grind (arith, nat_tests, p.0)
are_bytes (x ∷ xs) all (suc i) =
    let p = both (is_name_byte x) (list_all is_name_byte xs) all in
    are_bytes xs p.1 i

-- the bytes of a name are read from the front
pub all_read : (count : ℕ) (bytes : List ℕ) → count ≤ length bytes → list_all is_name_byte (take count bytes) ≡ true
    → each_read (λ _. name_byte) [] count bytes ≡ Ok (take count bytes, drop count bytes)
all_read count bytes le all =
    let f : List ℕ → Format ℕ = λ _. name_byte in
    let xs = take count bytes in
    let rest = drop count bytes in
    let len : length xs ≡ count = omega (arith, length-take count bytes) in
    let again = (times-exact count f (λ _. name_byte-exact)).again xs rest (rw (eq-eqb (length xs) count len, bytes_fit xs [] all) refl) in
    let spelled : each_spell f [] xs ++ rest ≡ bytes =
    ap (λ (ys : List ℕ). ys ++ rest) (bytes_spell xs [] (are_bytes xs all)) ∙ take-append-drop count bytes in
    ap (each_read f [] count) (sym spelled) ∙ again
