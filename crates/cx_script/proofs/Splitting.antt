-- The words of a line, from the first on.
use Rattle.cx_base.proofs.Common.{◌≡◌, ℕ, zero, suc, ◌<◌, ◌+◌, true, false, not, List, [], ◌∷◌, get_or, take, drop, length, None, Some}
use Rattle.cx_base.proofs.Common.{refl, sym, ap, ◌∙◌, arith, true≢false, position, not-false, drop_more, drop_all, position-Some}
use Rattle.cx_script.specs.Words.{is_blank, words_of}
use Rattle.cx_script.proofs.Cuts.{none_passes, split_none, split_some}

words_blank : (b : ℕ) (bs : List ℕ) → is_blank b ≡ true → words_of (b ∷ bs) ≡ words_of bs
words_blank b bs h = rw h refl

-- blanks at the start are passed over
skipped : (line : List ℕ) (i : ℕ) → ((k : ℕ) → k < i → is_blank (get_or line k 0) ≡ true) → words_of (drop i line) ≡ words_of line
skipped line zero blank = refl
skipped [] (suc i) blank = refl
skipped (b ∷ bs) (suc i) blank = skipped bs i (λ k l. blank (suc k) (omega arith)) ∙ sym (words_blank b bs (blank 0 (omega arith)))

pub from_start : (line : List ℕ) (i : ℕ) → position (λ b. not (is_blank b)) line ≡ Some i → words_of (drop i line) ≡ words_of line
from_start line i found =
    let is = position-Some (λ b. not (is_blank b)) line i 0 found in
    skipped line i (λ k l. not-false (is_blank (get_or line k 0)) (is.2 k l))

-- a line of blanks has no word
pub of_blanks : (line : List ℕ) → position (λ b. not (is_blank b)) line ≡ None → words_of line ≡ []
of_blanks line none =
    sym (skipped line (length line) (λ k l. not-false (is_blank (get_or line k 0)) (none_passes (λ b. not (is_blank b)) line none k l)))
    ∙ ap words_of (drop_all (length line) line (omega arith))

-- the part before a blank is the first word, where it isn't empty
pub before_blank : (from : List ℕ) (end : ℕ) → is_blank (get_or from 0 0) ≡ false → position is_blank from ≡ Some end
    → words_of from ≡ take end from ∷ words_of (drop end from)
before_blank from zero letter found = absurd (true≢false (sym (position-Some is_blank from zero 0 found).1 ∙ letter))
before_blank [] (suc end) letter found = absurd (omega (arith, (position-Some is_blank [] (suc end) 0 found).0))
before_blank (b ∷ bs) (suc end) letter found =
    let is = position-Some is_blank (b ∷ bs) (suc end) 0 found in
    let more = drop_more (b ∷ bs) (suc end) 0 is.0 in
    let behind : words_of (drop (suc end) (b ∷ bs)) ≡ words_of (drop (suc end + 1) (b ∷ bs)) =
    ap words_of more ∙ words_blank (get_or (b ∷ bs) (suc end) 0) (drop (suc end + 1) (b ∷ bs)) is.1 in
    rw (split_some is_blank (b ∷ bs) (suc end) found) (ap (λ (ws : List (List ℕ)). take (suc end) (b ∷ bs) ∷ ws) (sym behind))

-- and all is, where no blank follows
pub without_blank : (from : List ℕ) → 0 < length from → position is_blank from ≡ None → words_of from ≡ from ∷ []
without_blank [] some none = absurd (omega arith)
without_blank (b ∷ bs) some none = rw (split_none is_blank (b ∷ bs) none) refl
