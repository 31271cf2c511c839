-- Words that are written one after the other are words with a byte between them; texts that begin with others.
use Rattle.std.proofs.Common.{◌∙◌, append-nil, append_assoc, ap, subst, sym, take-append-drop}
use Rattle.cx_letter.specs.Prelude.{decimal, ◌≡◌, ◌++◌, ℕ, List, [], ◌∷◌, OnOk, Result, drop, length, map, refl, take, join_with_byte}
use Rattle.cx_record.specs.Lines.{ids_text}
use Rattle.cx_record.specs.Pieces.{behind_each, in_row}
use Rattle.cx_trace.proofs.Begins.{behind}

pub in_row_is : (b : ℕ) (words : List (List ℕ)) → in_row b words ≡ join_with_byte b words
in_row_is b [] = refl
in_row_is b (word ∷ []) = append-nil word
in_row_is b (word ∷ next ∷ words) = ap (λ (more : List ℕ). word ++ b ∷ more) (in_row_is b (next ∷ words))

-- what begins with a text that begins with another begins with that
pub through : (old now new : List ℕ) → take (length old) now ≡ old → take (length now) new ≡ now → take (length old) new ≡ old
through old now new first second = behind old (drop (length old) now) now new
    (sym (ap (λ l. l ++ drop (length old) now) (sym first) ∙ take-append-drop (length old) now)) second

-- a number, and then the others each behind a comma, are the numbers with commas between them
pub ids_put : {T E : Type 0} (result : Result T E) (text now new ids others : List ℕ) (first : ℕ) → ids ≡ first ∷ others → now
    ≡ text ++ decimal first → OnOk result (new ≡ now ++ behind_each 44 (map decimal others)) → OnOk result (new ≡ text ++ ids_text ids)
ids_put result text now new ids others first is put ok =
    let more = behind_each 44 (map decimal others) in
    let row : now ++ more ≡ text ++ ids_text ids = ap (λ l. l ++ more) put ∙ append_assoc text (decimal first) more
    ∙ ap (λ l. text ++ l) (in_row_is 44 (map decimal (first ∷ others)) ∙ ap (λ l. ids_text l) (sym is)) in
    subst (λ l. OnOk result (new ≡ l)) row ok
