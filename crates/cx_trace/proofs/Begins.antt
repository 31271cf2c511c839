-- Texts that begin with others.
use Rattle.std.proofs.Common.{◌≡◌, List, ℕ, ◌++◌, length, take, drop, sym, ap, subst, ◌∙◌, append_assoc, Result, Ok, Err, OnErr}
use Rattle.std.proofs.lemmas.List.{take-append-drop}
use Rattle.std.proofs.Math.Seq.{take-append_seam}

begins_more : (old more new : List ℕ) → take (length (old ++ more)) new ≡ old ++ more → take (length old) new ≡ old
begins_more old more new begins =
    let rest = drop (length (old ++ more)) new in
    let whole : new ≡ (old ++ more) ++ rest = sym (ap (λ l. l ++ rest) (sym begins) ∙ take-append-drop (length (old ++ more)) new) in
    ap (λ l. take (length old) l) (whole ∙ append_assoc old more rest) ∙ take-append_seam old (more ++ rest)

-- what begins with a text and more begins with the text
pub behind : (old more now new : List ℕ) → now ≡ old ++ more → take (length now) new ≡ now → take (length old) new ≡ old
behind old more now new put begins = begins_more old more new (subst (λ l. take (length l) new ≡ l) put begins)

pub on_err : {T E : Type 0} (result : Result T E) {P : Type 0} → P → OnErr result P
on_err (Ok x) p = tt
on_err (Err e) p = p

pub still_on_err : {T E : Type 0} (result : Result T E) {P Q : Type 0} → (P → Q) → OnErr result P → OnErr result Q
still_on_err (Ok x) f p = tt
still_on_err (Err e) f p = f p
