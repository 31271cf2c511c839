-- A text that is written in parts.
use Rattle.std.specs.List.{concat}
use Rattle.std.proofs.lemmas.List.{map_more}
use Rattle.std.proofs.lemmas.List.Folds.{concat-append}
use Rattle.cx_base.proofs.Common.{◌≡◌, ◌≤◌, ◌<◌, ℕ, zero, suc, ◌+◌, List, [], ◌∷◌, ◌++◌, length, get_or, map, take, drop, take-append-drop}
use Rattle.cx_base.proofs.Common.{Option, sym, ap, ◌∙◌, subst, append_assoc, inl, inr, refl, arith, append-nil, take-append_seam}
use Rattle.cx_base.proofs.Common.{take-append-add, Appends, Appends-trans, Rises}
use Rattle.cx_edge.specs.Sink.{AppendsPart, SaysText}

rises_later : (m n k : ℕ) → m ≤ n → Rises n k → Rises m k
rises_later m n k later rises = grind (arith)

-- a part of the first text was written
pub says_part : (a b : Option (List ℕ)) (m n : ℕ) (text more : List ℕ) → AppendsPart a b text → Rises m n → SaysText a b m n (text ++ more)
says_part a b m n text more part rises =
    let k = part.0 in
    let front = take k text in
    let split : text ++ more ≡ front ++ (drop k text ++ more) =
    ap (λ l. l ++ more) (sym (take-append-drop k text)) ∙ append_assoc front (drop k text) more in
    let taken : take (length front) (text ++ more) ≡ front =
    ap (take (length front)) split ∙ take-append_seam front (drop k text ++ more) in
    inr ((length front, subst (Appends a b) (sym taken) part.1), rises)

-- the first text was written, and then the rest
pub says_more : (a b c : Option (List ℕ)) (m n k : ℕ) (text more : List ℕ) → Appends a b text → n ≡ m → SaysText b c n k more
    → SaysText a c m k (text ++ more)
says_more a b c m n k text more first still (inl rest) = inl (Appends-trans a b c text more first rest)
says_more a b c m n k text more first still (inr (part, rises)) =
    let taken = take-append-add text more part.0 in
    inr (
      (length text + part.0, subst (Appends a c) (sym taken) (Appends-trans a b c text (take part.0 more) first part.1)),
      subst (λ j. Rises j k) still rises,
    )

-- ---- a list of parts

module _ {X : Type 0} (text : X → List ℕ) where
  concat_more : (parts : List X) (i : ℕ) (d : X) → i < length parts
      → concat (map text (take (i + 1) parts)) ≡ concat (map text (take i parts)) ++ text (get_or parts i d)
  concat_more parts i d lt =
      ap concat (map_more text parts i d lt) ∙ concat-append (map text (take i parts)) (text (get_or parts i d) ∷ [])
      ∙ ap (λ more. concat (map text (take i parts)) ++ more) (append-nil (text (get_or parts i d)))

  concat_at : (parts : List X) (i : ℕ) (d : X) → i < length parts
      → concat (map text (take i parts)) ++ (text (get_or parts i d) ++ concat (map text (drop (suc i) parts))) ≡ concat (map text parts)
  concat_at [] i d lt = absurd (omega arith)
  concat_at (part ∷ parts) zero d lt = refl
  concat_at (part ∷ parts) (suc i) d lt =
      append_assoc (text part) (concat (map text (take i parts))) (text (get_or parts i d) ++ concat (map text (drop (suc i) parts)))
      ∙ ap (λ more. text part ++ more) (concat_at parts i d (omega arith))

  -- the parts before a place were written, and the one there
  pub parts_more : (a b c : Option (List ℕ)) (parts : List X) (i : ℕ) (d : X) → i < length parts → Appends a b
      (concat (map text (take i parts))) → Appends b c (text (get_or parts i d)) → Appends a c (concat (map text (take (i + 1) parts)))
  parts_more a b c parts i d lt first more = subst (Appends a c) (sym (concat_more parts i d lt)) (Appends-trans a b c _ _ first more)

  -- the parts before a place were written, and a part of the one there
  pub parts_end : (a b c : Option (List ℕ)) (m n k : ℕ) (parts : List X) (i : ℕ) (d : X) → i < length parts
      → Appends a b (concat (map text (take i parts)))
      → n ≡ m → AppendsPart b c (text (get_or parts i d)) → Rises n k → SaysText a c m k (concat (map text parts))
  parts_end a b c m n k parts i d lt first still part rises =
      subst (SaysText a c m k) (concat_at parts i d lt) (says_more a b c m n k _ _ first still
      (says_part b c n k (text (get_or parts i d)) (concat (map text (drop (suc i) parts))) part rises))

-- ---- a role's text among parts

pub role_parts : (kind colon index rest : List ℕ) → kind ++ (colon ++ (index ++ rest)) ≡ ((kind ++ colon) ++ index) ++ rest
role_parts kind colon index rest = sym (append_assoc (kind ++ colon) index rest ∙ append_assoc kind colon (index ++ rest))

pub place_parts : (kind colon index at place end : List ℕ)
    → kind ++ (colon ++ (index ++ (at ++ (place ++ end)))) ≡ (((((kind ++ colon) ++ index) ++ at) ++ place) ++ end)
place_parts kind colon index at place end =
    role_parts kind colon index (at ++ (place ++ end)) ∙ role_parts ((kind ++ colon) ++ index) at place end
