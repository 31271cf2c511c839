-- Bytes as whole lines and a line that isn't ended.
use Rattle.std.proofs.Common.{take-add}
use Rattle.cx_base.proofs.Common.{◌≡◌, ◌≤◌, ◌<◌, ◌+◌, ◌==◌, ◌++◌, ℕ, List, [], ◌∷◌, Some, length, take, drop, get_or, refl, sym, ap, ◌∙◌}
use Rattle.cx_base.proofs.Common.{append_assoc, arith, ◌-◌, eqb-true, drop-drop, length-drop, position, slice_split, take_more}
use Rattle.cx_base.proofs.Common.{position-Some, length-slice_split}
use Rattle.cx_script.specs.Unended.{last_part, but_last, lines_text}
use Rattle.cx_script.proofs.Cuts.{split_some}

-- the parts round the line feeds
abbrev pub parts : List ℕ → List (List ℕ)
parts bytes = slice_split (λ b. b == 10) bytes

pub some_part : (bytes : List ℕ) → 0 < length (parts bytes)
some_part bytes = omega (arith, length-slice_split (λ b. b == 10) bytes)

pub but_last-cons : (part : List ℕ) (rest : List (List ℕ)) → 0 < length rest → but_last (part ∷ rest) ≡ part ∷ but_last rest
but_last-cons part [] some = absurd (omega arith)
but_last-cons part (next ∷ rest) some = refl

pub last_part-cons : (part : List ℕ) (rest : List (List ℕ)) → 0 < length rest → last_part (part ∷ rest) ≡ last_part rest
last_part-cons part [] some = absurd (omega arith)
last_part-cons part (next ∷ rest) some = refl

-- after the next line feed
pub record Feed (bytes : List ℕ) (start next : ℕ) : Type 0 where
  pub within : next ≤ length bytes
  pub whole : take next bytes ++ lines_text (but_last (parts (drop next bytes)))
      ≡ take start bytes ++ lines_text (but_last (parts (drop start bytes)))
  pub last : last_part (parts (drop next bytes)) ≡ last_part (parts (drop start bytes))

pub next_feed : (bytes : List ℕ) (start place : ℕ) → start ≤ length bytes → position (λ b. b == 10) (drop start bytes) ≡ Some place
    → Feed bytes start (start + (place + 1))
next_feed bytes start place inside found =
    let rest = drop start bytes in
    let is = position-Some (λ b. b == 10) rest place 0 found in
    let feed : get_or rest place 0 ≡ 10 = eqb-true (get_or rest place 0) 10 is.1 in
    let left : length rest ≡ length bytes - start = length-drop start bytes in
    let next : drop (place + 1) rest ≡ drop (start + (place + 1)) bytes = drop-drop (place + 1) start bytes in
    let split : parts rest ≡ take place rest ∷ parts (drop (start + (place + 1)) bytes) =
    rw next at (split_some (λ b. b == 10) rest place found) in
    let some = some_part (drop (start + (place + 1)) bytes) in
    let front : take (start + (place + 1)) bytes ≡ take start bytes ++ (take place rest ++ 10 ∷ []) = take-add start (place + 1) bytes
    ∙ ap (λ l. take start bytes ++ l) (take_more rest place 0 is.0 ∙ ap (λ b. take place rest ++ b ∷ []) feed) in
    record {
      within = omega arith;
      whole = rw (split, but_last-cons (take place rest) _ some, front, append_assoc, append_assoc) refl;
      last = sym (ap last_part split ∙ last_part-cons (take place rest) _ some);
    }
