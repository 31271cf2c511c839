-- Whole lines as text, what comes after them, and what counts of both.
use Rattle.cx_base.proofs.Common.{◌==◌, ◌≡◌, ◌≤◌, ◌<◌, ◌++◌, ℕ, Bool, true, false, List, [], ◌∷◌, length, refl, sym, ap, ◌∙◌, subst}
use Rattle.cx_base.proofs.Common.{append_assoc, append-nil, arith, nat_lt, if◌then◌else◌, Option, None, Some, length-append, IfSome}
use Rattle.cx_base.proofs.Common.{Consumes, strip_carriage_return, Consumes-trans, nat_tests}
use Rattle.cx_edge.specs.Lines.{Hands}
use Rattle.cx_script.specs.Lines.{lines_of}
use Rattle.cx_script.specs.Unended.{last_part, but_last, lines_text, unended, whole_lines, settled_text}
use Rattle.cx_script.proofs.Cuts.{split_free}
use Rattle.cx_script.proofs.Feeds.{IsFree, AreFree, split_feed, lines_of_text}
use Rattle.cx_script.proofs.GoesOn.{overlong}
use Rattle.cx_script.proofs.WholeLines.{parts, but_last-cons, last_part-cons}

-- the parts of whole lines and of a line that isn't ended
parts_of_text : (ls : List (List ℕ)) (last : List ℕ) → AreFree ls → IsFree last → parts (lines_text ls ++ last) ≡ ls ++ last ∷ []
parts_of_text [] last free last_free = split_free (λ b. b == 10) last last_free
parts_of_text (l ∷ ls) last free last_free = ap parts (append_assoc l (10 ∷ lines_text ls) last)
    ∙ split_feed l (lines_text ls ++ last) free.0 ∙ ap (λ (rest : List (List ℕ)). l ∷ rest) (parts_of_text ls last free.1 last_free)

some_behind : (ls : List (List ℕ)) (last : List ℕ) → 0 < length (ls ++ last ∷ [])
some_behind ls last = omega (arith, length-append ls (last ∷ []))

but_last_push : (ls : List (List ℕ)) (last : List ℕ) → but_last (ls ++ last ∷ []) ≡ ls
but_last_push [] last = refl
but_last_push (l ∷ ls) last =
    but_last-cons l (ls ++ last ∷ []) (some_behind ls last) ∙ ap (λ (rest : List (List ℕ)). l ∷ rest) (but_last_push ls last)

last_part_push : (ls : List (List ℕ)) (last : List ℕ) → last_part (ls ++ last ∷ []) ≡ last
last_part_push [] last = refl
last_part_push (l ∷ ls) last = last_part-cons l (ls ++ last ∷ []) (some_behind ls last) ∙ last_part_push ls last

unended_is : (ls : List (List ℕ)) (last : List ℕ) → AreFree ls → IsFree last → unended (lines_text ls ++ last) ≡ last
unended_is ls last free last_free = ap last_part (parts_of_text ls last free last_free) ∙ last_part_push ls last

whole_is : (ls : List (List ℕ)) (last : List ℕ) → AreFree ls → IsFree last → whole_lines (lines_text ls ++ last) ≡ lines_text ls
whole_is ls last free last_free =
    ap (λ ps. lines_text (but_last ps)) (parts_of_text ls last free last_free) ∙ ap lines_text (but_last_push ls last)

pub whole_text : (ls : List (List ℕ)) → AreFree ls → whole_lines (lines_text ls) ≡ lines_text ls
whole_text ls free = ap whole_lines (sym (append-nil (lines_text ls))) ∙ whole_is ls [] free refl

-- what counts of them
pub counted_text : (most : ℕ) (ls : List (List ℕ)) (last : List ℕ) → AreFree ls → IsFree last
    → settled_text most (lines_text ls ++ last) ≡ lines_text ls ++ overlong most last
unfolding settled_text
counted_text most ls last free last_free =
    let bytes = lines_text ls ++ last in
    ap (λ l. if nat_lt most (length (strip_carriage_return l)) then bytes else whole_lines bytes) (unended_is ls last free last_free)
    ∙ by_test (nat_lt most (length (strip_carriage_return last)))
  where
    by_test : (test : Bool)
        → (if test then lines_text ls ++ last else whole_lines (lines_text ls ++ last)) ≡ lines_text ls ++ (if test then last else [])
    by_test true = refl
    by_test false = whole_is ls last free last_free ∙ sym (append-nil (lines_text ls))

pub not_overlong : (most : ℕ) (last : List ℕ) → length (strip_carriage_return last) ≤ most → overlong most last ≡ []
not_overlong most last short =
    let test : nat_lt most (length (strip_carriage_return last)) ≡ false = grind (arith, nat_tests) in
    ap (λ (b : Bool). if b then last else []) test

pub counted_open : (most : ℕ) (ls : List (List ℕ)) (last : List ℕ) → AreFree ls → IsFree last → length (strip_carriage_return last) ≤ most
    → settled_text most (lines_text ls ++ last) ≡ lines_text ls
counted_open most ls last free last_free short =
    counted_text most ls last free last_free ∙ ap (λ l. lines_text ls ++ l) (not_overlong most last short) ∙ append-nil (lines_text ls)

-- a further line
pub text_push : (ls : List (List ℕ)) (part : List ℕ) → lines_text (ls ++ part ∷ []) ≡ lines_text ls ++ (part ++ 10 ∷ [])
text_push [] part = refl
text_push (l ∷ ls) part = ap (λ rest. l ++ 10 ∷ rest) (text_push ls part) ∙ sym (append_assoc l (10 ∷ lines_text ls) (part ++ 10 ∷ []))

pub free_push : (ls : List (List ℕ)) (part : List ℕ) → AreFree ls → IsFree part → AreFree (ls ++ part ∷ [])
free_push [] part free part_free = (part_free, tt)
free_push (l ∷ ls) part free part_free = (free.0, free_push ls part free.1 part_free)

-- the first line is the one that ends first
pub line_first : (part rest : List ℕ) → IsFree part → lines_of ((part ++ 10 ∷ []) ++ rest) ≡ strip_carriage_return part ∷ lines_of rest
line_first part rest free = lines_of_text (part ∷ []) rest (free, tt)

-- what was handed out, and what is buffered after it, are the bytes that were read
pub hands_on : (left now next : Option (List ℕ)) (bytes buffered buffered_next out : List ℕ) → Consumes left now (bytes ++ buffered)
    → Hands now next buffered buffered_next out → Consumes left next ((bytes ++ out) ++ buffered_next)
hands_on left now next bytes buffered buffered_next out consumed h = subst (Consumes left next)
    (append_assoc bytes buffered h.read ∙ ap (λ l. bytes ++ l) h.whole ∙ sym (append_assoc bytes out buffered_next))
    (Consumes-trans left now next (bytes ++ buffered) h.read consumed h.consumed)

pub hands_held : (left now next : Option (List ℕ)) (bytes buffered buffered_next : List ℕ) → Consumes left now (bytes ++ buffered)
    → Hands now next buffered buffered_next [] → Consumes left next (bytes ++ buffered_next)
hands_held left now next bytes buffered buffered_next consumed h = subst (λ l. Consumes left next (l ++ buffered_next)) (append-nil bytes)
    (hands_on left now next bytes buffered buffered_next [] consumed h)

-- what holds of the bytes that were read, whatever comes after them, holds of all
pub of_all : (left left_after : Option (List ℕ)) (bytes : List ℕ) (P : List ℕ → Type 0) → Consumes left left_after bytes
    → ((more : List ℕ) → P (bytes ++ more)) → IfSome left P
of_all None left_after bytes P consumed each = tt
of_all (Some all) None bytes P consumed each = absurd consumed
of_all (Some all) (Some more) bytes P consumed each = subst P (sym consumed) (each more)

pub some_map : (left : Option (List ℕ)) (P Q : List ℕ → Type 0) → ((all : List ℕ) → P all → Q all) → IfSome left P → IfSome left Q
some_map None P Q each p = tt
some_map (Some all) P Q each p = each all p

pub some_any : (left : Option (List ℕ)) (P : List ℕ → Type 0) → ((all : List ℕ) → P all) → IfSome left P
some_any None P each = tt
some_any (Some all) P each = each all
