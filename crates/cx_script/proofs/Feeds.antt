-- Whole lines, a line that isn't ended, and the bytes after them, as parts round the line feeds.
use Rattle.std.specs.Cmp.Lexicographic.{bytes_decides}
use Rattle.std.proofs.lemmas.List.Splits.{slice_split-cons_no}
use Rattle.cx_base.proofs.Common.{◌≡◌, ◌≤◌, ◌<◌, ◌+◌, ◌-◌, ◌==◌, ◌++◌, ℕ, Bool, true, false, cond, List, [], ◌∷◌, length, map, take, refl}
use Rattle.cx_base.proofs.Common.{sym, ap, ◌∙◌, append_assoc, append-nil, arith, length-append, join_with_byte, list_any, onto_first}
use Rattle.cx_base.proofs.Common.{slice_index, codes, strip_carriage_return, or_parts, or_from, cond_both, common_steps}
use Rattle.cx_base.proofs.Common.{join_with_byte-slice_split}
use Rattle.cx_script.specs.Header.{is_rule}
use Rattle.cx_script.specs.Lines.{lines_in, lines_of}
use Rattle.cx_script.specs.Unended.{last_part, but_last, lines_text}
use Rattle.cx_script.proofs.Cuts.{split_free}
use Rattle.cx_script.proofs.Schedules.{before_others}
use Rattle.cx_script.proofs.WholeLines.{parts, some_part}

-- a part without a line feed, and parts without one
abbrev pub IsFree : List ℕ → Type 0
IsFree part = list_any (λ b. b == 10) part ≡ false

abbrev pub AreFree : List (List ℕ) → Type 0
AreFree [] = Unit {0}
AreFree (part ∷ rest) = IsFree part × AreFree rest

pub split_feed : (part bytes : List ℕ) → IsFree part → parts (part ++ 10 ∷ bytes) ≡ part ∷ parts bytes
split_feed [] bytes free = refl
split_feed (b ∷ part) bytes free =
    let tests = or_parts (b == 10) (list_any (λ b. b == 10) part) free in
    slice_split-cons_no (λ b. b == 10) b (part ++ 10 ∷ bytes) tests.0 ∙ ap (onto_first b) (split_feed part bytes tests.1)

-- a line that isn't ended goes on with the first of the parts after it
pub record Begins (last more : List ℕ) : Type 0 where
  pub first : List ℕ
  pub rest : List (List ℕ)
  pub is : parts (last ++ more) ≡ (last ++ first) ∷ rest

some_first : (ps : List (List ℕ)) → 0 < length ps → (first : List ℕ) × (rest : List (List ℕ)) × (ps ≡ first ∷ rest)
some_first [] some = absurd (omega arith)
some_first (p ∷ ps) some = (p, ps, refl)

pub split_more : (last more : List ℕ) → IsFree last → Begins last more
split_more [] more free = let f = some_first (parts more) (some_part more) in record { first = f.0; rest = f.1; is = f.2 }
split_more (b ∷ last) more free =
    let tests = or_parts (b == 10) (list_any (λ b. b == 10) last) free in
    let later = split_more last more tests.1 in
    record {
      first = later.first;
      rest = later.rest;
      is = slice_split-cons_no (λ b. b == 10) b (last ++ more) tests.0 ∙ ap (onto_first b) later.is;
    }

-- no part has a line feed
free_onto : (b : ℕ) (test : Bool) (ps : List (List ℕ)) → (b == 10) ≡ test → 0 < length ps → AreFree ps
    → AreFree (cond test ([] ∷ ps) (onto_first b ps))
free_onto b true ps e some free = (refl, free)
free_onto b false [] e some free = absurd (omega arith)
free_onto b false (p ∷ ps) e some free = (or_from (b == 10) (list_any (λ b. b == 10) p) e free.0, free.1)

parts_free : (bytes : List ℕ) → AreFree (parts bytes)
parts_free [] = (refl, tt)
parts_free (b ∷ bytes) = free_onto b (b == 10) (parts bytes) refl (some_part bytes) (parts_free bytes)

but_last_free : (ps : List (List ℕ)) → AreFree ps → AreFree (but_last ps)
but_last_free [] free = tt
but_last_free (p ∷ []) free = tt
but_last_free (p ∷ next ∷ ps) free = (free.0, but_last_free (next ∷ ps) free.1)

last_part_free : (ps : List (List ℕ)) → AreFree ps → IsFree (last_part ps)
last_part_free [] free = refl
last_part_free (p ∷ []) free = free.0
last_part_free (p ∷ next ∷ ps) free = last_part_free (next ∷ ps) free.1

joined_cut : (ps : List (List ℕ)) → join_with_byte 10 ps ≡ lines_text (but_last ps) ++ last_part ps
joined_cut [] = refl
joined_cut (p ∷ []) = refl
joined_cut (p ∷ next ∷ ps) =
    ap (λ l. p ++ 10 ∷ l) (joined_cut (next ∷ ps)) ∙ sym (append_assoc p (10 ∷ lines_text (but_last (next ∷ ps))) (last_part (next ∷ ps)))

-- the whole lines of bytes, and the line that isn't ended
pub whole_free : (bytes : List ℕ) → AreFree (but_last (parts bytes))
whole_free bytes = but_last_free (parts bytes) (parts_free bytes)

pub unended_free : (bytes : List ℕ) → IsFree (last_part (parts bytes))
unended_free bytes = last_part_free (parts bytes) (parts_free bytes)

pub bytes_cut : (bytes : List ℕ) → bytes ≡ lines_text (but_last (parts bytes)) ++ last_part (parts bytes)
bytes_cut bytes = sym (join_with_byte-slice_split 10 bytes) ∙ joined_cut (parts bytes)

-- the lines of a text, and of what comes after it
map_append : (f : List ℕ → List ℕ) (xs ys : List (List ℕ)) → map f (xs ++ ys) ≡ map f xs ++ map f ys
map_append f [] ys = refl
map_append f (x ∷ xs) ys = ap (λ (l : List (List ℕ)). f x ∷ l) (map_append f xs ys)

lines_in_text : (ls : List (List ℕ)) (bytes : List ℕ) → AreFree ls
    → lines_in (parts (lines_text ls ++ bytes)) ≡ ls ++ lines_in (parts bytes)
lines_in_text [] bytes free = refl
lines_in_text (l ∷ ls) bytes free =
    let split : parts (lines_text (l ∷ ls) ++ bytes) ≡ l ∷ parts (lines_text ls ++ bytes) =
    ap parts (append_assoc l (10 ∷ lines_text ls) bytes) ∙ split_feed l (lines_text ls ++ bytes) free.0 in
    ap lines_in split ∙ before_others l (parts (lines_text ls ++ bytes)) (some_part (lines_text ls ++ bytes))
    ∙ ap (λ rest. l ∷ rest) (lines_in_text ls bytes free.1)

pub lines_of_text : (ls : List (List ℕ)) (bytes : List ℕ) → AreFree ls
    → lines_of (lines_text ls ++ bytes) ≡ map strip_carriage_return ls ++ lines_of bytes
lines_of_text ls bytes free =
    ap (map strip_carriage_return) (lines_in_text ls bytes free) ∙ map_append strip_carriage_return ls (lines_in (parts bytes))

-- a carriage return is one byte
pub strip_short : (l : List ℕ) → length (strip_carriage_return l) ≤ length l
strip_short l =
    cond_both (slice_index l (length l - 1) == 13) (take (length l - 1) l) l (λ s. length s ≤ length l)
    (λ e. grind (arith, common_steps)) (λ e. omega arith)

pub strip_long : (l : List ℕ) → length l ≤ length (strip_carriage_return l) + 1
strip_long l =
    cond_both (slice_index l (length l - 1) == 13) (take (length l - 1) l) l (λ s. length l ≤ length s + 1)
    (λ e. grind (arith, common_steps)) (λ e. omega arith)

-- a line that goes on doesn't get shorter
pub strip_more : (l more : List ℕ) → length (strip_carriage_return l) ≤ length (strip_carriage_return (l ++ more))
strip_more l [] = rw (append-nil l) (omega arith)
strip_more l (b ∷ more) = omega (arith, strip_short l, strip_long (l ++ b ∷ more), length-append l (b ∷ more))

-- a long line ends no header
pub rule_length : (line : List ℕ) → is_rule line ≡ true → length line ≡ 3
rule_length line rule = ap length ((bytes_decides line (codes "---")).0 rule)

pub long_no_rule : (line : List ℕ) → 3 < length line → is_rule line ≡ false
long_no_rule line long =
    cond_both (is_rule line) true false (λ b. is_rule line ≡ false) (λ e. absurd (omega (arith, rule_length line e))) (λ e. e)

-- the line that isn't ended as a line of its own, where it has a byte
pub lines_of_unended : (last : List ℕ) → IsFree last → 0 < length last → lines_of last ≡ strip_carriage_return last ∷ []
lines_of_unended [] free some = absurd (omega arith)
lines_of_unended (b ∷ last) free some = ap (λ ps. map strip_carriage_return (lines_in ps)) (split_free (λ b. b == 10) (b ∷ last) free)

-- and the first line of it and what comes after it
pub record FirstLine (last more : List ℕ) : Type 0 where
  pub line : List ℕ
  pub lines : List (List ℕ)
  pub is : lines_of (last ++ more) ≡ line ∷ lines
  pub longer : length (strip_carriage_return last) ≤ length line

first_in : (part : List ℕ) (rest : List (List ℕ)) → 0 < length part → (later : List (List ℕ)) × (lines_in (part ∷ rest) ≡ part ∷ later)
first_in [] rest some = absurd (omega arith)
first_in (b ∷ part) [] some = ([], refl)
first_in (b ∷ part) (next ∷ rest) some = (lines_in (next ∷ rest), refl)

pub first_line_of : (last more : List ℕ) → IsFree last → 0 < length last → FirstLine last more
first_line_of last more free some =
    let begins = split_more last more free in
    let first = first_in (last ++ begins.first) begins.rest (omega (arith, length-append last begins.first)) in
    record {
      line = strip_carriage_return (last ++ begins.first);
      lines = map strip_carriage_return first.0;
      is = ap (λ ps. map strip_carriage_return (lines_in ps)) begins.is ∙ ap (map strip_carriage_return) first.1;
      longer = strip_more last begins.first;
    }
