-- Words of a line: each has a byte and no break, and is short. Such words with one blank between them are cut into these words again.
use Rattle.cx_base.proofs.Common.{◌≡◌, ◌∙◌, ◌≤◌, ◌+◌, ◌*◌, ◌==◌, ◌||◌, not, ℕ, Bool, true, false, List, [], ◌∷◌, ◌++◌, length, filter, ap}
use Rattle.cx_base.proofs.Common.{refl, arith, length-append, join_with_byte, list_all, slice_split, and_parts, nat_tests}
use Rattle.cx_script.specs.Words.{is_blank, is_empty, words_of}

-- no byte of a list passes
abbrev pub Avoids : (ℕ → Bool) → List ℕ → Type 0
Avoids p [] = Unit {0}
Avoids p (b ∷ bs) = (p b ≡ false) × Avoids p bs

pub avoids_both : (p : ℕ → Bool) (v w : List ℕ) → Avoids p v → Avoids p w → Avoids p (v ++ w)
avoids_both p [] w a b = b
avoids_both p (x ∷ v) w a b = (a.0, avoids_both p v w a.1 b)

pub avoids_so : (p : ℕ → Bool) (w : List ℕ) → list_all (λ b. not (p b)) w ≡ true → Avoids p w
avoids_so p [] all = tt
avoids_so p (b ∷ w) all =
    let q = and_parts (not (p b)) (list_all (λ b. not (p b)) w) all in
    (off (p b) q.0, avoids_so p w q.1)
  where
    off : (t : Bool) → not t ≡ true → t ≡ false
    off true e = cc
    off false e = refl

-- what avoids more avoids less
pub avoids_less : (p q : ℕ → Bool) → ((b : ℕ) → p b ≡ false → q b ≡ false) → (w : List ℕ) → Avoids p w → Avoids q w
avoids_less p q less [] off = tt
avoids_less p q less (b ∷ w) off = (less b off.0, avoids_less p q less w off.1)

-- ---- parts with a byte between them are the parts round that byte

pub split_one : (p : ℕ → Bool) (w : List ℕ) → Avoids p w → slice_split p w ≡ w ∷ []
split_one p [] off = refl
split_one p (b ∷ w) off = rw (off.0, split_one p w off.1) refl

pub split_first : (p : ℕ → Bool) (w : List ℕ) (y : ℕ) (rest : List ℕ) → Avoids p w → p y ≡ true
    → slice_split p (w ++ y ∷ rest) ≡ w ∷ slice_split p rest
split_first p [] y rest off cut = rw cut refl
split_first p (b ∷ w) y rest off cut = rw (off.0, split_first p w y rest off.1 cut) refl

abbrev pub AllAvoid : (ℕ → Bool) → List (List ℕ) → Type 0
AllAvoid p [] = Unit {0}
AllAvoid p (w ∷ ws) = Avoids p w × AllAvoid p ws

pub split_joined : (p : ℕ → Bool) (y : ℕ) → p y ≡ true → (w : List ℕ) (ws : List (List ℕ)) → AllAvoid p (w ∷ ws)
    → slice_split p (join_with_byte y (w ∷ ws)) ≡ w ∷ ws
split_joined p y cut w [] off = split_one p w off.0
split_joined p y cut w (v ∷ ws) off =
    split_first p w y (join_with_byte y (v ∷ ws)) off.0 cut ∙ ap (λ l. w ∷ l) (split_joined p y cut v ws off.1)

-- joined words avoid what each of them and the byte between them do
pub joined_avoids : (p : ℕ → Bool) (y : ℕ) → p y ≡ false → (ws : List (List ℕ)) → AllAvoid p ws → Avoids p (join_with_byte y ws)
joined_avoids p y keep [] off = tt
joined_avoids p y keep (w ∷ []) off = off.0
joined_avoids p y keep (w ∷ v ∷ ws) off =
    avoids_both p w (y ∷ join_with_byte y (v ∷ ws)) off.0 (keep, joined_avoids p y keep (v ∷ ws) off.1)

-- ---- words

-- a blank, or a byte that ends a line
abbrev pub is_break : ℕ → Bool
is_break b = (b == 32) || (b == 9) || (b == 10) || (b == 13)

-- a word has a byte, no break, and 64 bytes at most
pub record IsWord (w : List ℕ) : Type 0 where
  pub some : is_empty w ≡ false
  pub off : Avoids is_break w
  pub short : length w ≤ 64

abbrev pub AreWords : List (List ℕ) → Type 0
AreWords [] = Unit {0}
AreWords (w ∷ ws) = IsWord w × AreWords ws

pub words_avoid : (p : ℕ → Bool) → ((b : ℕ) → is_break b ≡ false → p b ≡ false) → (ws : List (List ℕ)) → AreWords ws → AllAvoid p ws
words_avoid p less [] are = tt
words_avoid p less (w ∷ ws) are = (avoids_less is_break p less w are.0.off, words_avoid p less ws are.1)

blank_less : (b : ℕ) → is_break b ≡ false → is_blank b ≡ false
blank_less b off = grind (arith, nat_tests)

abbrev keep : List ℕ → Bool
keep w = not (is_empty w)

all_kept : (ws : List (List ℕ)) → AreWords ws → filter keep ws ≡ ws
all_kept [] are = refl
all_kept (w ∷ ws) are = rw (are.0.some, all_kept ws are.1) refl

pub words_back : (ws : List (List ℕ)) → AreWords ws → words_of (join_with_byte 32 ws) ≡ ws
words_back [] are = refl
words_back (w ∷ ws) are =
    ap (filter keep) (split_joined is_blank 32 refl w ws (words_avoid is_blank blank_less (w ∷ ws) are)) ∙ all_kept (w ∷ ws) are

-- a line of words is as long as they are, with a byte for each
pub joined_short : (ws : List (List ℕ)) → AreWords ws → length (join_with_byte 32 ws) ≤ 65 * length ws
joined_short [] are = omega arith
joined_short (w ∷ []) are = let short = are.0.short in omega (arith, short)
joined_short (w ∷ v ∷ ws) are =
    let short = are.0.short in
    let rest = joined_short (v ∷ ws) are.1 in
    omega (arith, short, rest, length-append w (32 ∷ join_with_byte 32 (v ∷ ws)))

-- ---- joined parts as one

pub length_so : (v w : List ℕ) (m n : ℕ) → length v ≤ m → length w ≤ n → length (v ++ w) ≤ m + n
length_so v w m n a b = omega (arith, a, b, length-append v w)

pub some_first : (v w : List ℕ) → is_empty v ≡ false → is_empty (v ++ w) ≡ false
some_first [] w e = cc
some_first (b ∷ v) w e = refl
