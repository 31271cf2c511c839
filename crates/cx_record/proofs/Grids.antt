-- The two words of a grid are read back as the grid, and the word of a set of matchmakers as the set.
use Rattle.std.specs.List.{after_first, before_first}
use Rattle.std.proofs.lemmas.Fmt.{length-decimal-le}
use Rattle.std.proofs.Math.Nat.{le-mul_of_pos_right, mul-le-mul_right}
use Rattle.cx_base.proofs.Common.{◌≡◌, ◌∙◌, ◌<◌, ◌≤◌, ◌+◌, ◌*◌, ◌^◌, ◌==◌, ◌&&◌, not, nat_lt, nat_le, suc, ℕ, Bool, true, false, List, []}
use Rattle.cx_base.proofs.Common.{◌∷◌, ◌++◌, length, map, drop, None, Some, Ok, ap, sym, refl, arith, append_assoc, length-append, codes}
use Rattle.cx_base.proofs.Common.{is_none, digit_value, join_with_byte, list_all, position_or_len, slice_split, and_parts, nat_tests}
use Rattle.cx_base.proofs.Common.{take_at, IsGrid, Shape, are_new, first_twice, grid_fault, is_in, is_rising}
use Rattle.cx_letter.specs.Prelude.{decimal, Cluster}
use Rattle.cx_script.specs.Names.{names_members, names_set}
use Rattle.cx_script.specs.Places.{ids_of, members_word, set_word, sides_fit, sides_word}
use Rattle.cx_script.specs.Words.{is_empty}
use Rattle.cx_record.specs.Lines.{ids_text, sides_text}
use Rattle.cx_record.proofs.Digits.{decimal_avoids, decimal_short, no_break, no_comma, no_x, number_back, some_digit}
use Rattle.cx_record.proofs.Words.{AllAvoid, Avoids, IsWord, avoids_both, is_break, joined_avoids, length_so, some_first, split_joined}

-- ---- the sides

place_first : (p : ℕ → Bool) (w : List ℕ) (y : ℕ) (rest : List ℕ) → Avoids p w → p y ≡ true → position_or_len p (w ++ y ∷ rest) ≡ length w
place_first p [] y rest off cut = rw cut refl
place_first p (b ∷ w) y rest off cut = rw (off.0, place_first p w y rest off.1 cut) (omega arith)

before_so : (p : ℕ → Bool) (w : List ℕ) (y : ℕ) (rest : List ℕ) → Avoids p w → p y ≡ true → before_first p (w ++ y ∷ rest) ≡ w
before_so p w y rest off cut = take_at w (y ∷ rest) (position_or_len p (w ++ y ∷ rest)) (sym (place_first p w y rest off cut))

behind_byte : (w : List ℕ) (y : ℕ) (rest : List ℕ) → drop (length w + 1) (w ++ y ∷ rest) ≡ rest
behind_byte [] y rest = refl
behind_byte (b ∷ w) y rest =
    let n : length (b ∷ w) + 1 ≡ suc (length w + 1) = omega arith in ap (λ k. drop k (b ∷ w ++ y ∷ rest)) n ∙ behind_byte w y rest

after_so : (p : ℕ → Bool) (w : List ℕ) (y : ℕ) (rest : List ℕ) → Avoids p w → p y ≡ true → after_first p (w ++ y ∷ rest) ≡ rest
after_so p w y rest off cut = ap (λ k. drop (k + 1) (w ++ y ∷ rest)) (place_first p w y rest off cut) ∙ behind_byte w y rest

-- a side is at most as long as there are members
pub record AreSides (rows cols : ℕ) : Type 0 where
  pub rows_small : rows ≤ 16
  pub cols_small : cols ≤ 16
  pub some : 1 ≤ rows * cols
  pub fit : sides_fit rows cols ≡ true

sides_so : (rows cols : ℕ) → 1 ≤ rows → 1 ≤ cols → rows * cols ≤ 16 → AreSides rows cols
sides_so rows cols some_row some_col room =
    let r : rows ≤ rows * cols = le-mul_of_pos_right rows some_col in
    let c : 1 * cols ≤ rows * cols = mul-le-mul_right cols some_row in
    record {
      rows_small = omega (arith, r, room);
      cols_small = omega (arith, c, room);
      some = omega (arith, r, some_row);
      fit = rw (one rows some_row, one cols some_col, most (rows * cols) room) refl;
    }
  where
    one : (n : ℕ) → 1 ≤ n → nat_le 1 n ≡ true
    one n l = grind (arith, nat_tests)

    most : (n : ℕ) → n ≤ 16 → nat_le n 16 ≡ true
    most n l = grind (arith, nat_tests)

wide : (n : ℕ) → n ≤ 16 → n < 2 ^ 64
wide n small = omega (arith, small)

pub are_sides : (g : Shape) → IsGrid g → AreSides g.rows g.cols
are_sides g is = sides_so g.rows g.cols is.some_row is.some_col is.room

with_x : (g : Shape) → sides_text g ≡ decimal g.rows ++ 120 ∷ decimal g.cols
with_x g = append_assoc (decimal g.rows) (codes "x") (decimal g.cols)

pub sides_back : (g : Shape) → IsGrid g → sides_word (sides_text g) ≡ Ok (g.rows, g.cols)
sides_back g is =
    let sides = are_sides g is in
    let rows = wide g.rows sides.rows_small in
    let cols = wide g.cols sides.cols_small in
    let off = decimal_avoids (λ b. b == 120) no_x g.rows rows in
    rw (
      with_x g,
      before_so (λ b. b == 120) (decimal g.rows) 120 (decimal g.cols) off refl,
      after_so (λ b. b == 120) (decimal g.rows) 120 (decimal g.cols) off refl,
      number_back g.rows rows,
      number_back g.cols cols,
      sides.fit,
    ) refl

pub sides_are_word : (g : Shape) → IsGrid g → IsWord (sides_text g)
sides_are_word g is =
    let sides = are_sides g is in
    let rows = wide g.rows sides.rows_small in
    let cols = wide g.cols sides.cols_small in
    let short = length_so (decimal g.rows ++ codes "x") (decimal g.cols) 21 20
    (length_so (decimal g.rows) (codes "x") 20 1 (decimal_short g.rows rows) (omega arith)) (decimal_short g.cols cols) in
    record {
      some = some_first (decimal g.rows ++ codes "x") (decimal g.cols) (some_first (decimal g.rows) (codes "x") (some_digit g.rows rows));
      off = avoids_both is_break (decimal g.rows ++ codes "x") (decimal g.cols) (avoids_both is_break (decimal g.rows) (codes "x")
          (decimal_avoids is_break no_break g.rows rows) (refl, tt)) (decimal_avoids is_break no_break g.cols cols);
      short = omega (arith, short);
    }

-- ---- the members

small_id : (count id : ℕ) → count ≤ 64 → nat_lt id count ≡ true → id < 64
small_id count id most less = grind (arith, nat_tests)

wide_id : (id : ℕ) → id < 64 → id < 2 ^ 64
wide_id id small = omega (arith, small)

abbrev AreIds : ℕ → List ℕ → Type 0
AreIds count ids = list_all (λ id. nat_lt id count) ids ≡ true

ids_parts : (p : ℕ → Bool) → ((b : ℕ) → digit_value b < 10 → p b ≡ false) → (count : ℕ) → count ≤ 64 → (ids : List ℕ) → AreIds count ids
    → AllAvoid p (map decimal ids)
ids_parts p off count most [] are = tt
ids_parts p off count most (id ∷ ids) are =
    let q = and_parts (nat_lt id count) (list_all (λ i. nat_lt i count) ids) are in
    (decimal_avoids p off id (wide_id id (small_id count id most q.0)), ids_parts p off count most ids q.1)

each_id : (count : ℕ) → count ≤ 64 → (ids : List ℕ) → AreIds count ids → ids_of count (map decimal ids) ≡ Some ids
each_id count most [] are = refl
each_id count most (id ∷ ids) are =
    let q = and_parts (nat_lt id count) (list_all (λ i. nat_lt i count) ids) are in
    rw (number_back id (wide_id id (small_id count id most q.0)), q.0, each_id count most ids q.1) refl

ids_back : (count : ℕ) → count ≤ 64 → (ids : List ℕ) → 1 ≤ length ids → AreIds count ids
    → ids_of count (slice_split (λ b. b == 44) (ids_text ids)) ≡ Some ids
ids_back count most [] some are = absurd (omega (arith, some))
ids_back count most (id ∷ ids) some are = ap (λ (l : List (List ℕ)). ids_of count l) (split_joined (λ b. b == 44) 44 refl (decimal id)
    (map decimal ids) (ids_parts (λ b. b == 44) no_comma count most (id ∷ ids) are)) ∙ each_id count most (id ∷ ids) are

some_ids : (count : ℕ) → count ≤ 64 → (ids : List ℕ) → 1 ≤ length ids → AreIds count ids → is_empty (ids_text ids) ≡ false
some_ids count most [] some are = absurd (omega (arith, some))
some_ids count most (id ∷ []) some are = some_digit id (wide_id id (small_id count id most (and_parts (nat_lt id count) true are).0))
some_ids count most (id ∷ next ∷ ids) some are =
    let q = and_parts (nat_lt id count) (list_all (λ i. nat_lt i count) (next ∷ ids)) are in
    some_first (decimal id) (44 ∷ join_with_byte 44 (map decimal (next ∷ ids))) (some_digit id (wide_id id (small_id count id most q.0)))

-- an id below 64 has two digits at most
id_short : (id : ℕ) → id < 64 → length (decimal id) ≤ 2
id_short id small = length-decimal-le 2 id (omega arith) (omega (arith, small)) (wide_id id small)

ids_short : (count : ℕ) → count ≤ 64 → (ids : List ℕ) → AreIds count ids → length (ids_text ids) ≤ 3 * length ids
ids_short count most [] are = omega arith
ids_short count most (id ∷ []) are =
    let short = id_short id (small_id count id most (and_parts (nat_lt id count) true are).0) in
    omega (arith, short)
ids_short count most (id ∷ next ∷ ids) are =
    let q = and_parts (nat_lt id count) (list_all (λ i. nat_lt i count) (next ∷ ids)) are in
    let short = id_short id (small_id count id most q.0) in
    let rest = ids_short count most (next ∷ ids) q.1 in
    omega (arith, short, rest, length-append (decimal id) (44 ∷ ids_text (next ∷ ids)))

ids_are_word : (count : ℕ) → count ≤ 64 → (ids : List ℕ) → 1 ≤ length ids → length ids ≤ 16 → AreIds count ids → IsWord (ids_text ids)
ids_are_word count most ids some few are =
    let short = ids_short count most ids are in
    record {
      some = some_ids count most ids some are;
      off = joined_avoids is_break 44 refl (map decimal ids) (ids_parts is_break no_break count most ids are);
      short = omega (arith, short, few);
    }

-- ---- the whole grid

none_twice : (before ids : List ℕ) → are_new before ids ≡ true → first_twice before ids ≡ None
none_twice before [] new = refl
none_twice before (id ∷ ids) new =
    let q = and_parts (not (is_in id before)) (are_new (before ++ id ∷ []) ids) new in
    rw (not_in (is_in id before) q.0, none_twice (before ++ id ∷ []) ids q.1) refl
  where
    not_in : (t : Bool) → not t ≡ true → t ≡ false
    not_in true e = cc
    not_in false e = refl

faultless : (rows cols : ℕ) (ids : List ℕ) → 1 ≤ rows → 1 ≤ cols → rows * cols ≤ 16 → length ids ≡ rows * cols → are_new [] ids ≡ true
    → is_none (grid_fault rows cols ids) ≡ true
faultless rows cols ids some_row some_col room count once =
    rw (some rows some_row, some cols some_col, fits (rows * cols) room, same (length ids) (rows * cols) count, none_twice [] ids once) refl
  where
    some : (n : ℕ) → 1 ≤ n → (n == 0) ≡ false
    some n l = grind (arith, nat_tests)

    fits : (n : ℕ) → n ≤ 16 → nat_lt 16 n ≡ false
    fits n l = grind (arith, nat_tests)

    same : (m n : ℕ) → m ≡ n → (m == n) ≡ true
    same m n e = grind (arith, nat_tests)

some_member : (g : Shape) → IsGrid g → 1 ≤ length g.members
some_member g is = let count = is.count in let some = (are_sides g is).some in omega (arith, count, some)

pub members_back : (c : Cluster) (g : Shape) → IsGrid g → names_members c g ≡ true
    → members_word c g.rows g.cols (ids_text g.members) ≡ Ok g
members_back c g is named = rw (
  ids_back c.acceptors c.acceptors_fit g.members (some_member g is) named,
  faultless g.rows g.cols g.members is.some_row is.some_col is.room is.count is.once,
) refl

pub members_are_word : (c : Cluster) (g : Shape) → IsGrid g → names_members c g ≡ true → IsWord (ids_text g.members)
members_are_word c g is named =
    let count = is.count in
    let room = is.room in
    ids_are_word c.acceptors c.acceptors_fit g.members (some_member g is) (omega (arith, count, room)) named

-- ---- a set

pub record IsSet (c : Cluster) (s : List ℕ) : Type 0 where
  pub counted : ((length s == 2 * c.f + 1) && is_rising s) ≡ true
  pub some : 1 ≤ length s
  pub few : length s ≤ 16
  pub ids : AreIds c.pool s

is_set : (c : Cluster) (s : List ℕ) → names_set c s ≡ true → IsSet c s
is_set c s named =
    let p = and_parts ((length s == 2 * c.f + 1) && is_rising s) (list_all (λ id. nat_lt id c.pool) s) named in
    let q = and_parts (length s == 2 * c.f + 1) (is_rising s) p.0 in
    let count = same (length s) (2 * c.f + 1) q.0 in
    let fit = c.f_fits in
    record { counted = p.0; some = omega (arith, count); few = omega (arith, count, fit); ids = p.1 }
  where
    same : (m n : ℕ) → (m == n) ≡ true → m ≡ n
    same m n e = grind (arith, nat_tests)

pub set_back : (c : Cluster) (s : List ℕ) → names_set c s ≡ true → set_word c (ids_text s) ≡ Ok s
set_back c s named =
    let is = is_set c s named in
    rw (ids_back c.pool c.pool_fits s is.some is.ids, is.counted) refl

pub set_is_word : (c : Cluster) (s : List ℕ) → names_set c s ≡ true → IsWord (ids_text s)
set_is_word c s named =
    let is = is_set c s named in
    ids_are_word c.pool c.pool_fits s is.some is.few is.ids
