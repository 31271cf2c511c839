-- What each word of a line says in its place.
use Rattle.cx_base.proofs.Common.{◌∙◌, ap, arith, append_assoc, eqb-true, and_parts, nat_tests, is_name_byte, kind_text}
use Rattle.cx_letter.specs.Prelude.{◌≡◌, ◌<◌, ◌≤◌, ◌+◌, ◌-◌, ◌^◌, ◌==◌, not, nat_lt, nat_le, ℕ, Bool, true, false, List, [], ◌∷◌, ◌++◌}
use Rattle.cx_letter.specs.Prelude.{length, Ok, refl, if◌then◌else◌, codes, decimal, list_all, slice_split, floor_fits, count_of, Cluster}
use Rattle.cx_letter.specs.Prelude.{Cut, Whole, Torn, Kept, Kind, Client, Batcher, Leader, Proxy, Acceptor, Matchmaker, Replica, Unbatcher}
use Rattle.cx_letter.specs.Prelude.{Reader, Replacer, IsName, puts_anew, role, role_text}
use Rattle.cx_base.specs.Name.{is_name}
use Rattle.cx_script.specs.Grammar.{cut_at}
use Rattle.cx_script.specs.Names.{is_client}
use Rattle.cx_script.specs.Places.{index_word, key_word, number_word, other_word, seq_word, server_word, slot_word, renewing_word}
use Rattle.cx_script.specs.Places.{text_word}
use Rattle.cx_script.specs.Words.{is_empty}
use Rattle.cx_trace.specs.Trace.{seq_text}
use Rattle.cx_record.specs.Lines.{cut_words}
use Rattle.cx_record.proofs.Digits.{decimal_avoids, decimal_short, decimal_word, no_break, no_slash, number_back, some_digit}
use Rattle.cx_record.proofs.Words.{AreWords, Avoids, IsWord, avoids_both, avoids_so, is_break, length_so, some_first, split_first}
use Rattle.cx_record.proofs.Words.{split_one}

-- ---- roles

counts : (c : Cluster) (k : Kind) → count_of c k ≤ 64
counts c Client = c.clients_fit
counts c Batcher = let fit = c.batchers_fit in omega (arith, fit)
counts c Leader = let fit = c.leaders_fit in omega (arith, fit)
counts c Proxy = let fit = c.proxies_fit in omega (arith, fit)
counts c Acceptor = c.acceptors_fit
counts c Matchmaker = c.pool_fits
counts c Replica = let fit = c.replicas_fit in omega (arith, fit)
counts c Unbatcher = let fit = c.unbatchers_fit in omega (arith, fit)
counts c Reader = let fit = c.readers_fit in omega (arith, fit)
counts c Replacer = let fit = c.replacers_fit in omega (arith, fit)

below : (i n : ℕ) → nat_lt i n ≡ true → n ≤ 64 → i < 64
below i n less most = grind (arith, nat_tests)

wide : (i : ℕ) → i < 64 → i < 2 ^ 64
wide i small = omega (arith, small)

-- an index of a role of the cluster
abbrev pub IsIndex : Cluster → Kind → ℕ → Type 0
IsIndex c k i = nat_lt i (count_of c k) ≡ true

small_index : (c : Cluster) (k : Kind) (i : ℕ) → IsIndex c k i → i < 2 ^ 64
small_index c k i is = wide i (below i (count_of c k) is (counts c k))

kind_avoids : (k : Kind) → Avoids is_break (kind_text k ++ codes ":")
kind_avoids Client = avoids_so is_break (kind_text Client ++ codes ":") refl
kind_avoids other = avoids_so is_break (kind_text other ++ codes ":") refl

some_kind : (k : Kind) → is_empty (kind_text k ++ codes ":") ≡ false
some_kind Client = refl
some_kind other = refl

short_kind : (k : Kind) → length (kind_text k ++ codes ":") ≤ 10
short_kind Client = omega arith
short_kind other = omega arith

pub role_word : (c : Cluster) (k : Kind) (i : ℕ) → IsIndex c k i → IsWord (role_text (role k i))
role_word c k i is =
    let small = small_index c k i is in
    let short = length_so (kind_text k ++ codes ":") (decimal i) 10 20 (short_kind k) (decimal_short i small) in
    record {
      some = some_first (kind_text k ++ codes ":") (decimal i) (some_kind k);
      off = avoids_both is_break (kind_text k ++ codes ":") (decimal i) (kind_avoids k) (decimal_avoids is_break no_break i small);
      short = omega (arith, short);
    }

pub index_back : (c : Cluster) (k : Kind) (i : ℕ) → IsIndex c k i → index_word c k (role_text (role k i)) ≡ Ok i
index_back c Client i is = rw (number_back i (small_index c Client i is), is) refl
index_back c other i is = rw (number_back i (small_index c other i is), is) refl

-- that isn't the first one
pub other_back : (c : Cluster) (k : Kind) (first i : ℕ) → IsIndex c k i → not (i == first) ≡ true
    → other_word c k first (role_text (role k i)) ≡ Ok i
other_back c k first i is apart = rw (index_back c k i is, off (i == first) apart) refl
  where
    off : (b : Bool) → not b ≡ true → b ≡ false
    off true e = cc
    off false e = refl

pub server_back : (c : Cluster) (k : Kind) (i : ℕ) → IsIndex c k i → not (is_client k) ≡ true
    → server_word c (role_text (role k i)) ≡ Ok (role k i)
server_back c Client i is off = cc
server_back c other i is off = rw (number_back i (small_index c other i is), is) refl

-- of a kind that puts its list anew
pub snap_back : (c : Cluster) (k : Kind) (i : ℕ) → IsIndex c k i → puts_anew k ≡ true
    → renewing_word c (role_text (role k i)) ≡ Ok (role k i)
snap_back c Acceptor i is anew = rw (number_back i (small_index c Acceptor i is), is) refl
snap_back c Replica i is anew = rw (number_back i (small_index c Replica i is), is) refl
snap_back c Reader i is anew = rw (number_back i (small_index c Reader i is), is) refl
snap_back c other i is anew = cc

-- ---- numbers, keys and texts

pub number_word_back : (n : ℕ) → n < 2 ^ 64 → number_word (decimal n) ≡ Ok n
number_word_back n small = rw (number_back n small) refl

pub small_slot : (s : ℕ) → nat_le s 1099511627776 ≡ true → s < 2 ^ 64
small_slot s most = grind (arith, nat_tests)

pub slot_back : (s : ℕ) → nat_le s 1099511627776 ≡ true → slot_word (decimal s) ≡ Ok s
slot_back s most = rw (number_back s (small_slot s most), most) refl

floor_small : (seq floor : ℕ) → floor_fits seq floor ≡ true → seq < 2 ^ 64 → floor < 2 ^ 64
floor_small seq floor fits small =
    let less = (and_parts (nat_lt floor seq) (nat_le seq (floor + 64)) fits).0 in
    go seq floor less small
  where
    go : (seq floor : ℕ) → nat_lt floor seq ≡ true → seq < 2 ^ 64 → floor < 2 ^ 64
    go seq floor less small = grind (arith, nat_tests)

-- a slash, and the floor behind it
with_slash : (seq floor : ℕ) → (decimal seq ++ codes "/" ++ decimal floor) ≡ decimal seq ++ 47 ∷ decimal floor
with_slash seq floor = append_assoc (decimal seq) (codes "/") (decimal floor)

pub seq_back : (seq floor : ℕ) → seq < 2 ^ 64 → floor_fits seq floor ≡ true → seq_word (seq_text seq floor) ≡ Ok (seq, floor)
unfolding seq_text
seq_back seq floor small fits = go (floor + 1 == seq) refl
  where
    alone : (seq floor : ℕ) → floor + 1 ≡ seq → seq - 1 ≡ floor
    alone seq floor is = omega (arith, is)

    go : (test : Bool) → (floor + 1 == seq) ≡ test
        → seq_word (if test then decimal seq else decimal seq ++ codes "/" ++ decimal floor) ≡ Ok (seq, floor)
    go true is =
        let parts : slice_split (λ b. b == 47) (decimal seq) ≡ decimal seq ∷ [] =
        split_one (λ b. b == 47) (decimal seq) (decimal_avoids (λ b. b == 47) no_slash seq small) in
        rw (parts, number_back seq small, alone seq floor (eqb-true (floor + 1) seq is), fits) refl
    go false is =
        let wide = floor_small seq floor fits small in
        let parts : slice_split (λ b. b == 47) (decimal seq ++ 47 ∷ decimal floor) ≡ decimal seq ∷ decimal floor ∷ [] =
        split_first (λ b. b == 47) (decimal seq) 47 (decimal floor) (decimal_avoids (λ b. b == 47) no_slash seq small) refl
        ∙ ap (λ (l : List (List ℕ)). decimal seq ∷ l)
        (split_one (λ b. b == 47) (decimal floor) (decimal_avoids (λ b. b == 47) no_slash floor wide)) in
        rw (with_slash seq floor, parts, number_back seq small, number_back floor wide, fits) refl

pub seq_is_word : (seq floor : ℕ) → seq < 2 ^ 64 → floor_fits seq floor ≡ true → IsWord (seq_text seq floor)
unfolding seq_text
seq_is_word seq floor small fits = go (floor + 1 == seq)
  where
    go : (test : Bool) → IsWord (if test then decimal seq else decimal seq ++ codes "/" ++ decimal floor)
    go true = decimal_word seq small
    go false =
        let wide = floor_small seq floor fits small in
        let short = length_so (decimal seq ++ codes "/") (decimal floor) 21 20
        (length_so (decimal seq) (codes "/") 20 1 (decimal_short seq small) (omega arith)) (decimal_short floor wide) in
        record {
          some = some_first (decimal seq ++ codes "/") (decimal floor) (some_first (decimal seq) (codes "/") (some_digit seq small));
          off = avoids_both is_break (decimal seq ++ codes "/") (decimal floor) (avoids_both is_break (decimal seq) (codes "/")
              (decimal_avoids is_break no_break seq small) (refl, tt)) (decimal_avoids is_break no_break floor wide);
          short = omega (arith, short);
        }

no_break_name : (b : ℕ) → is_name_byte b ≡ true → is_break b ≡ false
no_break_name b is = grind (arith, nat_tests)

no_break_names : (bs : List ℕ) → list_all is_name_byte bs ≡ true → Avoids is_break bs
no_break_names [] all = tt
no_break_names (b ∷ bs) all =
    let p = and_parts (is_name_byte b) (list_all is_name_byte bs) all in (no_break_name b p.0, no_break_names bs p.1)

some_so : (bs : List ℕ) → 1 ≤ length bs → is_empty bs ≡ false
some_so [] some = absurd (omega (arith, some))
some_so (b ∷ bs) some = refl

pub name_word : (limit : ℕ) (bs : List ℕ) → limit ≤ 64 → IsName limit bs → IsWord bs
name_word limit bs most is =
    let room = is.room in
    record { some = some_so bs is.some; off = no_break_names bs is.each; short = omega (arith, room, most) }

name_so : (limit : ℕ) (bs : List ℕ) → IsName limit bs → is_name limit bs ≡ true
name_so limit bs is = rw (some (length bs) is.some, room (length bs) limit is.room, is.each) refl
  where
    some : (n : ℕ) → 1 ≤ n → nat_le 1 n ≡ true
    some n l = grind (arith, nat_tests)

    room : (n m : ℕ) → n ≤ m → nat_le n m ≡ true
    room n m l = grind (arith, nat_tests)

pub key_back : (k : List ℕ) → IsName 32 k → key_word k ≡ Ok k
key_back k is = rw (name_so 32 k is) refl

pub text_back : (t : List ℕ) → IsName 64 t → text_word t ≡ Ok t
text_back t is = rw (name_so 64 t is) refl

-- ---- cuts

pub cut_back : (cut : Cut) → cut_at (cut_words cut) ≡ Ok cut
cut_back Whole = refl
cut_back Torn = refl
cut_back Kept = refl

pub plain_word : (w : List ℕ) → is_empty w ≡ false → list_all (λ b. not (is_break b)) w ≡ true → nat_le (length w) 64 ≡ true → IsWord w
plain_word w some all short = record { some = some; off = avoids_so is_break w all; short = fits (length w) short }
  where
    fits : (n : ℕ) → nat_le n 64 ≡ true → n ≤ 64
    fits n l = grind (arith, nat_tests)

pub cut_are_words : (cut : Cut) → AreWords (cut_words cut)
cut_are_words Whole = tt
cut_are_words Torn = (plain_word (codes "torn") refl refl refl, tt)
cut_are_words Kept = (plain_word (codes "kept") refl refl refl, tt)
