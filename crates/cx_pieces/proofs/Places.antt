-- Where the piece of a number is among chunks.
use Rattle.cx_base.proofs.Common.{◌≡◌, ◌<◌, ◌+◌, ◌*◌, ◌/◌, ◌%◌, ◌∙◌, ℕ, zero, suc, List, [], ◌∷◌, ◌++◌, Some, None, length, append_assoc}
use Rattle.cx_base.proofs.Common.{ap, refl, sym, arith, slice_get, div-add-mod', append-nil}
use Rattle.cx_pieces.specs.Chunks.{AreFull, all_of}

-- ---- an element of one list after another

pub in_first : {A : Type 0} (xs ys : List A) (n : ℕ) → n < length xs → slice_get (xs ++ ys) n ≡ slice_get xs n
in_first [] ys n l = absurd (omega (arith, l))
in_first (x ∷ xs) ys zero l = refl
in_first (x ∷ xs) ys (suc n) l = in_first xs ys n (omega (arith, l))

pub in_second : {A : Type 0} (xs ys : List A) (n m : ℕ) → m ≡ length xs + n → slice_get (xs ++ ys) m ≡ slice_get ys n
in_second [] ys n m e = let same : m ≡ n = omega (arith, e) in ap (slice_get ys) same
in_second (x ∷ xs) ys n zero e = absurd (omega (arith, e))
in_second (x ∷ xs) ys n (suc m) e = in_second xs ys n m (omega (arith, e))

-- ---- chunks of one size

-- how many pieces are before the chunk of a number
abbrev pub before : ℕ → ℕ → ℕ
before size zero = 0
before size (suc q) = size + before size q

found : (size : ℕ) (chunks : List (List (List ℕ))) (q r m : ℕ) (chunk : List (List ℕ)) → m ≡ before size q + r → r < size
    → AreFull size chunks → slice_get chunks q ≡ Some chunk → slice_get (all_of chunks) m ≡ slice_get chunk r
found size [] q r m chunk at l h e = cc
found size (c ∷ cs) zero r m chunk at l h e =
    let same : c ≡ chunk = cc in
    let place : m ≡ r = omega (arith, at) in
    ap (slice_get (c ++ all_of cs)) place ∙ in_first c (all_of cs) r (omega (arith, l, h.0))
    ∙ ap (λ (x : List (List ℕ)). slice_get x r) same
found size (c ∷ cs) (suc q) r m chunk at l h e =
    in_second c (all_of cs) (before size q + r) m (omega (arith, at, h.0)) ∙ found size cs q r (before size q + r) chunk refl l h.1 e

nowhere : (size : ℕ) (chunks : List (List (List ℕ))) (q r m : ℕ) → m ≡ before size q + r → AreFull size chunks → slice_get chunks q ≡ None
    → slice_get (all_of chunks) m ≡ None
nowhere size [] q r m at h e = refl
nowhere size (c ∷ cs) zero r m at h e = cc
nowhere size (c ∷ cs) (suc q) r m at h e =
    in_second c (all_of cs) (before size q + r) m (omega (arith, at, h.0)) ∙ nowhere size cs q r (before size q + r) refl h.1 e

before_is : (q : ℕ) → before 256 q ≡ q * 256
before_is zero = refl
before_is (suc q) = omega (arith, before_is q)

place_is : (n : ℕ) → n ≡ before 256 (n / 256) + n % 256
place_is n = omega (arith, before_is (n / 256), div-add-mod' n 256)

-- the piece of a number is in the chunk of number / 256, with number % 256 there
pub piece_there : (chunks : List (List (List ℕ))) (n : ℕ) (chunk : List (List ℕ)) → AreFull 256 chunks
    → slice_get chunks (n / 256) ≡ Some chunk → slice_get (all_of chunks) n ≡ slice_get chunk (n % 256)
piece_there chunks n chunk h e =
    let low : n % 256 < 256 = omega arith in
    found 256 chunks (n / 256) (n % 256) n chunk (place_is n) low h e

pub piece_nowhere : (chunks : List (List (List ℕ))) (n : ℕ) → AreFull 256 chunks → slice_get chunks (n / 256) ≡ None
    → slice_get (all_of chunks) n ≡ None
piece_nowhere chunks n h e = nowhere 256 chunks (n / 256) (n % 256) n (place_is n) h e

-- ---- one chunk more

pub all_more : (chunks : List (List (List ℕ))) (chunk : List (List ℕ)) → all_of (chunks ++ chunk ∷ []) ≡ all_of chunks ++ chunk
all_more [] chunk = append-nil chunk
all_more (c ∷ cs) chunk = ap (λ (l : List (List ℕ)). c ++ l) (all_more cs chunk) ∙ sym (append_assoc c (all_of cs) chunk)

pub full_more : (size : ℕ) (chunks : List (List (List ℕ))) (chunk : List (List ℕ)) → AreFull size chunks → length chunk ≡ size
    → AreFull size (chunks ++ chunk ∷ [])
full_more size [] chunk h e = (e, tt)
full_more size (c ∷ cs) chunk h e = (h.0, full_more size cs chunk h.1 e)
