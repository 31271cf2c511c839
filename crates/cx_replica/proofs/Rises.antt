-- Lists that rise, seen by each value and the one before it.
use Rattle.cx_role.proofs.Common.{◌≡◌, ◌⊎◌, ℕ, zero, suc, ◌+◌, ◌≤◌, Bool, true, false, ◌&&◌, List, [], ◌∷◌, ◌++◌, inl, inr, ap, sym, ◌∙◌}
use Rattle.cx_role.proofs.Common.{refl, arith, length, get_or, ◌==◌, nat_le, nat_lt, None, is_some, list_all, and_from, and_parts}
use Rattle.cx_role.proofs.Common.{cases_Bool, nat_tests, floor_fits, are_client_notes, Floor, Note, Pair, rises, are_rising, floor_of}
use Rattle.cx_kv.specs.Rising.{has_lower_key}
use Rattle.cx_kv.proofs.Keys.{is_less-trans}
use Rattle.cx_table.specs.Entries.{has_lower}

same_truth : (b c : Bool) → (b ≡ true → c ≡ true) → (c ≡ true → b ≡ true) → b ≡ c
same_truth true c f g = sym (f refl)
same_truth false true f g = g refl
same_truth false false f g = refl

module _ {A : Type 0} (before : A → A → Bool) (trans : (x y z : A) → before x y ≡ true → before y z ≡ true → before x z ≡ true) where
  all_behind : (x y : A) (xs : List A) → before x y ≡ true → list_all (λ z. before y z) xs ≡ true → list_all (λ z. before x z) xs ≡ true
  all_behind x y [] h all = refl
  all_behind x y (z ∷ xs) h all =
      let p = and_parts (before y z) (list_all (λ w. before y w) xs) all in
      and_from (before x z) (list_all (λ w. before x w) xs) (trans x y z h p.0) (all_behind x y xs h p.1)

  -- a value before the first of a list
  pub rises_next : (x y : A) (xs : List A) → rises before (x ∷ y ∷ xs) ≡ (before x y && rises before (y ∷ xs))
  rises_next x y xs = same_truth (rises before (x ∷ y ∷ xs)) (before x y && rises before (y ∷ xs)) there back
    where
      there : rises before (x ∷ y ∷ xs) ≡ true → (before x y && rises before (y ∷ xs)) ≡ true
      there h =
          let p = and_parts (list_all (λ z. before x z) (y ∷ xs)) (rises before (y ∷ xs)) h in
          and_from (before x y) (rises before (y ∷ xs)) (and_parts (before x y) (list_all (λ z. before x z) xs) p.0).0 p.1

      back : (before x y && rises before (y ∷ xs)) ≡ true → rises before (x ∷ y ∷ xs) ≡ true
      back h =
          let p = and_parts (before x y) (rises before (y ∷ xs)) h in
          let q = and_parts (list_all (λ z. before y z) xs) (rises before xs) p.1 in
          and_from (list_all (λ z. before x z) (y ∷ xs)) (rises before (y ∷ xs))
          (and_from (before x y) (list_all (λ z. before x z) xs) p.0 (all_behind x y xs p.0 q.0)) p.1

  -- what follows a rising list is seen by its last value
  pub rises_last : (xs ys : List A) (last : A) → length xs ≡ length xs → rises before xs ≡ true → (i : ℕ) → i + 1 ≡ length xs
      → ((d : A) → get_or xs i d ≡ last) → rises before (last ∷ ys) ≡ rises before (xs ++ ys)
  rises_last [] ys last same rising i end is = absurd (omega arith)
  rises_last (x ∷ []) ys last same rising i end is =
      (let first : i ≡ 0 = omega arith in ap (λ (y : A). rises before (y ∷ ys)) (sym (is x) ∙ rw first refl))
  rises_last (x ∷ y ∷ xs) ys last same rising zero end is = absurd (omega arith)
  rises_last (x ∷ y ∷ xs) ys last same rising (suc i) end is =
      let p = and_parts (before x y) (rises before (y ∷ xs)) (sym (rises_next x y xs) ∙ rising) in
      let rest = rises_last (y ∷ xs) ys last refl p.1 i (omega arith) is in
      rest ∙ sym (rises_next x y (xs ++ ys) ∙ ap (λ b. b && rises before (y ∷ (xs ++ ys))) p.0)

key_trans : (p q r : Pair) → has_lower_key p q ≡ true → has_lower_key q r ≡ true → has_lower_key p r ≡ true
key_trans p q r h k = is_less-trans p.key q.key r.key h k

number_trans : (n m o : Note) → has_lower n m ≡ true → has_lower m o ≡ true → has_lower n o ≡ true
number_trans n m o h k = grind (arith, nat_tests, h, k)

pub keys_next : (p q : Pair) (pairs : List Pair)
    → rises has_lower_key (p ∷ q ∷ pairs) ≡ (has_lower_key p q && rises has_lower_key (q ∷ pairs))
keys_next p q pairs = rises_next has_lower_key key_trans p q pairs

pub numbers_next : (n m : Note) (notes : List Note) → rises has_lower (n ∷ m ∷ notes) ≡ (has_lower n m && rises has_lower (m ∷ notes))
numbers_next n m notes = rises_next has_lower number_trans n m notes

pub keys_last : (map pairs : List Pair) (last : Pair) → rises has_lower_key map ≡ true → (i : ℕ) → i + 1 ≡ length map
    → ((d : Pair) → get_or map i d ≡ last) → rises has_lower_key (last ∷ pairs) ≡ rises has_lower_key (map ++ pairs)
keys_last map pairs last rising i end is = rises_last has_lower_key key_trans map pairs last refl rising i end is

-- one value further
pub keys_on : (last p : Pair) (rest left : List Pair) (all : Bool) → left ≡ p ∷ rest → has_lower_key last p ≡ true
    → rises has_lower_key (last ∷ left) ≡ all → rises has_lower_key (p ∷ rest) ≡ all
keys_on last p rest left all more less is = sym (ap (λ b. b && rises has_lower_key (p ∷ rest)) less) ∙ sym (keys_next last p rest)
    ∙ ap (λ (l : List Pair). rises has_lower_key (last ∷ l)) (sym more) ∙ is

pub numbers_on : (last n : Note) (rest left : List Note) (all : Bool) → left ≡ n ∷ rest → has_lower last n ≡ true
    → rises has_lower (last ∷ left) ≡ all → rises has_lower (n ∷ rest) ≡ all
numbers_on last n rest left all more less is = sym (ap (λ b. b && rises has_lower (n ∷ rest)) less) ∙ sym (numbers_next last n rest)
    ∙ ap (λ (l : List Note). rises has_lower (last ∷ l)) (sym more) ∙ is

-- clients behind those of floors
abbrev pub are_floors_below : ℕ → List Floor → Bool
are_floors_below client floors = list_all (λ (f : Floor). nat_lt f.client client) floors

pub last_rises : (client floor n : ℕ) (floors : List Floor) → are_rising n floors ≡ true → nat_le n client ≡ true
    → are_floors_below client floors ≡ true → are_rising n (floors ++ record { client = client; floor = floor } ∷ []) ≡ true
last_rises client floor n [] rising least below = and_from (nat_le n client) true least refl
last_rises client floor n (f ∷ floors) rising least below =
    let r = and_parts (nat_le n f.client) (are_rising (f.client + 1) floors) rising in
    let b = and_parts (nat_lt f.client client) (are_floors_below client floors) below in
    let first = b.0 in
    and_from (nat_le n f.client) (are_rising (f.client + 1) (floors ++ record { client = client; floor = floor } ∷ [])) r.0
    (last_rises client floor (f.client + 1) floors r.1 (grind (arith, nat_tests, first)) b.1)

pub rises_below : (client floor n : ℕ) (floors : List Floor) → are_rising n (floors ++ record { client = client; floor = floor } ∷ [])
    ≡ true → (nat_le n client ≡ true) × (are_floors_below client floors ≡ true)
rises_below client floor n [] rising = ((and_parts (nat_le n client) true rising).0, refl)
rises_below client floor n (f ∷ floors) rising =
    let parts =
    and_parts (nat_le n f.client) (are_rising (f.client + 1) (floors ++ record { client = client; floor = floor } ∷ [])) rising in
    let first = parts.0 in
    let rest = rises_below client floor (f.client + 1) floors parts.1 in
    let next = rest.0 in
    let here : nat_lt f.client client ≡ true = grind (arith, nat_tests, next) in
    (grind (arith, nat_tests, first, next), and_from (nat_lt f.client client) (are_floors_below client floors) here rest.1)

none_below : (client k : ℕ) (floors : List Floor) → are_floors_below client floors ≡ true → client ≤ k → floor_of k floors ≡ None
none_below client k [] below most = refl
none_below client k (f ∷ floors) below most =
    let parts = and_parts (nat_lt f.client client) (are_floors_below client floors) below in
    let first = parts.0 in
    let other : (f.client == k) ≡ false = grind (arith, nat_tests, first) in
    rw other (none_below client k floors parts.1 most)

-- a client that told a floor isn't below
pub some_above : (client floor k : ℕ) (floors : List Floor) → is_some (floor_of k floors) ≡ true → client ≤ k
    → false ≡ are_rising 0 (floors ++ record { client = client; floor = floor } ∷ [])
some_above client floor k floors told most = go (are_rising 0 (floors ++ record { client = client; floor = floor } ∷ [])) refl
  where
    go : (b : Bool) → are_rising 0 (floors ++ record { client = client; floor = floor } ∷ []) ≡ b → false ≡ b
    go false e = refl
    go true e =
        let below = (rises_below client floor 0 floors e).1 in
        let none : floor_of k floors ≡ None = none_below client k floors below most in
        rw none at told

-- those below a count are below a lesser one that has none at it
pub one_less : (k : ℕ) (floors : List Floor) → are_floors_below (k + 1) floors ≡ true → is_some (floor_of k floors) ≡ false
    → are_floors_below k floors ≡ true
one_less k [] below none = refl
one_less k (f ∷ floors) below none =
    let parts = and_parts (nat_lt f.client (k + 1)) (are_floors_below (k + 1) floors) below in
    go (cases_Bool (f.client == k)) parts.0 none (λ rest. one_less k floors parts.1 rest)
  where
    go : ((f.client == k) ≡ true) ⊎ ((f.client == k) ≡ false) → nat_lt f.client (k + 1) ≡ true → is_some (floor_of k (f ∷ floors)) ≡ false
        → (is_some (floor_of k floors) ≡ false → are_floors_below k floors ≡ true) → are_floors_below k (f ∷ floors) ≡ true
    go (inl s) first none rest = (let told : true ≡ false = rw s at none in cc)
    go (inr s) first none rest =
        and_from (nat_lt f.client k) (are_floors_below k floors) (grind (arith, nat_tests, first, s)) (rest (rw s at none))

pub still_below : (count client : ℕ) (floors : List Floor) → count ≤ client → are_floors_below count floors ≡ true
    → are_floors_below client floors ≡ true
still_below count client [] most below = refl
still_below count client (f ∷ floors) most below =
    let parts = and_parts (nat_lt f.client count) (are_floors_below count floors) below in
    let first = parts.0 in
    and_from (nat_lt f.client client) (are_floors_below client floors) (grind (arith, nat_tests, first, most))
    (still_below count client floors most parts.1)

-- numbers with which a client may tell a floor are above it
pub fits_above : (floor : ℕ) (notes : List Note) → list_all (λ (n : Note). floor_fits n.seq floor) notes ≡ true
    → list_all (λ (n : Note). nat_lt floor n.seq) notes ≡ true
fits_above floor [] all = refl
fits_above floor (n ∷ notes) all =
    let parts = and_parts (floor_fits n.seq floor) (list_all (λ (x : Note). floor_fits x.seq floor) notes) all in
    and_from (nat_lt floor n.seq) (list_all (λ (x : Note). nat_lt floor x.seq) notes)
    (and_parts (nat_lt floor n.seq) (nat_le n.seq (floor + 64)) parts.0).0 (fits_above floor notes parts.1)

pub notes_above : (floor : ℕ) (notes : List Note) → are_client_notes floor notes ≡ true
    → list_all (λ (n : Note). nat_lt floor n.seq) notes ≡ true
notes_above floor notes above =
    fits_above floor notes (and_parts (rises has_lower notes) (list_all (λ (n : Note). floor_fits n.seq floor) notes) above).1
