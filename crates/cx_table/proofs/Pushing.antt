-- A client is put behind all others, one number after the other.
use Rattle.cx_base.proofs.Common.{◌≡◌, ◌⊎◌, ℕ, zero, suc, ◌+◌, ◌<◌, ◌≤◌, Bool, true, false, not, List, [], ◌∷◌, ◌++◌, inl, inr, ap, sym}
use Rattle.cx_base.proofs.Common.{subst, ◌∙◌, refl, arith, length, take, get_or, map, max, append_assoc, ◌==◌, nat_le, nat_lt, None, Some}
use Rattle.cx_base.proofs.Common.{list_all, and_from, and_parts, cases_Bool, nat_tests, take_more, list_all-append, rises, Table}
use Rattle.cx_base.proofs.Common.{are_rising, comes_before, floor_of, is_answer_of, is_done, is_answer_done, noted_for, still_noted}
use Rattle.cx_base.proofs.Common.{with_answer, with_floor, with_note}
use Rattle.cx_base.specs.declared.command.Answered.{Answered}
use Rattle.cx_base.specs.declared.command.Floor.{Floor}
use Rattle.cx_base.specs.declared.command.Note.{Note}
use Rattle.cx_table.specs.Entries.{answer_of, are_above, are_notes_above, has_lower, is_above_floor}
use Rattle.cx_table.specs.Judged.{judge_of}
use Rattle.cx_table.specs.declared.judge.Judge.TheVariants as judge
use Rattle.cx_table.proofs.Notes.{all_at}

abbrev floor_at : ℕ → ℕ → Floor
floor_at client floor = record { client = client; floor = floor }

abbrev are_floors_below : ℕ → List Floor → Bool
are_floors_below client floors = list_all (λ (f : Floor). nat_lt f.client client) floors

abbrev are_answers_below : ℕ → List Answered → Bool
are_answers_below client notes = list_all (λ (a : Answered). nat_lt a.client client) notes

-- the floors once so many of the client's answers are noted
abbrev pub floors_with : ℕ → ℕ → List Note → List Floor → List Floor
floors_with client floor [] floors = floors
floors_with client floor (n ∷ before) floors = floors ++ floor_at client floor ∷ []

-- the first answers of a client are noted behind those of all others
pub record IsPushed (client floor : ℕ) (first : Table) (before : List Note) (now : Table) : Type 0 where
  pub floors : now.floors ≡ floors_with client floor before first.floors
  pub notes : now.notes ≡ first.notes ++ map (answer_of client) before

below_last : (client floor n : ℕ) (floors : List Floor) → are_rising n (floors ++ floor_at client floor ∷ []) ≡ true
    → (nat_le n client ≡ true) × (are_floors_below client floors ≡ true)
below_last client floor n [] rising = ((and_parts (nat_le n client) true rising).0, refl)
below_last client floor n (f ∷ floors) rising =
    let parts = and_parts (nat_le n f.client) (are_rising (f.client + 1) (floors ++ floor_at client floor ∷ [])) rising in
    let first = parts.0 in
    let rest = below_last client floor (f.client + 1) floors parts.1 in
    let next = rest.0 in
    let here : nat_lt f.client client ≡ true = grind (arith, nat_tests, next) in
    (grind (arith, nat_tests, first, next), and_from (nat_lt f.client client) (are_floors_below client floors) here rest.1)

told_below : (client k seq : ℕ) (floors : List Floor) → are_floors_below client floors ≡ true
    → is_above_floor seq (floor_of k floors) ≡ true → nat_lt k client ≡ true
told_below client k seq [] below told = cc
told_below client k seq (f ∷ floors) below told =
    let parts = and_parts (nat_lt f.client client) (are_floors_below client floors) below in
    go (cases_Bool (f.client == k)) parts.0 told (told_below client k seq floors parts.1)
  where
    go : ((f.client == k) ≡ true) ⊎ ((f.client == k) ≡ false)
        → nat_lt f.client client ≡ true → is_above_floor seq (floor_of k (f ∷ floors)) ≡ true
        → (is_above_floor seq (floor_of k floors) ≡ true → nat_lt k client ≡ true) → nat_lt k client ≡ true
    go (inl s) first told rest = grind (arith, nat_tests, s, first)
    go (inr s) first told rest = rest (rw s at told)

answers_below : (client : ℕ) (floors : List Floor) (notes : List Answered) → are_floors_below client floors ≡ true
    → list_all (λ (a : Answered). is_above_floor a.seq (floor_of a.client floors)) notes ≡ true
    → are_answers_below client notes ≡ true
answers_below client floors [] below all = refl
answers_below client floors (a ∷ notes) below all =
    let parts = and_parts (is_above_floor a.seq (floor_of a.client floors))
    (list_all (λ (x : Answered). is_above_floor x.seq (floor_of x.client floors)) notes) all in
    and_from (nat_lt a.client client) (are_answers_below client notes) (told_below client a.client a.seq floors below parts.0)
    (answers_below client floors notes below parts.1)

-- the floors of others are all below
module _ (client floor : ℕ) where
  first_floor : (floors : List Floor) → are_floors_below client floors ≡ true
      → with_floor client floor floors ≡ floors ++ floor_at client floor ∷ []
  first_floor [] below = refl
  first_floor (f ∷ floors) below =
      let parts = and_parts (nat_lt f.client client) (are_floors_below client floors) below in
      let first = parts.0 in
      let other : (f.client == client) ≡ false = grind (arith, nat_tests, first) in
      let behind : nat_lt client f.client ≡ false = grind (arith, nat_tests, first) in
      rw (other, behind) (ap (λ (l : List Floor). f ∷ l) (first_floor floors parts.1))

  same_floor : (floors : List Floor) → are_floors_below client floors ≡ true
      → with_floor client floor (floors ++ floor_at client floor ∷ []) ≡ floors ++ floor_at client floor ∷ []
  same_floor [] below =
      let same : (client == client) ≡ true = grind (arith, nat_tests) in
      let most : max floor floor ≡ floor = omega arith in
      rw (same, most) refl
  same_floor (f ∷ floors) below =
      let parts = and_parts (nat_lt f.client client) (are_floors_below client floors) below in
      let first = parts.0 in
      let other : (f.client == client) ≡ false = grind (arith, nat_tests, first) in
      let behind : nat_lt client f.client ≡ false = grind (arith, nat_tests, first) in
      rw (other, behind) (ap (λ (l : List Floor). f ∷ l) (same_floor floors parts.1))

  floors_on : (floors : List Floor) (before : List Note) (n : Note) → are_floors_below client floors ≡ true
      → with_floor client floor (floors_with client floor before floors)
      ≡ floors_with client floor (before ++ n ∷ []) floors
  floors_on floors [] n below = first_floor floors below
  floors_on floors (m ∷ before) n below = same_floor floors below

  none_told : (floors : List Floor) → are_floors_below client floors ≡ true → floor_of client floors ≡ None
  none_told [] below = refl
  none_told (f ∷ floors) below =
      let parts = and_parts (nat_lt f.client client) (are_floors_below client floors) below in
      let first = parts.0 in
      let other : (f.client == client) ≡ false = grind (arith, nat_tests, first) in
      rw other (none_told floors parts.1)

  own_told : (floors : List Floor) → are_floors_below client floors ≡ true
      → floor_of client (floors ++ floor_at client floor ∷ []) ≡ Some floor
  own_told [] below = (let same : (client == client) ≡ true = grind (arith, nat_tests) in rw same refl)
  own_told (f ∷ floors) below =
      let parts = and_parts (nat_lt f.client client) (are_floors_below client floors) below in
      let first = parts.0 in
      let other : (f.client == client) ≡ false = grind (arith, nat_tests, first) in
      rw other (own_told floors parts.1)

  not_done : (floors : List Floor) (before : List Note) (seq : ℕ) → are_floors_below client floors ≡ true
      → nat_lt floor seq ≡ true → is_done seq (floor_of client (floors_with client floor before floors)) ≡ false
  not_done floors [] seq below higher = rw (none_told floors below) refl
  not_done floors (m ∷ before) seq below higher = rw (own_told floors below) (grind (arith, nat_tests, higher))

-- an answer behind all others
last_note : (a : Answered) (notes : List Answered) → list_all (λ (b : Answered). comes_before b a) notes ≡ true
    → with_note a notes ≡ notes ++ a ∷ []
last_note a [] all = refl
last_note a (b ∷ notes) all =
    let parts = and_parts (comes_before b a) (list_all (λ (x : Answered). comes_before x a) notes) all in
    let first = parts.0 in
    let behind : comes_before a b ≡ false = grind (arith, nat_tests, first) in
    rw behind (ap (λ (l : List Answered). b ∷ l) (last_note a notes parts.1))

none_noted : (a : Answered) (notes : List Answered) → list_all (λ (b : Answered). comes_before b a) notes ≡ true
    → noted_for a.client a.seq notes ≡ None
none_noted a [] all = refl
none_noted a (b ∷ notes) all =
    let parts = and_parts (comes_before b a) (list_all (λ (x : Answered). comes_before x a) notes) all in
    let first = parts.0 in
    let other : is_answer_of a.client a.seq b ≡ false = grind (arith, nat_tests, first) in
    rw other (none_noted a notes parts.1)

all_stay : (client floor : ℕ) (notes : List Answered)
    → list_all (λ (a : Answered). not (is_answer_done client floor a)) notes ≡ true
    → still_noted client floor notes ≡ notes
all_stay client floor [] all = refl
all_stay client floor (a ∷ notes) all =
    let parts =
    and_parts (not (is_answer_done client floor a)) (list_all (λ (x : Answered). not (is_answer_done client floor x)) notes) all in
    rw parts.0 (ap (λ (l : List Answered). a ∷ l) (all_stay client floor notes parts.1))

-- others' answers come before a client's, and aren't settled by its floor
others_before : (client seq at : ℕ) (a : Answered) → a.client ≡ client → (notes : List Answered) → are_answers_below client notes ≡ true
    → list_all (λ (b : Answered). comes_before b a) notes ≡ true
others_before client seq at a own [] below = refl
others_before client seq at a own (b ∷ notes) below =
    let parts = and_parts (nat_lt b.client client) (are_answers_below client notes) below in
    let first = parts.0 in
    and_from (comes_before b a) (list_all (λ (x : Answered). comes_before x a) notes) (grind (arith, nat_tests, first, own))
    (others_before client seq at a own notes parts.1)

others_stay : (client floor : ℕ) (notes : List Answered) → are_answers_below client notes ≡ true
    → list_all (λ (a : Answered). not (is_answer_done client floor a)) notes ≡ true
others_stay client floor [] below = refl
others_stay client floor (b ∷ notes) below =
    let parts = and_parts (nat_lt b.client client) (are_answers_below client notes) below in
    let first = parts.0 in
    and_from (not (is_answer_done client floor b)) (list_all (λ (x : Answered). not (is_answer_done client floor x)) notes)
    (grind (arith, nat_tests, first)) (others_stay client floor notes parts.1)

-- the client's own ones of lower numbers come before, and lie above its floor
own_before : (client : ℕ) (n : Note) (before : List Note) → list_all (λ (m : Note). nat_lt m.seq n.seq) before ≡ true
    → list_all (λ (b : Answered). comes_before b (answer_of client n)) (map (answer_of client) before) ≡ true
own_before client n [] lower = refl
own_before client n (m ∷ before) lower =
    let parts = and_parts (nat_lt m.seq n.seq) (list_all (λ (x : Note). nat_lt x.seq n.seq) before) lower in
    let first = parts.0 in
    let own : (client == client) ≡ true = grind (arith, nat_tests) in
    and_from (comes_before (answer_of client m) (answer_of client n)) (list_all (λ (b : Answered). comes_before b (answer_of client n))
    (map (answer_of client) before)) (grind (arith, nat_tests, first, own)) (own_before client n before parts.1)

own_stay : (client floor : ℕ) (notes : List Note) → are_notes_above floor notes ≡ true
    → list_all (λ (a : Answered). not (is_answer_done client floor a)) (map (answer_of client) notes) ≡ true
own_stay client floor [] above = refl
own_stay client floor (n ∷ notes) above =
    let parts = and_parts (nat_lt floor n.seq) (are_notes_above floor notes) above in
    let first = parts.0 in
    and_from (not (is_answer_done client floor (answer_of client n))) (list_all (λ (a : Answered). not (is_answer_done client floor a))
    (map (answer_of client) notes)) (grind (arith, nat_tests, first)) (own_stay client floor notes parts.1)

-- of rising notes those before a place are of lower numbers than the one there
lower_before : (notes : List Note) (i : ℕ) (n : Note) → rises has_lower notes ≡ true → i < length notes
    → n ≡ get_or notes i n → list_all (λ (m : Note). nat_lt m.seq n.seq) (take i notes) ≡ true
lower_before [] i n rising l e = absurd (omega arith)
lower_before (m ∷ notes) zero n rising l e = refl
lower_before (m ∷ notes) (suc i) n rising l e =
    let parts = and_parts (list_all (λ (x : Note). nat_lt m.seq x.seq) notes) (rises has_lower notes) rising in
    let there : nat_lt m.seq (get_or notes i n).seq ≡ true = all_at (λ (x : Note). nat_lt m.seq x.seq) notes i n parts.0 (omega arith) in
    and_from (nat_lt m.seq n.seq) (list_all (λ (x : Note). nat_lt x.seq n.seq) (take i notes))
    (subst (λ (x : Note). nat_lt m.seq x.seq ≡ true) (sym e) there) (lower_before notes i n parts.1 (omega arith) e)

front_all : {A : Type 0} (p : A → Bool) (list : List A) (i : ℕ) → list_all p list ≡ true
    → list_all p (take i list) ≡ true
front_all p list zero all = refl
front_all p [] (suc i) all = refl
front_all p (x ∷ list) (suc i) all =
    let parts = and_parts (p x) (list_all p list) all in
    and_from (p x) (list_all p (take i list)) parts.0 (front_all p list i parts.1)

map-append : (client : ℕ) (before : List Note) (n : Note)
    → map (answer_of client) (before ++ n ∷ []) ≡ map (answer_of client) before ++ answer_of client n ∷ []
map-append client [] n = refl
map-append client (m ∷ before) n = ap (λ (l : List Answered). answer_of client m ∷ l) (map-append client before n)

-- one number further
module _ (client floor : ℕ) (first : Table) (notes : List Note) (i : ℕ) (n : Note) (l : i < length notes) (e : n ≡ get_or notes i n)
    (behind : are_rising 0 (first.floors ++ floor_at client floor ∷ []) ≡ true) (higher : are_above first ≡ true)
    (rising : rises has_lower notes ≡ true) (free : are_notes_above floor notes ≡ true) where
  below : are_floors_below client first.floors ≡ true
  below = (below_last client floor 0 first.floors behind).1

  answers : are_answers_below client first.notes ≡ true
  answers = answers_below client first.floors first.notes below higher

  own_above : nat_lt floor n.seq ≡ true
  own_above = subst (λ (x : Note). nat_lt floor x.seq ≡ true) (sym e) (all_at (λ (x : Note). nat_lt floor x.seq) notes i n free l)

  all_before : list_all (λ (b : Answered). comes_before b (answer_of client n)) (first.notes ++ map (answer_of client) (take i notes))
      ≡ true
  all_before =
      list_all-append (λ (b : Answered). comes_before b (answer_of client n)) first.notes (map (answer_of client) (take i notes))
      ∙ and_from _ _ (others_before client n.seq n.at (answer_of client n) refl first.notes answers)
      (own_before client n (take i notes) (lower_before notes i n rising l e))

  one_more : take (i + 1) notes ≡ take i notes ++ n ∷ []
  one_more = take_more notes i n l ∙ ap (λ (y : Note). take i notes ++ y ∷ []) (sym e)

  appended : first.notes ++ map (answer_of client) (take (i + 1) notes)
      ≡ (first.notes ++ map (answer_of client) (take i notes)) ++ answer_of client n ∷ []
  appended =
      ap (λ (l : List Note). first.notes ++ map (answer_of client) l) one_more
      ∙ ap (λ (l : List Answered). first.notes ++ l) (map-append client (take i notes) n)
      ∙ sym (append_assoc first.notes (map (answer_of client) (take i notes)) (answer_of client n ∷ []))

  stays : still_noted client floor (first.notes ++ map (answer_of client) (take (i + 1) notes))
      ≡ first.notes ++ map (answer_of client) (take (i + 1) notes)
  stays =
      all_stay client floor (first.notes ++ map (answer_of client) (take (i + 1) notes))
      (list_all-append (λ (a : Answered). not (is_answer_done client floor a)) first.notes (map (answer_of client) (take (i + 1) notes))
      ∙ and_from _ _ (others_stay client floor first.notes answers)
      (own_stay client floor (take (i + 1) notes) (front_all (λ (x : Note). nat_lt floor x.seq) notes (i + 1) free)))

  pub is_new_there : (now : Table) → IsPushed client floor first (take i notes) now → judge_of now client n.seq ≡ judge.New
  is_new_there now pushed =
      let undone : is_done n.seq (floor_of client now.floors) ≡ false =
      rw pushed.floors (not_done client floor first.floors (take i notes) n.seq below own_above) in
      let none : noted_for client n.seq now.notes ≡ None =
      rw pushed.notes (none_noted (answer_of client n) (first.notes ++ map (answer_of client) (take i notes)) all_before) in
      rw (undone, none) refl

  pub pushed_on : (now next : Table) → IsPushed client floor first (take i notes) now → next ≡ with_answer (answer_of client n) floor now
      → IsPushed client floor first (take (i + 1) notes) next
  pushed_on now next pushed is = record {
    floors = ap (λ (t : Table). t.floors) is ∙ ap (with_floor client floor) pushed.floors
        ∙ floors_on client floor first.floors (take i notes) n below
        ∙ ap (λ (l : List Note). floors_with client floor l first.floors) (sym one_more);
    notes = ap (λ (t : Table). t.notes) is
        ∙ ap (λ (l : List Answered). still_noted client floor (with_note (answer_of client n) l)) pushed.notes
        ∙ ap (still_noted client floor)
        (last_note (answer_of client n) (first.notes ++ map (answer_of client) (take i notes)) all_before ∙ sym appended) ∙ stays;
  }

-- all numbers are noted
pub all_pushed : (client floor : ℕ) (first : Table) (notes : List Note) (now : Table) → 1 ≤ length notes
    → IsPushed client floor first notes now → now.floors ≡ first.floors ++ floor_at client floor ∷ []
all_pushed client floor first [] now some pushed = absurd (omega arith)
all_pushed client floor first (n ∷ notes) now some pushed = pushed.floors
