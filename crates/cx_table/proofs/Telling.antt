-- The table once a client has told a floor, or has one more answer.
use Rattle.std.specs.Prelude.{IsSome}
use Rattle.cx_base.proofs.Common.{◌≡◌, ◌⊎◌, ℕ, ◌+◌, Bool, true, false, not, List, [], ◌∷◌, inl, inr, ap, sym, subst, ◌∙◌, refl, arith}
use Rattle.cx_base.proofs.Common.{rules, true≢false, ◌==◌, nat_eq, nat_le, nat_lt, if◌then◌else◌, Option, None, Some, list_all, lookup}
use Rattle.cx_base.proofs.Common.{and_from, and_parts, both_ways, cases_Bool, eqb-true, nat_tests, rises, Table, are_rising, comes_before}
use Rattle.cx_base.proofs.Common.{floor_of, is_answer_of, is_done, is_answer_done, noted_for, still_noted, with_answer, with_floor}
use Rattle.cx_base.proofs.Common.{with_note, with_told, none_placed, same_client, turned_test}
use Rattle.cx_base.specs.declared.command.Answered.{Answered}
use Rattle.cx_base.specs.declared.command.Floor.{Floor}
use Rattle.cx_base.proofs.Used.{still_rising}
use Rattle.cx_table.specs.Entries.{AreClientEntries, above, are_above, are_of, floor_of_entry, is_above_floor, is_lower, notes_in}
use Rattle.cx_table.specs.Entries.{of_client, max_floor}
use Rattle.cx_table.specs.Judged.{is_new, judge_in, judge_of, judge_noted}
use Rattle.cx_table.specs.declared.entry.ClientEntry.{ClientEntry}
use Rattle.cx_table.specs.declared.judge.Judge.TheVariants as judge
use Rattle.cx_table.proofs.Held.{IsChanged, held_by}
use Rattle.cx_table.proofs.Notes.{rise_by_number}
use Rattle.cx_table.proofs.Rising.{all_with, left_with, rise_left, rise_with}

-- floors

pub floor_told : (client floor n : ℕ) (floors : List Floor) → are_rising n floors ≡ true → (k : ℕ)
    → floor_of k (with_floor client floor floors)
    ≡ (if client == k then Some (max_floor (floor_of k floors) floor) else floor_of k floors)
floor_told client floor n [] r k = refl
floor_told client floor n (f ∷ floors) r k = go (cases_Bool (f.client == client)) (cases_Bool (nat_lt client f.client))
    (cases_Bool (client == k)) (cases_Bool (f.client == k)) (floor_told client floor (f.client + 1) floors rest k)
  where
    rest : are_rising (f.client + 1) floors ≡ true
    rest = (and_parts (nat_le n f.client) (are_rising (f.client + 1) floors) r).1

    go : ((f.client == client) ≡ true) ⊎ ((f.client == client) ≡ false)
        → (nat_lt client f.client ≡ true) ⊎ (nat_lt client f.client ≡ false)
        → ((client == k) ≡ true) ⊎ ((client == k) ≡ false) → ((f.client == k) ≡ true) ⊎ ((f.client == k) ≡ false)
        → floor_of k (with_floor client floor floors)
        ≡ (if client == k then Some (max_floor (floor_of k floors) floor) else floor_of k floors)
        → floor_of k (with_floor client floor (f ∷ floors))
        ≡ (if client == k then Some (max_floor (floor_of k (f ∷ floors)) floor) else floor_of k (f ∷ floors))
    go (inl s) b (inl t) u h = rw (s, t, same_client k f.client client true (eqb-true f.client client s) t) refl
    go (inl s) b (inr t) u h = rw (s, t, same_client k f.client client false (eqb-true f.client client s) t) refl
    go (inr s) (inl b) (inl t) u h =
        let none : floor_of k (f ∷ floors) ≡ None =
        subst (λ (x : ℕ). floor_of x (f ∷ floors) ≡ None) (eqb-true client k t) (none_placed client f floors s b rest) in
        rw (s, b, none, t) refl
    go (inr s) (inl b) (inr t) u h = rw (s, b, t) refl
    go (inr s) (inr b) (inl t) (inl u) h =
        absurd (both_ways (f.client == client) s (same_client client f.client k true (eqb-true f.client k u) (turned_test k client ∙ t)))
    go (inr s) (inr b) (inr t) (inl u) h = rw (s, b, t, u) refl
    go (inr s) (inr b) t (inr u) h = rw (s, b, u) h

-- answers

pub notes_told : (client floor k : ℕ) (notes : List Answered)
    → of_client k (still_noted client floor notes)
    ≡ (if client == k then above floor (of_client k notes) else of_client k notes)
notes_told client floor k [] = same (client == k)
  where
    none : List Answered
    none = []

    same : (b : Bool) → none ≡ (if b then none else none)
    same true = refl
    same false = refl
notes_told client floor k (a ∷ notes) = go (cases_Bool (client == k)) (cases_Bool (a.client == k)) (cases_Bool (a.client == client))
    (cases_Bool (nat_le a.seq floor)) (notes_told client floor k notes)
  where
    go : ((client == k) ≡ true) ⊎ ((client == k) ≡ false) → ((a.client == k) ≡ true) ⊎ ((a.client == k) ≡ false)
        → ((a.client == client) ≡ true) ⊎ ((a.client == client) ≡ false)
        → (nat_le a.seq floor ≡ true) ⊎ (nat_le a.seq floor ≡ false)
        → of_client k (still_noted client floor notes)
        ≡ (if client == k then above floor (of_client k notes) else of_client k notes)
        → of_client k (still_noted client floor (a ∷ notes))
        ≡ (if client == k then above floor (of_client k (a ∷ notes)) else of_client k (a ∷ notes))
    go (inl s) (inl t) (inl u) (inl v) h =
        let gone : nat_lt floor a.seq ≡ false = grind (arith, nat_tests, v) in
        let rest : of_client k (still_noted client floor notes) ≡ above floor (of_client k notes) = rw s at h in
        rw (u, v, s, t, gone) rest
    go (inl s) (inl t) (inl u) (inr v) h =
        let stays : nat_lt floor a.seq ≡ true = grind (arith, nat_tests, v) in
        let rest : of_client k (still_noted client floor notes) ≡ above floor (of_client k notes) = rw s at h in
        rw (u, v, t, s, stays) (ap (λ (l : List Answered). a ∷ l) rest)
    go (inl s) (inl t) (inr u) v h =
        (let same : (a.client == client) ≡ true = grind (arith, nat_tests, s, t) in absurd (both_ways (a.client == client) u same))
    go (inl s) (inr t) (inl u) v h =
        (let same : (a.client == k) ≡ true = grind (arith, nat_tests, s, u) in absurd (both_ways (a.client == k) t same))
    go (inl s) (inr t) (inr u) v h =
        let rest : of_client k (still_noted client floor notes) ≡ above floor (of_client k notes) = rw s at h in
        rw (u, t, s) rest
    go (inr s) (inl t) (inl u) v h =
        (let same : (client == k) ≡ true = grind (arith, nat_tests, t, u) in absurd (both_ways (client == k) s same))
    go (inr s) (inl t) (inr u) v h =
        let rest : of_client k (still_noted client floor notes) ≡ of_client k notes = rw s at h in
        rw (u, t, s) (ap (λ (l : List Answered). a ∷ l) rest)
    go (inr s) (inr t) (inl u) (inl v) h =
        (let rest : of_client k (still_noted client floor notes) ≡ of_client k notes = rw s at h in rw (u, v, s, t) rest)
    go (inr s) (inr t) (inl u) (inr v) h =
        (let rest : of_client k (still_noted client floor notes) ≡ of_client k notes = rw s at h in rw (u, v, t, s) rest)
    go (inr s) (inr t) (inr u) v h =
        (let rest : of_client k (still_noted client floor notes) ≡ of_client k notes = rw s at h in rw (u, t, s) rest)

-- the answers of a client are its own, and rise
pub own_of : (client : ℕ) (notes : List Answered) → are_of client (of_client client notes) ≡ true
own_of client [] = refl
own_of client (a ∷ notes) = go (cases_Bool (a.client == client)) (own_of client notes)
  where
    go : ((a.client == client) ≡ true) ⊎ ((a.client == client) ≡ false) → are_of client (of_client client notes) ≡ true
        → are_of client (of_client client (a ∷ notes)) ≡ true
    go (inl t) rest = rw t (and_from (a.client == client) (are_of client (of_client client notes)) t rest)
    go (inr t) rest = rw t rest

-- what is noted for a client's number is among the client's
pub noted_own : (client seq : ℕ) (notes : List Answered)
    → noted_for client seq (of_client client notes) ≡ noted_for client seq notes
noted_own client seq [] = refl
noted_own client seq (a ∷ notes) = go (cases_Bool (a.client == client)) (cases_Bool (a.seq == seq)) (noted_own client seq notes)
  where
    go : ((a.client == client) ≡ true) ⊎ ((a.client == client) ≡ false)
        → ((a.seq == seq) ≡ true) ⊎ ((a.seq == seq) ≡ false)
        → noted_for client seq (of_client client notes) ≡ noted_for client seq notes
        → noted_for client seq (of_client client (a ∷ notes)) ≡ noted_for client seq (a ∷ notes)
    go (inl t) (inl s) rest = rw (t, t, s) refl
    go (inl t) (inr s) rest = rw (t, t, s) rest
    go (inr t) s rest = rw t rest

-- whether an answer may stand once its client has told a floor: the client isn't done with it before
abbrev may_stand : ℕ → List Floor → Answered → Bool
may_stand client floors a =
    if client == a.client then not (is_done a.seq (floor_of a.client floors)) else is_above_floor a.seq (floor_of a.client floors)

stood : (client : ℕ) (floors : List Floor) (a : Answered) → is_above_floor a.seq (floor_of a.client floors) ≡ true
    → may_stand client floors a ≡ true
stood client floors a h = go (cases_Bool (client == a.client)) (floor_of a.client floors) h
  where
    free : (o : Option ℕ) → is_above_floor a.seq o ≡ true → not (is_done a.seq o) ≡ true
    free None h = cc
    free (Some floor) h = grind (arith, nat_tests, h)

    go : ((client == a.client) ≡ true) ⊎ ((client == a.client) ≡ false) → (o : Option ℕ) → is_above_floor a.seq o ≡ true
        → (if client == a.client then not (is_done a.seq o) else is_above_floor a.seq o) ≡ true
    go (inl t) o h = rw t (free o h)
    go (inr t) o h = rw t h

all_stood : (client : ℕ) (floors : List Floor) (notes : List Answered)
    → list_all (λ (a : Answered). is_above_floor a.seq (floor_of a.client floors)) notes ≡ true
    → list_all (may_stand client floors) notes ≡ true
all_stood client floors [] all = refl
all_stood client floors (a ∷ notes) all =
    let parts = and_parts (is_above_floor a.seq (floor_of a.client floors))
    (list_all (λ (x : Answered). is_above_floor x.seq (floor_of x.client floors)) notes) all in
    and_from (may_stand client floors a) (list_all (may_stand client floors) notes) (stood client floors a parts.0)
    (all_stood client floors notes parts.1)

-- those that stay lie above their clients' floors
above_told : (client floor : ℕ) (floors : List Floor) (notes : List Answered) → are_rising 0 floors ≡ true
    → list_all (may_stand client floors) notes ≡ true
    → are_above (record { floors = with_floor client floor floors; notes = still_noted client floor notes }) ≡ true
above_told client floor floors [] rising all = refl
above_told client floor floors (a ∷ notes) rising all =
    let parts = and_parts (may_stand client floors a) (list_all (may_stand client floors) notes) all in
    go (cases_Bool (client == a.client)) (cases_Bool (nat_le a.seq floor)) (floor_told client floor 0 floors rising a.client) parts.0
    (above_told client floor floors notes rising parts.1)
  where
    higher : (o : Option ℕ) → not (is_done a.seq o) ≡ true → nat_le a.seq floor ≡ false
        → is_above_floor a.seq (Some (max_floor o floor)) ≡ true
    higher None free v = grind (arith, nat_tests, v)
    higher (Some f) free v = grind (arith, nat_tests, free, v)

    go : ((client == a.client) ≡ true) ⊎ ((client == a.client) ≡ false)
        → (nat_le a.seq floor ≡ true) ⊎ (nat_le a.seq floor ≡ false)
        → floor_of a.client (with_floor client floor floors)
        ≡ (if client == a.client then Some (max_floor (floor_of a.client floors) floor) else floor_of a.client floors)
        → may_stand client floors a ≡ true
        → are_above (record { floors = with_floor client floor floors; notes = still_noted client floor notes }) ≡ true
        → are_above (record { floors = with_floor client floor floors; notes = still_noted client floor (a ∷ notes) })
        ≡ true
    go (inl t) (inl v) is one rest = (let turned : (a.client == client) ≡ true = turned_test a.client client ∙ t in rw (turned, v) rest)
    go (inl t) (inr v) is one rest =
        let turned : (a.client == client) ≡ true = turned_test a.client client ∙ t in
        let floor_is : floor_of a.client (with_floor client floor floors) ≡ Some (max_floor (floor_of a.client floors) floor) =
        rw t at is in
        let free : not (is_done a.seq (floor_of a.client floors)) ≡ true = rw t at one in
        rw (turned, v) (and_from (is_above_floor a.seq (floor_of a.client (with_floor client floor floors)))
        _ (rw floor_is (higher (floor_of a.client floors) free v)) rest)
    go (inr t) v is one rest =
        let turned : (a.client == client) ≡ false = turned_test a.client client ∙ t in
        let floor_is : floor_of a.client (with_floor client floor floors) ≡ floor_of a.client floors = rw t at is in
        let above : is_above_floor a.seq (floor_of a.client floors) ≡ true = rw t at one in
        rw turned (and_from (is_above_floor a.seq (floor_of a.client (with_floor client floor floors))) _ (rw floor_is above) rest)

-- a client's entry holds what the table has of it
module _ (t : Table) (es : List (ℕ × ClientEntry)) (sound : AreClientEntries t es) (client : ℕ) (entry : ClientEntry)
    (found : lookup (nat_eq client) es ≡ Some entry) where
  pub entry_floor : entry.floor ≡ floor_of client t.floors
  entry_floor = ap floor_of_entry (sym found) ∙ sound.floors client

  pub entry_notes : entry.notes.items ≡ of_client client t.notes
  entry_notes = ap notes_in (sym found) ∙ sound.notes client

  pub entry_own : are_of client entry.notes.items ≡ true
  entry_own = rw entry_notes (own_of client t.notes)

  pub entry_rise : rises is_lower entry.notes.items ≡ true
  entry_rise = rw entry_notes (sym (rise_by_number client (of_client client t.notes) (own_of client t.notes))
      ∙ rise_left comes_before (λ (a : Answered). a.client == client) t.notes sound.notes_rise)

  pub entry_noted : (seq : ℕ) → noted_for client seq entry.notes.items ≡ noted_for client seq t.notes
  entry_noted seq = ap (noted_for client seq) entry_notes ∙ noted_own client seq t.notes

  pub entry_judge : (seq : ℕ) → judge_in entry.floor entry.notes.items client seq ≡ judge_of t client seq
  entry_judge seq =
      ap (λ (o : Option ℕ). judge_in o entry.notes.items client seq) entry_floor
      ∙ ap (λ (o : Option Answered). if is_done seq (floor_of client t.floors) then judge.Past else judge_noted o) (entry_noted seq)

-- a client without an entry has used no number
pub judge_none : (t : Table) (es : List (ℕ × ClientEntry)) → AreClientEntries t es → (client seq : ℕ) → lookup (nat_eq client) es ≡ None
    → judge.New ≡ judge_of t client seq
judge_none t es sound client seq none =
    let no_floor : floor_of client t.floors ≡ None = sym (sound.floors client) ∙ ap floor_of_entry none in
    let no_notes : of_client client t.notes ≡ [] = sym (sound.notes client) ∙ ap notes_in none in
    let no_note : noted_for client seq t.notes ≡ None = sym (noted_own client seq t.notes) ∙ ap (noted_for client seq) no_notes in
    rw (no_floor, no_note) refl

-- a client that has an answer has told a floor below its number
noted_above : (client seq : ℕ) (floors : List Floor) (notes : List Answered) (a : Answered)
    → list_all (λ (x : Answered). is_above_floor x.seq (floor_of x.client floors)) notes ≡ true
    → noted_for client seq notes ≡ Some a → is_above_floor seq (floor_of client floors) ≡ true
noted_above client seq floors [] a all e = cc
noted_above client seq floors (x ∷ notes) a all e =
    let parts = and_parts (is_above_floor x.seq (floor_of x.client floors))
    (list_all (λ (y : Answered). is_above_floor y.seq (floor_of y.client floors)) notes) all in
    go (cases_Bool (is_answer_of client seq x)) parts.0 e (noted_above client seq floors notes a parts.1)
  where
    go : (is_answer_of client seq x ≡ true) ⊎ (is_answer_of client seq x ≡ false)
        → is_above_floor x.seq (floor_of x.client floors) ≡ true → noted_for client seq (x ∷ notes) ≡ Some a
        → (noted_for client seq notes ≡ Some a → is_above_floor seq (floor_of client floors) ≡ true)
        → is_above_floor seq (floor_of client floors) ≡ true
    go (inl s) one e rest =
        let p = and_parts (x.client == client) (x.seq == seq) s in
        subst (λ (k : ℕ). is_above_floor k (floor_of client floors) ≡ true) (eqb-true x.seq seq p.1)
        (subst (λ (k : ℕ). is_above_floor x.seq (floor_of k floors) ≡ true) (eqb-true x.client client p.0) one)
    go (inr s) one e rest = rest (rw s at e)

-- a client whose number isn't new has told a floor
pub judged_told : (t : Table) → are_above t ≡ true → (client seq : ℕ) → is_new (judge_of t client seq) ≡ false
    → IsSome (floor_of client t.floors)
judged_told t above client seq judged = go (floor_of client t.floors) refl (noted_for client seq t.notes) refl judged
  where
    go : (o : Option ℕ) → floor_of client t.floors ≡ o → (p : Option Answered) → noted_for client seq t.notes ≡ p
        → is_new (if is_done seq o then judge.Past else judge_noted p) ≡ false → IsSome o
    go None is None has e = absurd (true≢false e)
    go None is (Some a) has e = (let told : is_above_floor seq (floor_of client t.floors) ≡ true =
        noted_above client seq t.floors t.notes a above has in absurd (true≢false (sym (rw is at told))))
    go (Some floor) is p has e = search rules

-- a number that is new isn't done with, and has no answer
pub new_number : (t : Table) (client seq : ℕ) → judge_of t client seq ≡ judge.New
    → (not (is_done seq (floor_of client t.floors)) ≡ true) × (noted_for client seq t.notes ≡ None)
new_number t client seq new = go (is_done seq (floor_of client t.floors)) refl (noted_for client seq t.notes) refl new
  where
    go : (d : Bool) → is_done seq (floor_of client t.floors) ≡ d → (o : Option Answered)
        → noted_for client seq t.notes ≡ o → (if d then judge.Past else judge_noted o) ≡ judge.New
        → (not (is_done seq (floor_of client t.floors)) ≡ true) × (noted_for client seq t.notes ≡ None)
    go true is o has e = cc
    go false is None has e = (rw is refl, has)
    go false is (Some a) has e = cc

-- the table that has been told, or has one more answer, is what is noted with another entry
module _ (t : Table) (es ns : List (ℕ × ClientEntry)) (sound : AreClientEntries t es) (client floor : ℕ) (old new : ClientEntry)
    (found : lookup (nat_eq client) es ≡ Some old) (changed : IsChanged client new es ns)
    (told : new.floor ≡ Some (max_floor old.floor floor)) where
  floors_told : (k : ℕ)
      → floor_of k (with_floor client floor t.floors) ≡ (if client == k then new.floor else floor_of k t.floors)
  floors_told k = floor_told client floor 0 t.floors sound.floors_rise k ∙ go (cases_Bool (client == k))
    where
      own : new.floor ≡ Some (max_floor (floor_of client t.floors) floor)
      own = told ∙ ap (λ (o : Option ℕ). Some (max_floor o floor)) (entry_floor t es sound client old found)

      go : ((client == k) ≡ true) ⊎ ((client == k) ≡ false)
          → (if client == k then Some (max_floor (floor_of k t.floors) floor) else floor_of k t.floors)
          ≡ (if client == k then new.floor else floor_of k t.floors)
      go (inl s) = rw s (ap (λ (x : ℕ). Some (max_floor (floor_of x t.floors) floor)) (sym (eqb-true client k s)) ∙ sym own)
      go (inr s) = rw s refl

  rising_told : are_rising 0 (with_floor client floor t.floors) ≡ true
  rising_told =
      (let least : nat_le 0 client ≡ true = grind (arith, nat_tests) in still_rising client floor 0 t.floors sound.floors_rise least)

  pub told_held : new.notes.items ≡ above floor old.notes.items → AreClientEntries (with_told client floor t) ns
  told_held left = held_by client new es ns changed t (with_told client floor t) sound rising_told
      (rise_left comes_before (λ (a : Answered). not (is_answer_done client floor a)) t.notes sound.notes_rise)
      (above_told client floor t.floors t.notes sound.floors_rise (all_stood client t.floors t.notes sound.above)) floors_told
      (λ k. notes_told client floor k t.notes ∙ go k (cases_Bool (client == k)))
    where
      own : new.notes.items ≡ above floor (of_client client t.notes)
      own = left ∙ ap (λ (l : List Answered). above floor l) (entry_notes t es sound client old found)

      go : (k : ℕ) → ((client == k) ≡ true) ⊎ ((client == k) ≡ false)
          → (if client == k then above floor (of_client k t.notes) else of_client k t.notes)
          ≡ (if client == k then new.notes.items else of_client k t.notes)
      go k (inl s) = rw s (ap (λ (x : ℕ). above floor (of_client x t.notes)) (sym (eqb-true client k s)) ∙ sym own)
      go k (inr s) = rw s refl

  pub noted_held : (a : Answered) → a.client ≡ client → judge_of t a.client a.seq ≡ judge.New
      → new.notes.items ≡ above floor (with_note a old.notes.items)
      → AreClientEntries (with_answer a floor t) ns
  noted_held a same number left = subst (λ (k : ℕ). AreClientEntries (with_told k floor (record t { notes = with_note a t.notes })) ns)
      (sym same) (held_by client new es ns changed t (with_told client floor (record t { notes = with_note a t.notes })) sound rising_told
      (rise_left comes_before (λ (x : Answered). not (is_answer_done client floor x)) (with_note a t.notes)
      (rise_with a t.notes free.1 sound.notes_rise))
      (above_told client floor t.floors (with_note a t.notes) sound.floors_rise (all_with (may_stand client t.floors) a t.notes
      (stands (cases_Bool (client == a.client))) (all_stood client t.floors t.notes sound.above))) floors_told
      (λ k. notes_told client floor k (with_note a t.notes) ∙ go k (cases_Bool (client == k))))
    where
      free : (not (is_done a.seq (floor_of a.client t.floors)) ≡ true) × (noted_for a.client a.seq t.notes ≡ None)
      free = new_number t a.client a.seq number

      stands : ((client == a.client) ≡ true) ⊎ ((client == a.client) ≡ false) → may_stand client t.floors a ≡ true
      stands (inl s) = rw s free.0
      stands (inr s) =
          (let equal : (client == a.client) ≡ true = grind (arith, nat_tests, same) in absurd (both_ways (client == a.client) s equal))

      among : (k : ℕ)
          → of_client k (with_note a t.notes)
          ≡ (if a.client == k then with_note a (of_client k t.notes) else of_client k t.notes)
      among k = left_with (λ (x : Answered). x.client == k) a t.notes sound.notes_rise

      own : new.notes.items ≡ above floor (with_note a (of_client client t.notes))
      own = left ∙ ap (λ (l : List Answered). above floor (with_note a l)) (entry_notes t es sound client old found)

      go : (k : ℕ) → ((client == k) ≡ true) ⊎ ((client == k) ≡ false)
          → (if client == k then above floor (of_client k (with_note a t.notes)) else of_client k (with_note a t.notes))
          ≡ (if client == k then new.notes.items else of_client k t.notes)
      go k (inl s) =
          let here : (a.client == client) ≡ true = grind (arith, nat_tests, same) in
          let with_it : of_client client (with_note a t.notes) ≡ with_note a (of_client client t.notes) = rw here at (among client) in
          rw s (ap (λ (x : ℕ). above floor (of_client x (with_note a t.notes))) (sym (eqb-true client k s))
          ∙ ap (λ (l : List Answered). above floor l) with_it ∙ sym own)
      go k (inr s) =
          let elsewhere : (a.client == k) ≡ false = grind (arith, nat_tests, same, s) in
          let without_it : of_client k (with_note a t.notes) ≡ of_client k t.notes = rw elsewhere at (among k) in
          rw s without_it
