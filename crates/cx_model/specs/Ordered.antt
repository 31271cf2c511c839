-- The client table of any list of values is in order.
use Rattle.std.specs.Prelude.{◌≡◌, ◌⊎◌, ℕ, ◌+◌, ◌==◌, Bool, true, false, not, nat_le, nat_lt, max, if◌then◌else◌, List, [], ◌∷◌, Option}
use Rattle.std.specs.Prelude.{None, Some, refl}
use Rattle.std.proofs.Common.{◌∙◌, subst, inl, inr, arith}
use Rattle.std.proofs.lemmas.Bool.{and_from, and_parts, cases_Bool, eqb-true, both_ways}
use Rattle.std.proofs.lemmas.Bool.Decides.{nat_tests}
use Rattle.cx_letter.specs.Prelude.{list_all, Answered, Command, Floor, Value, commands_of, rises, Table, are_rising, comes_before}
use Rattle.cx_letter.specs.Prelude.{floor_of, is_answer_of, is_done, is_answer_done, noted_for, still_noted, with_answer, with_floor}
use Rattle.cx_letter.specs.Prelude.{with_note, with_told}
use Rattle.cx_base.proofs.Used.{none_placed, same_client, still_rising, turned_test}
use Rattle.cx_model.specs.Renewed.{IsOrdered, is_above_client_floor, is_over, rises_left}
use Rattle.cx_model.specs.Replica.{Machine, execute, execute_noted, execute_all, execute_value, machine_from, machine_of, new_machine}

-- whether each note is above its client's floor
abbrev are_above : List Floor → List Answered → Bool
are_above floors notes = list_all (λ (a : Answered). is_above_client_floor floors a) notes

-- NOTES THAT RISE

before_both : (a b x : Answered) → comes_before a b ≡ true → comes_before b x ≡ true → comes_before a x ≡ true
before_both a b x h k = grind (arith, nat_tests, h, k)

before_all : (a b : Answered) (notes : List Answered) → comes_before a b ≡ true → list_all (λ x. comes_before b x) notes ≡ true
    → list_all (λ x. comes_before a x) notes ≡ true
before_all a b [] h all = refl
before_all a b (x ∷ notes) h all =
    let parts = and_parts (comes_before b x) (list_all (λ y. comes_before b y) notes) all in
    and_from (comes_before a x) (list_all (λ y. comes_before a y) notes) (before_both a b x h parts.0) (before_all a b notes h parts.1)

-- what is so of each, and of one more
all_with : (p : Answered → Bool) (a : Answered) (notes : List Answered) → p a ≡ true → list_all p notes ≡ true
    → list_all p (with_note a notes) ≡ true
all_with p a [] one all = and_from (p a) true one refl
all_with p a (b ∷ notes) one all =
    let parts = and_parts (p b) (list_all p notes) all in
    go (cases_Bool (comes_before a b)) (all_with p a notes one parts.1) parts.0
  where
    go : (comes_before a b ≡ true) ⊎ (comes_before a b ≡ false) → list_all p (with_note a notes) ≡ true → p b ≡ true
        → list_all p (with_note a (b ∷ notes)) ≡ true
    go (inl h) rest first = rw h (and_from (p a) (list_all p (b ∷ notes)) one all)
    go (inr h) rest first = rw h (and_from (p b) (list_all p (with_note a notes)) first rest)

-- of two notes to different numbers one comes first
comes_behind : (a b : Answered) → comes_before a b ≡ false → is_answer_of a.client a.seq b ≡ false → comes_before b a ≡ true
comes_behind a b h k = grind (arith, nat_tests, h, k)

rises_with : (a : Answered) (notes : List Answered) → noted_for a.client a.seq notes ≡ None → rises comes_before notes ≡ true
    → rises comes_before (with_note a notes) ≡ true
rises_with a [] new rising = refl
rises_with a (b ∷ notes) new rising =
    go (cases_Bool (is_answer_of a.client a.seq b)) (cases_Bool (comes_before a b))
    (and_parts (list_all (λ x. comes_before b x) notes) (rises comes_before notes) rising) new (rises_with a notes)
  where
    go : (is_answer_of a.client a.seq b ≡ true) ⊎ (is_answer_of a.client a.seq b ≡ false)
        → (comes_before a b ≡ true) ⊎ (comes_before a b ≡ false)
        → (list_all (λ x. comes_before b x) notes ≡ true) × (rises comes_before notes ≡ true)
        → noted_for a.client a.seq (b ∷ notes) ≡ None
        → (noted_for a.client a.seq notes ≡ None → rises comes_before notes ≡ true → rises comes_before (with_note a notes) ≡ true)
        → rises comes_before (with_note a (b ∷ notes)) ≡ true
    go (inl s) h p none rest = (let never : Some b ≡ None = rw s at none in cc)
    go (inr s) (inl h) p none rest = rw h (and_from (list_all (λ x. comes_before a x) (b ∷ notes)) (rises comes_before (b ∷ notes))
        (and_from (comes_before a b) (list_all (λ x. comes_before a x) notes) h (before_all a b notes h p.0)) rising)
    go (inr s) (inr h) p none rest =
        let later : noted_for a.client a.seq notes ≡ None = rw s at none in
        rw h (and_from (list_all (λ x. comes_before b x) (with_note a notes)) (rises comes_before (with_note a notes))
        (all_with (λ x. comes_before b x) a notes (comes_behind a b h s) p.0) (rest later p.1))

-- FLOORS

-- the greater one of a client's floor and another
abbrev raised : Option ℕ → ℕ → ℕ
raised None told = told
raised (Some floor) told = max floor told

floor_told : (client floor n : ℕ) (floors : List Floor) → are_rising n floors ≡ true → (k : ℕ)
    → floor_of k (with_floor client floor floors) ≡ (if client == k then Some (raised (floor_of k floors) floor) else floor_of k floors)
floor_told client floor n [] r k = refl
floor_told client floor n (f ∷ floors) r k = go (cases_Bool (f.client == client)) (cases_Bool (nat_lt client f.client))
    (cases_Bool (client == k)) (cases_Bool (f.client == k)) (floor_told client floor (f.client + 1) floors rest k)
  where
    rest : are_rising (f.client + 1) floors ≡ true
    rest = (and_parts (nat_le n f.client) (are_rising (f.client + 1) floors) r).1

    go : ((f.client == client) ≡ true) ⊎ ((f.client == client) ≡ false)
        → (nat_lt client f.client ≡ true) ⊎ (nat_lt client f.client ≡ false)
        → ((client == k) ≡ true) ⊎ ((client == k) ≡ false) → ((f.client == k) ≡ true) ⊎ ((f.client == k) ≡ false)
        → floor_of k (with_floor client floor floors) ≡ (if client == k then Some (raised (floor_of k floors) floor) else floor_of k floors)
        → floor_of k (with_floor client floor (f ∷ floors))
        ≡ (if client == k then Some (raised (floor_of k (f ∷ floors)) floor) else floor_of k (f ∷ floors))
    go (inl s) b (inl t) u h = rw (s, t, same_client k f.client client true (eqb-true f.client client s) t) refl
    go (inl s) b (inr t) u h = rw (s, t, same_client k f.client client false (eqb-true f.client client s) t) refl
    go (inr s) (inl b) (inl t) u h =
        let none : floor_of k (f ∷ floors) ≡ None =
        subst (λ (x : ℕ). floor_of x (f ∷ floors) ≡ None) (eqb-true client k t) (none_placed client f floors s b rest) in
        rw (s, b, none, t) refl
    go (inr s) (inl b) (inr t) u h = rw (s, b, t) refl
    go (inr s) (inr b) (inl t) (inl u) h =
        absurd (both_ways (f.client == client) s (same_client client f.client k true (eqb-true f.client k u) (turned_test k client ∙ t)))
    go (inr s) (inr b) (inr t) (inl u) h = rw (s, b, t, u) refl
    go (inr s) (inr b) t (inr u) h = rw (s, b, u) h

-- whether a note may stand once its client has told a floor: the client isn't done with it before
abbrev may_stand : ℕ → List Floor → Answered → Bool
may_stand client floors a = if client == a.client then not (is_done a.seq (floor_of a.client floors)) else is_above_client_floor floors a

stood : (client : ℕ) (floors : List Floor) (a : Answered) → is_above_client_floor floors a ≡ true → may_stand client floors a ≡ true
stood client floors a h = go (cases_Bool (client == a.client)) (floor_of a.client floors) h
  where
    free : (o : Option ℕ) → is_over a.seq o ≡ true → not (is_done a.seq o) ≡ true
    free None h = cc
    free (Some floor) h = grind (arith, nat_tests, h)

    go : ((client == a.client) ≡ true) ⊎ ((client == a.client) ≡ false) → (o : Option ℕ) → is_over a.seq o ≡ true
        → (if client == a.client then not (is_done a.seq o) else is_over a.seq o) ≡ true
    go (inl t) o h = rw t (free o h)
    go (inr t) o h = rw t h

all_stood : (client : ℕ) (floors : List Floor) (notes : List Answered) → are_above floors notes ≡ true
    → list_all (may_stand client floors) notes ≡ true
all_stood client floors [] all = refl
all_stood client floors (a ∷ notes) all =
    let parts = and_parts (is_above_client_floor floors a) (are_above floors notes) all in
    and_from (may_stand client floors a) (list_all (may_stand client floors) notes) (stood client floors a parts.0)
    (all_stood client floors notes parts.1)

-- those that stay lie above their clients' floors
above_told : (client floor : ℕ) (floors : List Floor) (notes : List Answered) → are_rising 0 floors ≡ true
    → list_all (may_stand client floors) notes ≡ true → are_above (with_floor client floor floors) (still_noted client floor notes) ≡ true
above_told client floor floors [] rising all = refl
above_told client floor floors (a ∷ notes) rising all =
    let parts = and_parts (may_stand client floors a) (list_all (may_stand client floors) notes) all in
    go (cases_Bool (client == a.client)) (cases_Bool (nat_le a.seq floor)) (floor_told client floor 0 floors rising a.client) parts.0
    (above_told client floor floors notes rising parts.1)
  where
    higher : (o : Option ℕ) → not (is_done a.seq o) ≡ true → nat_le a.seq floor ≡ false → is_over a.seq (Some (raised o floor)) ≡ true
    higher None free v = grind (arith, nat_tests, v)
    higher (Some f) free v = grind (arith, nat_tests, free, v)

    go : ((client == a.client) ≡ true) ⊎ ((client == a.client) ≡ false)
        → (nat_le a.seq floor ≡ true) ⊎ (nat_le a.seq floor ≡ false) → floor_of a.client (with_floor client floor floors)
        ≡ (if client == a.client then Some (raised (floor_of a.client floors) floor) else floor_of a.client floors)
        → may_stand client floors a ≡ true
        → are_above (with_floor client floor floors) (still_noted client floor notes) ≡ true
        → are_above (with_floor client floor floors) (still_noted client floor (a ∷ notes)) ≡ true
    go (inl t) (inl v) is one rest = (let turned : (a.client == client) ≡ true = turned_test a.client client ∙ t in rw (turned, v) rest)
    go (inl t) (inr v) is one rest =
        let turned : (a.client == client) ≡ true = turned_test a.client client ∙ t in
        let floor_is : floor_of a.client (with_floor client floor floors) ≡ Some (raised (floor_of a.client floors) floor) = rw t at is in
        let free : not (is_done a.seq (floor_of a.client floors)) ≡ true = rw t at one in
        rw (turned, v) (and_from (is_above_client_floor (with_floor client floor floors) a)
        _ (rw floor_is (higher (floor_of a.client floors) free v)) rest)
    go (inr t) v is one rest =
        let turned : (a.client == client) ≡ false = turned_test a.client client ∙ t in
        let floor_is : floor_of a.client (with_floor client floor floors) ≡ floor_of a.client floors = rw t at is in
        let above : is_above_client_floor floors a ≡ true = rw t at one in
        rw turned (and_from (is_above_client_floor (with_floor client floor floors) a) _ (rw floor_is above) rest)

-- THE TABLE OF VALUES

from_zero : (n : ℕ) → nat_le 0 n ≡ true
from_zero n = grind (arith, nat_tests)

pub told_ordered : (client floor : ℕ) (t : Table) → IsOrdered t → IsOrdered (with_told client floor t)
told_ordered client floor t h = record {
  floors_rise = still_rising client floor 0 t.floors h.floors_rise (from_zero client);
  notes_rise = rises_left comes_before (λ (a : Answered). not (is_answer_done client floor a)) t.notes h.notes_rise;
  above = above_told client floor t.floors t.notes h.floors_rise (all_stood client t.floors t.notes h.above);
}

-- an answer to a number that is not used
pub answer_ordered : (a : Answered) (floor : ℕ) (t : Table) → is_done a.seq (floor_of a.client t.floors) ≡ false
    → noted_for a.client a.seq t.notes ≡ None → IsOrdered t → IsOrdered (with_answer a floor t)
answer_ordered a floor t new none h = record {
  floors_rise = still_rising a.client floor 0 t.floors h.floors_rise (from_zero a.client);
  notes_rise = rises_left comes_before (λ (x : Answered). not (is_answer_done a.client floor x)) (with_note a t.notes)
      (rises_with a t.notes none h.notes_rise);
  above =
      let own : (a.client == a.client) ≡ true = grind (arith, nat_tests) in
      let stands : may_stand a.client t.floors a ≡ true = rw (own, new) refl in
      above_told a.client floor t.floors (with_note a t.notes) h.floors_rise
      (all_with (may_stand a.client t.floors) a t.notes stands (all_stood a.client t.floors t.notes h.above));
}

execute_ordered : (at : ℕ) (m : Machine) (c : Command) → IsOrdered m.table → IsOrdered (execute at m c).machine.table
execute_ordered at m c h = go (is_done c.seq (floor_of c.client m.table.floors)) refl
  where
    noted : is_done c.seq (floor_of c.client m.table.floors) ≡ false → (o : Option Answered) → noted_for c.client c.seq m.table.notes ≡ o
        → IsOrdered (execute_noted at m c o).machine.table
    noted new None none = answer_ordered _ c.floor m.table new none h
    noted new (Some a) is = told_ordered c.client c.floor m.table h

    go : (b : Bool) → is_done c.seq (floor_of c.client m.table.floors) ≡ b → IsOrdered (execute at m c).machine.table
    go true is = rw is (told_ordered c.client c.floor m.table h)
    go false is = rw is (noted is (noted_for c.client c.seq m.table.notes) refl)

all_ordered : (at : ℕ) (m : Machine) (cs : List Command) → IsOrdered m.table → IsOrdered (execute_all at m cs).machine.table
all_ordered at m [] h = h
all_ordered at m (c ∷ cs) h = all_ordered at (execute at m c).machine cs (execute_ordered at m c h)

pub machine_from_ordered : (slot : ℕ) (m : Machine) (values : List Value) → IsOrdered m.table → IsOrdered (machine_from slot m values).table
machine_from_ordered slot m [] h = h
machine_from_ordered slot m (v ∷ values) h =
    machine_from_ordered (slot + 1) (execute_value slot m v).machine values (all_ordered (slot + 1) m (commands_of v) h)

-- what values leave is in order
pub machine_ordered : (values : List Value) → IsOrdered (machine_of values).table
machine_ordered values = machine_from_ordered 0 new_machine values (record { floors_rise = refl; notes_rise = refl; above = refl })
