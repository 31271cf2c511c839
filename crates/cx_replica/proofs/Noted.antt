-- What the client table of values of a cluster has, after more values.
use Rattle.cx_base.proofs.Common.{both_ways, comes_before, is_answer_of, is_done, is_answer_done, noted_for, still_noted, with_floor}
use Rattle.cx_base.proofs.Common.{with_note, with_told}
use Rattle.cx_role.proofs.Common.{◌≡◌, ◌⊎◌, ℕ, ◌+◌, ◌≤◌, Bool, true, false, not, ◌&&◌, ◌||◌, List, [], ◌∷◌, ◌++◌, length, map, inl, inr}
use Rattle.cx_role.proofs.Common.{sym, subst, ◌∙◌, refl, arith, ◌==◌, nat_le, nat_lt, if◌then◌else◌, Option, None, Some, list_all, list_any}
use Rattle.cx_role.proofs.Common.{and_from, and_parts, cases_Bool, eqb-true, nat_tests, Cluster, Answered, Command, Floor, Note, Value}
use Rattle.cx_role.proofs.Common.{rises, list_all-append, floor_fits, Table, are_rising, floor_of, names_value, IsOrdered, Machine}
use Rattle.cx_role.proofs.Common.{are_client_notes, execute, execute_all, machine_from, value}
use Rattle.cx_replica.proofs.Rises.{rises_below}
use Rattle.cx_base.specs.declared.command.Value.TheVariants.{Noop, Batch}
use Rattle.cx_model.specs.Names.{names_command}
use Rattle.cx_model.specs.Ordered.{answer_ordered, told_ordered}
use Rattle.cx_model.specs.Renewed.{fits_told, is_above_client_floor, is_near, is_over}
use Rattle.cx_model.specs.Replica.{answer_of, with_client, execute_noted, execute_value}
use Rattle.cx_field.specs.Fields.{command}
use Rattle.cx_table.specs.Entries.{max_floor}
use Rattle.cx_table.proofs.Rising.{all_with}
use Rattle.cx_table.proofs.Telling.{floor_told}
use Rattle.cx_replica.specs.Sound.{IsTableOfCluster, are_commands, is_cluster_value, are_own}
use Rattle.cx_field.proofs.RangeLaws.{command_apart}
use Rattle.cx_replica.proofs.Values.{commands_in}

either : (b c : Bool) → (b || c) ≡ true → (b ≡ true) ⊎ (c ≡ true)
either true c h = inl refl
either false c h = inr h

or_first : (b c : Bool) → b ≡ true → (b || c) ≡ true
or_first true c h = refl
or_first false c h = cc

or_second : (b c : Bool) → c ≡ true → (b || c) ≡ true
or_second true c h = refl
or_second false c h = h

-- whether a client has an answer; whether it has one to a number above a floor
abbrev has : ℕ → List Answered → Bool
has client notes = list_any (λ (a : Answered). a.client == client) notes

abbrev has_over : ℕ → ℕ → List Answered → Bool
has_over client floor notes = list_any (λ (a : Answered). a.client == client && nat_lt floor a.seq) notes

-- whether an answer is near its client's floor once that client has told one
abbrev may_be_near : ℕ → ℕ → List Floor → Answered → Bool
may_be_near client floor floors a = if client == a.client then not (is_done a.seq (floor_of a.client floors))
    && nat_le a.seq (max_floor (floor_of a.client floors) floor + 64) else is_near floors a

stood_near : (client floor : ℕ) (floors : List Floor) (a : Answered) → is_near floors a ≡ true → may_be_near client floor floors a ≡ true
stood_near client floor floors a h = go (cases_Bool (client == a.client)) (floor_of a.client floors) h
  where
    own : (o : Option ℕ) → fits_told a.seq o ≡ true → (not (is_done a.seq o) && nat_le a.seq (max_floor o floor + 64)) ≡ true
    own None h = cc
    own (Some f) h = grind (arith, nat_tests, h)

    go : ((client == a.client) ≡ true) ⊎ ((client == a.client) ≡ false) → (o : Option ℕ) → fits_told a.seq o ≡ true
        → (if client == a.client then not (is_done a.seq o) && nat_le a.seq (max_floor o floor + 64) else fits_told a.seq o) ≡ true
    go (inl t) o h = rw t (own o h)
    go (inr t) o h = rw t h

all_stood : (client floor : ℕ) (floors : List Floor) (notes : List Answered) → list_all (λ (a : Answered). is_near floors a) notes ≡ true
    → list_all (may_be_near client floor floors) notes ≡ true
all_stood client floor floors [] all = refl
all_stood client floor floors (a ∷ notes) all =
    let parts = and_parts (is_near floors a) (list_all (λ (x : Answered). is_near floors x) notes) all in
    and_from (may_be_near client floor floors a) (list_all (may_be_near client floor floors) notes)
    (stood_near client floor floors a parts.0) (all_stood client floor floors notes parts.1)

turned : (a b : ℕ) → (a == b) ≡ (b == a)
turned a b = grind (arith, nat_tests)

near_told : (client floor : ℕ) (floors : List Floor) (notes : List Answered) → are_rising 0 floors ≡ true
    → list_all (may_be_near client floor floors) notes ≡ true
    → list_all (λ (a : Answered). is_near (with_floor client floor floors) a) (still_noted client floor notes) ≡ true
near_told client floor floors [] rising all = refl
near_told client floor floors (a ∷ notes) rising all =
    let parts = and_parts (may_be_near client floor floors a) (list_all (may_be_near client floor floors) notes) all in
    go (cases_Bool (client == a.client)) (cases_Bool (nat_le a.seq floor)) (floor_told client floor 0 floors rising a.client) parts.0
    (near_told client floor floors notes rising parts.1)
  where
    closer : (o : Option ℕ) → (not (is_done a.seq o) && nat_le a.seq (max_floor o floor + 64)) ≡ true → nat_le a.seq floor ≡ false
        → fits_told a.seq (Some (max_floor o floor)) ≡ true
    closer None near v = grind (arith, nat_tests, near, v)
    closer (Some f) near v = grind (arith, nat_tests, near, v)

    go : ((client == a.client) ≡ true) ⊎ ((client == a.client) ≡ false)
        → (nat_le a.seq floor ≡ true) ⊎ (nat_le a.seq floor ≡ false)
        → floor_of a.client (with_floor client floor floors)
        ≡ (if client == a.client then Some (max_floor (floor_of a.client floors) floor) else floor_of a.client floors)
        → may_be_near client floor floors a ≡ true
        → list_all (λ (x : Answered). is_near (with_floor client floor floors) x) (still_noted client floor notes) ≡ true
        → list_all (λ (x : Answered). is_near (with_floor client floor floors) x) (still_noted client floor (a ∷ notes)) ≡ true
    go (inl t) (inl v) is one rest = (let same : (a.client == client) ≡ true = turned a.client client ∙ t in rw (same, v) rest)
    go (inl t) (inr v) is one rest =
        let same : (a.client == client) ≡ true = turned a.client client ∙ t in
        let floor_is : floor_of a.client (with_floor client floor floors) ≡ Some (max_floor (floor_of a.client floors) floor) =
        rw t at is in
        let near : (not (is_done a.seq (floor_of a.client floors)) && nat_le a.seq (max_floor (floor_of a.client floors) floor + 64))
        ≡ true = rw t at one in
        rw (same, v) (and_from (is_near (with_floor client floor floors) a) _ (rw floor_is (closer (floor_of a.client floors) near v)) rest)
    go (inr t) v is one rest =
        let other : (a.client == client) ≡ false = turned a.client client ∙ t in
        let floor_is : floor_of a.client (with_floor client floor floors) ≡ floor_of a.client floors = rw t at is in
        let near : is_near floors a ≡ true = rw t at one in
        rw other (and_from (is_near (with_floor client floor floors) a) _ (rw floor_is near) rest)

-- what is so of a client, and of those of floors, is so of those of floors with one of its own
each_told : (q : ℕ → Bool) (client floor : ℕ) (floors : List Floor) → q client ≡ true
    → list_all (λ (f : Floor). q f.client) floors ≡ true
    → list_all (λ (f : Floor). q f.client) (with_floor client floor floors) ≡ true
each_told q client floor [] one all = and_from (q client) true one refl
each_told q client floor (f ∷ floors) one all =
    let parts = and_parts (q f.client) (list_all (λ (x : Floor). q x.client) floors) all in
    go (cases_Bool (f.client == client)) (cases_Bool (nat_lt client f.client)) parts.0 parts.1 (each_told q client floor floors one parts.1)
  where
    go : ((f.client == client) ≡ true) ⊎ ((f.client == client) ≡ false)
        → (nat_lt client f.client ≡ true) ⊎ (nat_lt client f.client ≡ false) → q f.client ≡ true
        → list_all (λ (x : Floor). q x.client) floors ≡ true
        → list_all (λ (x : Floor). q x.client) (with_floor client floor floors) ≡ true
        → list_all (λ (x : Floor). q x.client) (with_floor client floor (f ∷ floors)) ≡ true
    go (inl s) b first tail rest = rw s (and_from (q client) (list_all (λ (x : Floor). q x.client) floors) one tail)
    go (inr s) (inl b) first tail rest =
        rw (s, b) (and_from (q client) _ one (and_from (q f.client) (list_all (λ (x : Floor). q x.client) floors) first tail))
    go (inr s) (inr b) first tail rest =
        rw (s, b) (and_from (q f.client) (list_all (λ (x : Floor). q x.client) (with_floor client floor floors)) first rest)

pub told_one : (q : ℕ → Bool) (client floor : ℕ) (floors : List Floor) → floor_of client floors ≡ Some floor
    → list_all (λ (f : Floor). q f.client) floors ≡ true → q client ≡ true
told_one q client floor [] e all = cc
told_one q client floor (f ∷ floors) e all =
    let parts = and_parts (q f.client) (list_all (λ (x : Floor). q x.client) floors) all in
    go (cases_Bool (f.client == client)) parts.0 e (λ rest. told_one q client floor floors rest parts.1)
  where
    go : ((f.client == client) ≡ true) ⊎ ((f.client == client) ≡ false) → q f.client ≡ true
        → floor_of client (f ∷ floors) ≡ Some floor → (floor_of client floors ≡ Some floor → q client ≡ true) → q client ≡ true
    go (inl s) first e rest = subst (λ (k : ℕ). q k ≡ true) (eqb-true f.client client s) first
    go (inr s) first e rest = rest (rw s at e)

each_other : (q r : ℕ → Bool) (floors : List Floor) → ((k : ℕ) → q k ≡ true → r k ≡ true)
    → list_all (λ (f : Floor). q f.client) floors ≡ true → list_all (λ (f : Floor). r f.client) floors ≡ true
each_other q r [] into all = refl
each_other q r (f ∷ floors) into all =
    let parts = and_parts (q f.client) (list_all (λ (x : Floor). q x.client) floors) all in
    and_from (r f.client) (list_all (λ (x : Floor). r x.client) floors) (into f.client parts.0) (each_other q r floors into parts.1)

-- a client keeps an answer that is above the floor it tells; others keep theirs
own_left : (client floor : ℕ) (notes : List Answered) → has_over client floor notes ≡ true
    → has client (still_noted client floor notes) ≡ true
own_left client floor [] h = cc
own_left client floor (a ∷ notes) h = go (cases_Bool (is_answer_done client floor a))
    (either (a.client == client && nat_lt floor a.seq) (has_over client floor notes) h) (own_left client floor notes)
  where
    go : (is_answer_done client floor a ≡ true) ⊎ (is_answer_done client floor a ≡ false)
        → ((a.client == client && nat_lt floor a.seq) ≡ true) ⊎ (has_over client floor notes ≡ true)
        → (has_over client floor notes ≡ true → has client (still_noted client floor notes) ≡ true)
        → has client (still_noted client floor (a ∷ notes)) ≡ true
    go (inl s) (inl one) rest = (let never : false ≡ true = grind (arith, nat_tests, s, one) in absurd cc)
    go (inr s) (inl one) rest = (let own : (a.client == client) ≡ true = (and_parts (a.client == client) (nat_lt floor a.seq) one).0 in rw s
        (or_first (a.client == client) (has client (still_noted client floor notes)) own))
    go (inl s) (inr more) rest = rw s (rest more)
    go (inr s) (inr more) rest = rw s (or_second (a.client == client) (has client (still_noted client floor notes)) (rest more))

other_left : (client floor k : ℕ) (notes : List Answered) → (client == k) ≡ false → has k notes ≡ true
    → has k (still_noted client floor notes) ≡ true
other_left client floor k [] other h = cc
other_left client floor k (a ∷ notes) other h =
    go (cases_Bool (is_answer_done client floor a)) (either (a.client == k) (has k notes) h) (other_left client floor k notes other)
  where
    go : (is_answer_done client floor a ≡ true) ⊎ (is_answer_done client floor a ≡ false)
        → ((a.client == k) ≡ true) ⊎ (has k notes ≡ true)
        → (has k notes ≡ true → has k (still_noted client floor notes) ≡ true)
        → has k (still_noted client floor (a ∷ notes)) ≡ true
    go (inl s) (inl one) rest =
        (let same : (client == k) ≡ true = grind (arith, nat_tests, s, one) in absurd (both_ways (client == k) other same))
    go (inr s) (inl one) rest = rw s (or_first (a.client == k) (has k (still_noted client floor notes)) one)
    go (inl s) (inr more) rest = rw s (rest more)
    go (inr s) (inr more) rest = rw s (or_second (a.client == k) (has k (still_noted client floor notes)) (rest more))

over_has : (client floor : ℕ) (notes : List Answered) → has_over client floor notes ≡ true → has client notes ≡ true
over_has client floor [] h = cc
over_has client floor (a ∷ notes) h =
    go (either (a.client == client && nat_lt floor a.seq) (has_over client floor notes) h) (over_has client floor notes)
  where
    go : ((a.client == client && nat_lt floor a.seq) ≡ true) ⊎ (has_over client floor notes ≡ true)
        → (has_over client floor notes ≡ true → has client notes ≡ true) → has client (a ∷ notes) ≡ true
    go (inl one) rest = or_first (a.client == client) (has client notes) (and_parts (a.client == client) (nat_lt floor a.seq) one).0
    go (inr more) rest = or_second (a.client == client) (has client notes) (rest more)

some_told : (client floor : ℕ) (floors : List Floor) (notes : List Answered) → has_over client floor notes ≡ true
    → list_all (λ (f : Floor). has f.client notes) floors ≡ true
    → list_all (λ (f : Floor). has f.client (still_noted client floor notes)) (with_floor client floor floors) ≡ true
some_told client floor floors notes over all =
    each_told (λ (k : ℕ). has k (still_noted client floor notes)) client floor floors (own_left client floor notes over)
    (each_other (λ (k : ℕ). has k notes) (λ (k : ℕ). has k (still_noted client floor notes)) floors
    (λ k h. left k h (cases_Bool (client == k))) all)
  where
    left : (k : ℕ) → has k notes ≡ true → ((client == k) ≡ true) ⊎ ((client == k) ≡ false) → has k (still_noted client floor notes) ≡ true
    left k h (inl s) =
        subst (λ (x : ℕ). has x (still_noted client floor notes) ≡ true) (eqb-true client k s) (own_left client floor notes over)
    left k h (inr s) = other_left client floor k notes s h

-- where a client has an answer above a floor
done_over : (client floor least : ℕ) (floors : List Floor) (notes : List Answered) → floor_of client floors ≡ Some least → floor ≤ least
    → list_all (λ (a : Answered). is_above_client_floor floors a) notes ≡ true → has client notes ≡ true
    → has_over client floor notes ≡ true
done_over client floor least floors [] told low above h = cc
done_over client floor least floors (a ∷ notes) told low above h =
    let parts = and_parts (is_above_client_floor floors a) (list_all (λ (x : Answered). is_above_client_floor floors x) notes) above in
    go (cases_Bool (a.client == client)) parts.0 (either (a.client == client) (has client notes) h)
    (done_over client floor least floors notes told low parts.1)
  where
    go : ((a.client == client) ≡ true) ⊎ ((a.client == client) ≡ false) → is_above_client_floor floors a ≡ true
        → ((a.client == client) ≡ true) ⊎ (has client notes ≡ true) → (has client notes ≡ true → has_over client floor notes ≡ true)
        → has_over client floor (a ∷ notes) ≡ true
    go (inl s) one more rest =
        let here : is_over a.seq (floor_of client floors) ≡ true =
        subst (λ (k : ℕ). is_over a.seq (floor_of k floors) ≡ true) (eqb-true a.client client s) one in
        let higher : nat_lt least a.seq ≡ true = rw told at here in
        let over : nat_lt floor a.seq ≡ true = grind (arith, nat_tests, higher) in
        or_first (a.client == client && nat_lt floor a.seq) (has_over client floor notes)
        (and_from (a.client == client) (nat_lt floor a.seq) s over)
    go (inr s) one (inl t) rest = absurd (both_ways (a.client == client) s t)
    go (inr s) one (inr more) rest = or_second (a.client == client && nat_lt floor a.seq) (has_over client floor notes) (rest more)

noted_over : (client seq floor : ℕ) (notes : List Answered) (x : Answered) → noted_for client seq notes ≡ Some x → nat_lt floor seq ≡ true
    → has_over client floor notes ≡ true
noted_over client seq floor [] x e low = cc
noted_over client seq floor (a ∷ notes) x e low =
    go (cases_Bool (is_answer_of client seq a)) e (λ rest. noted_over client seq floor notes x rest low)
  where
    go : (is_answer_of client seq a ≡ true) ⊎ (is_answer_of client seq a ≡ false) → noted_for client seq (a ∷ notes) ≡ Some x
        → (noted_for client seq notes ≡ Some x → has_over client floor notes ≡ true) → has_over client floor (a ∷ notes) ≡ true
    go (inl s) e rest =
        let p = and_parts (a.client == client) (a.seq == seq) s in
        let same = p.1 in
        let over : nat_lt floor a.seq ≡ true = grind (arith, nat_tests, same, low) in
        or_first (a.client == client && nat_lt floor a.seq) (has_over client floor notes)
        (and_from (a.client == client) (nat_lt floor a.seq) p.0 over)
    go (inr s) e rest = or_second (a.client == client && nat_lt floor a.seq) (has_over client floor notes) (rest (rw s at e))

new_over : (a : Answered) (floor : ℕ) (notes : List Answered) → nat_lt floor a.seq ≡ true
    → has_over a.client floor (with_note a notes) ≡ true
new_over a floor [] low = (let own : (a.client == a.client) ≡ true = grind (arith, nat_tests) in
    or_first (a.client == a.client && nat_lt floor a.seq) false (and_from (a.client == a.client) (nat_lt floor a.seq) own low))
new_over a floor (b ∷ notes) low = go (cases_Bool (comes_before a b)) (new_over a floor notes low)
  where
    go : (comes_before a b ≡ true) ⊎ (comes_before a b ≡ false) → has_over a.client floor (with_note a notes) ≡ true
        → has_over a.client floor (with_note a (b ∷ notes)) ≡ true
    go (inl h) rest =
        let own : (a.client == a.client) ≡ true = grind (arith, nat_tests) in
        rw h (or_first (a.client == a.client && nat_lt floor a.seq) (has_over a.client floor (b ∷ notes))
        (and_from (a.client == a.client) (nat_lt floor a.seq) own low))
    go (inr h) rest = rw h (or_second (b.client == a.client && nat_lt floor b.seq) (has_over a.client floor (with_note a notes)) rest)

still_has : (a : Answered) (k : ℕ) (notes : List Answered) → has k notes ≡ true → has k (with_note a notes) ≡ true
still_has a k [] h = cc
still_has a k (b ∷ notes) h = go (cases_Bool (comes_before a b)) (either (b.client == k) (has k notes) h) (still_has a k notes)
  where
    go : (comes_before a b ≡ true) ⊎ (comes_before a b ≡ false) → ((b.client == k) ≡ true) ⊎ (has k notes ≡ true)
        → (has k notes ≡ true → has k (with_note a notes) ≡ true) → has k (with_note a (b ∷ notes)) ≡ true
    go (inl s) one rest = rw s (or_second (a.client == k) (has k (b ∷ notes)) h)
    go (inr s) (inl one) rest = rw s (or_first (b.client == k) (has k (with_note a notes)) one)
    go (inr s) (inr more) rest = rw s (or_second (b.client == k) (has k (with_note a notes)) (rest more))

-- a command of the cluster, of which the floor fits
module _ (c : Cluster) (client floor : ℕ) (named : nat_lt client c.clients ≡ true) where
  told_noted : (t : Table) → IsOrdered t → IsTableOfCluster c t → has_over client floor t.notes ≡ true
      → IsTableOfCluster c (with_told client floor t)
  told_noted t ordered noted over = record {
    near = near_told client floor t.floors t.notes ordered.floors_rise (all_stood client floor t.floors t.notes noted.near);
    clients = each_told (λ (k : ℕ). nat_lt k c.clients) client floor t.floors named noted.clients;
    some = some_told client floor t.floors t.notes over noted.some;
  }

  answer_noted : (a : Answered) → a.client ≡ client → (t : Table) → IsOrdered t → IsTableOfCluster c t → floor_fits a.seq floor ≡ true
      → is_done a.seq (floor_of client t.floors) ≡ false
      → IsTableOfCluster c (with_told client floor (record t { notes = with_note a t.notes }))
  answer_noted a own t ordered noted fit free =
      let parts = and_parts (nat_lt floor a.seq) (nat_le a.seq (floor + 64)) fit in
      let same : (client == a.client) ≡ true = grind (arith, nat_tests, own) in
      let undone : is_done a.seq (floor_of a.client t.floors) ≡ false =
      subst (λ (k : ℕ). is_done a.seq (floor_of k t.floors) ≡ false) (sym own) free in
      let close : nat_le a.seq (max_floor (floor_of a.client t.floors) floor + 64) ≡ true = closer (floor_of a.client t.floors) parts.1 in
      let one : may_be_near client floor t.floors a ≡ true = rw (same, undone, close) refl in
      let over : has_over client floor (with_note a t.notes) ≡ true =
      subst (λ (k : ℕ). has_over k floor (with_note a t.notes) ≡ true) own (new_over a floor t.notes parts.0) in
      record {
        near = near_told client floor t.floors (with_note a t.notes) ordered.floors_rise
            (all_with (may_be_near client floor t.floors) a t.notes one (all_stood client floor t.floors t.notes noted.near));
        clients = each_told (λ (k : ℕ). nat_lt k c.clients) client floor t.floors named noted.clients;
        some = some_told client floor t.floors (with_note a t.notes) over (each_other (λ (k : ℕ). has k t.notes)
            (λ (k : ℕ). has k (with_note a t.notes)) t.floors (λ k h. still_has a k t.notes h) noted.some);
      }
    where
      closer : (o : Option ℕ) → nat_le a.seq (floor + 64) ≡ true → nat_le a.seq (max_floor o floor + 64) ≡ true
      closer None h = h
      closer (Some f) h = grind (arith, nat_tests, h)

-- what is so of a machine's table once a command is executed
module _ (c : Cluster) (n : ℕ) (m : Machine) (k : Command) (named : nat_lt k.client c.clients ≡ true)
    (fit : floor_fits k.seq k.floor ≡ true) (ordered : IsOrdered m.table) (noted : IsTableOfCluster c m.table) where
  low : nat_lt k.floor k.seq ≡ true
  low = (and_parts (nat_lt k.floor k.seq) (nat_le k.seq (k.floor + 64)) fit).0

  by_answer : (o : Option Answered) → noted_for k.client k.seq m.table.notes ≡ o → is_done k.seq (floor_of k.client m.table.floors) ≡ false
      → IsOrdered (execute_noted n m k o).machine.table × IsTableOfCluster c (execute_noted n m k o).machine.table
  by_answer None none free = (
    answer_ordered _ k.floor m.table free none ordered,
    answer_noted c k.client k.floor named _ refl m.table ordered noted fit free,
  )
  by_answer (Some a) is free = (
    told_ordered k.client k.floor m.table ordered,
    told_noted c k.client k.floor named m.table ordered noted (noted_over k.client k.seq k.floor m.table.notes a is low),
  )

  when_done : (o : Option ℕ) → floor_of k.client m.table.floors ≡ o → is_done k.seq o ≡ true
      → IsOrdered (with_told k.client k.floor m.table) × IsTableOfCluster c (with_told k.client k.floor m.table)
  when_done None is done = cc
  when_done (Some least) is done = (
    told_ordered k.client k.floor m.table ordered,
    told_noted c k.client k.floor named m.table ordered noted
        (done_over k.client k.floor least m.table.floors m.table.notes is (grind (arith, nat_tests, done, low)) ordered.above
        (told_one (λ (x : ℕ). has x m.table.notes) k.client least m.table.floors is noted.some)),
  )

  one_noted : IsOrdered (execute n m k).machine.table × IsTableOfCluster c (execute n m k).machine.table
  one_noted = go (cases_Bool (is_done k.seq (floor_of k.client m.table.floors)))
    where
      go : (is_done k.seq (floor_of k.client m.table.floors) ≡ true) ⊎ (is_done k.seq (floor_of k.client m.table.floors) ≡ false)
          → IsOrdered (execute n m k).machine.table × IsTableOfCluster c (execute n m k).machine.table
      go (inl d) = rw d (when_done (floor_of k.client m.table.floors) refl d)
      go (inr d) = rw d (by_answer (noted_for k.client k.seq m.table.notes) refl d)

all_noted : (c : Cluster) (n : ℕ) (m : Machine) (ks : List Command) → are_commands ks ≡ true
    → list_all (λ (k : Command). names_command c k) ks ≡ true → IsOrdered m.table → IsTableOfCluster c m.table
    → IsOrdered (execute_all n m ks).machine.table × IsTableOfCluster c (execute_all n m ks).machine.table
all_noted c n m [] fit named ordered noted = (ordered, noted)
all_noted c n m (k ∷ ks) fit named ordered noted =
    let f = and_parts (command.fits k) (are_commands ks) fit in
    let w = and_parts (names_command c k) (list_all (λ (x : Command). names_command c x) ks) named in
    let one = one_noted c n m k w.0 ((command_apart k f.0).2) ordered noted in
    all_noted c n (execute n m k).machine ks f.1 w.1 one.0 one.1

value_noted : (c : Cluster) (n : ℕ) (m : Machine) (v : Value) → is_cluster_value c v ≡ true → IsOrdered m.table → IsTableOfCluster c m.table
    → IsOrdered (execute_value n m v).machine.table × IsTableOfCluster c (execute_value n m v).machine.table
value_noted c n m Noop own ordered noted = (ordered, noted)
value_noted c n m (Batch ks) own ordered noted =
    let parts = and_parts (value.fits (Batch ks)) (names_value c (Batch ks)) own in
    all_noted c (n + 1) m ks (commands_in ks parts.0) parts.1 ordered noted

-- values of the cluster leave a table in order, with what is noted of its clients
pub values_noted : (c : Cluster) (n : ℕ) (m : Machine) (vs : List Value) → are_own c vs ≡ true → IsOrdered m.table
    → IsTableOfCluster c m.table → IsOrdered (machine_from n m vs).table × IsTableOfCluster c (machine_from n m vs).table
values_noted c n m [] own ordered noted = (ordered, noted)
values_noted c n m (v ∷ vs) own ordered noted =
    let parts = and_parts (is_cluster_value c v) (are_own c vs) own in
    let one = value_noted c n m v parts.0 ordered noted in
    values_noted c (n + 1) (execute_value n m v).machine vs parts.1 one.0 one.1

-- a client behind those of a table
abbrev floor_at : ℕ → ℕ → Floor
floor_at client floor = record { client = client; floor = floor }

still_told : (k client floor : ℕ) (floors : List Floor) (f : ℕ) → floor_of k floors ≡ Some f
    → floor_of k (floors ++ floor_at client floor ∷ []) ≡ Some f
still_told k client floor [] f e = cc
still_told k client floor (g ∷ floors) f e = go (cases_Bool (g.client == k)) e (still_told k client floor floors f)
  where
    go : ((g.client == k) ≡ true) ⊎ ((g.client == k) ≡ false) → floor_of k (g ∷ floors) ≡ Some f
        → (floor_of k floors ≡ Some f → floor_of k (floors ++ floor_at client floor ∷ []) ≡ Some f)
        → floor_of k (g ∷ floors ++ floor_at client floor ∷ []) ≡ Some f
    go (inl s) e rest = rw s (rw s at e)
    go (inr s) e rest = rw s (rest (rw s at e))

last_told : (client floor : ℕ) (floors : List Floor) → list_all (λ (f : Floor). nat_lt f.client client) floors ≡ true
    → floor_of client (floors ++ floor_at client floor ∷ []) ≡ Some floor
last_told client floor [] below = (let same : (client == client) ≡ true = grind (arith, nat_tests) in rw same refl)
last_told client floor (f ∷ floors) below =
    let parts = and_parts (nat_lt f.client client) (list_all (λ (x : Floor). nat_lt x.client client) floors) below in
    let first = parts.0 in
    let other : (f.client == client) ≡ false = grind (arith, nat_tests, first) in
    rw other (last_told client floor floors parts.1)

old_near : (client floor : ℕ) (floors : List Floor) (notes : List Answered) → list_all (λ (a : Answered). is_near floors a) notes ≡ true
    → list_all (λ (a : Answered). is_near (floors ++ floor_at client floor ∷ []) a) notes ≡ true
old_near client floor floors [] all = refl
old_near client floor floors (a ∷ notes) all =
    let parts = and_parts (is_near floors a) (list_all (λ (x : Answered). is_near floors x) notes) all in
    and_from (is_near (floors ++ floor_at client floor ∷ []) a)
    (list_all (λ (x : Answered). is_near (floors ++ floor_at client floor ∷ []) x) notes)
    (go (floor_of a.client floors) refl parts.0) (old_near client floor floors notes parts.1)
  where
    go : (o : Option ℕ) → floor_of a.client floors ≡ o → fits_told a.seq o ≡ true → is_near (floors ++ floor_at client floor ∷ []) a ≡ true
    go None is h = cc
    go (Some f) is h = rw (still_told a.client client floor floors f is) h

new_near : (client floor : ℕ) (floors : List Floor) (notes : List Note)
    → floor_of client (floors ++ floor_at client floor ∷ []) ≡ Some floor → list_all (λ (n : Note). floor_fits n.seq floor) notes ≡ true
    → list_all (λ (a : Answered). is_near (floors ++ floor_at client floor ∷ []) a) (map (answer_of client) notes) ≡ true
new_near client floor floors [] told fit = refl
new_near client floor floors (n ∷ notes) told fit =
    let parts = and_parts (floor_fits n.seq floor) (list_all (λ (x : Note). floor_fits x.seq floor) notes) fit in
    and_from (is_near (floors ++ floor_at client floor ∷ []) (answer_of client n))
    (list_all (λ (a : Answered). is_near (floors ++ floor_at client floor ∷ []) a) (map (answer_of client) notes))
    (rw told parts.0) (new_near client floor floors notes told parts.1)

more_has : (k : ℕ) (notes more : List Answered) → has k notes ≡ true → has k (notes ++ more) ≡ true
more_has k [] more h = cc
more_has k (a ∷ notes) more h = go (either (a.client == k) (has k notes) h) (more_has k notes more)
  where
    go : ((a.client == k) ≡ true) ⊎ (has k notes ≡ true) → (has k notes ≡ true → has k (notes ++ more) ≡ true)
        → has k (a ∷ notes ++ more) ≡ true
    go (inl s) rest = or_first (a.client == k) (has k (notes ++ more)) s
    go (inr t) rest = or_second (a.client == k) (has k (notes ++ more)) (rest t)

has_last : (k : ℕ) (notes more : List Answered) → has k more ≡ true → has k (notes ++ more) ≡ true
has_last k [] more h = h
has_last k (a ∷ notes) more h = or_second (a.client == k) (has k (notes ++ more)) (has_last k notes more h)

own_has : (client : ℕ) (notes : List Note) → 1 ≤ length notes → has client (map (answer_of client) notes) ≡ true
own_has client [] some = absurd (omega arith)
own_has client (n ∷ notes) some = (let same : (client == client) ≡ true = grind (arith, nat_tests) in or_first (client == client)
    (has client (map (answer_of client) notes)) same)

pub client_noted : (c : Cluster) (client floor : ℕ) (notes : List Note) (t : Table) → nat_lt client c.clients ≡ true → 1 ≤ length notes
    → are_rising 0 (t.floors ++ floor_at client floor ∷ []) ≡ true → are_client_notes floor notes ≡ true → IsTableOfCluster c t
    → IsTableOfCluster c (with_client client floor notes t)
client_noted c client floor notes t named some rising above noted =
    let below = (rises_below client floor 0 t.floors rising).1 in
    let fit = (and_parts (rises (λ (n : Note) (later : Note). nat_lt n.seq later.seq) notes)
    (list_all (λ (n : Note). floor_fits n.seq floor) notes) above).1 in
    let told = last_told client floor t.floors below in
    let more = map (answer_of client) notes in
    record {
      near = list_all-append (λ (a : Answered). is_near (t.floors ++ floor_at client floor ∷ []) a) t.notes more
          ∙ and_from _ _ (old_near client floor t.floors t.notes noted.near) (new_near client floor t.floors notes told fit);
      clients = list_all-append (λ (f : Floor). nat_lt f.client c.clients) t.floors (floor_at client floor ∷ [])
          ∙ and_from _ _ noted.clients (and_from (nat_lt client c.clients) true named refl);
      some = list_all-append (λ (f : Floor). has f.client (t.notes ++ more)) t.floors (floor_at client floor ∷ [])
          ∙ and_from _ _ (each_other (λ (k : ℕ). has k t.notes) (λ (k : ℕ). has k (t.notes ++ more)) t.floors
          (λ k h. more_has k t.notes more h) noted.some)
          (and_from (has client (t.notes ++ more)) true (has_last client t.notes more (own_has client notes some)) refl);
    }
