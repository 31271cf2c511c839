-- What values leave whose commands name clients of the cluster and tell floors that fit: keys that rise, and notes near their clients'
-- floors. So a replica opens from the renewed list.
use Rattle.std.proofs.Common.{take-append-drop}
use Rattle.cx_letter.specs.Prelude.{Op, Put, Del, App, is_less, map_after, rises, still_noted, with_told}
use Rattle.cx_inv_run.proofs.Common.{◌≡◌, ◌⊎◌, ℕ, ◌+◌, ◌==◌, ◌&&◌, Bool, true, false, not, nat_le, nat_lt, max, if◌then◌else◌, List, []}
use Rattle.cx_inv_run.proofs.Common.{◌∷◌, ◌++◌, drop, take, Option, None, Some, refl, list_all, bytes_eq, ap, sym, ◌∙◌, subst, inl, inr}
use Rattle.cx_inv_run.proofs.Common.{arith, and_from, and_parts, cases_Bool, eqb-true, both_ways, true≢false, nat_tests, list_all-append}
use Rattle.cx_inv_run.proofs.Common.{Cluster, Answered, Command, Floor, Pair, Value, RoleId, floor_fits, commands_of, text_at, are_rising}
use Rattle.cx_inv_run.proofs.Common.{comes_before, floor_of, is_done, noted_for, with_floor, with_note, role, same_role, none_placed}
use Rattle.cx_inv_run.proofs.Common.{same_client, turned_test, KeptRecord, Written, names_value, IsTied, Machine, ReplicaDurable, execute}
use Rattle.cx_inv_run.proofs.Common.{execute_all, execute_noted, execute_value, machine_from, new_machine, replica_rules, values_in}
use Rattle.cx_inv_run.proofs.Common.{durable_of, same_role-true}
use Rattle.cx_base.specs.declared.role.Kind.TheVariants as kind
use Rattle.cx_base.specs.Fold.{longer, map_appended, with_text, without_key}
use Rattle.cx_letter.specs.declared.input.Written.TheVariants as written
use Rattle.cx_letter.specs.declared.kept.Record.TheVariants as kept
use Rattle.cx_model.specs.Names.{names_command}
use Rattle.cx_model.specs.Ordered.{machine_ordered, answer_ordered, told_ordered}
use Rattle.cx_model.specs.Renewed.{IsOrdered, IsRenewable, is_near, fits_told}
use Rattle.cx_model.specs.Replica.{is_renewal_whole, key_before}
use Rattle.cx_inv_run.specs.States.{log_in}
use Rattle.cx_inv_open.specs.Fits.{AllFit, FitsAs, has_fitting_floors}

-- THE ORDER OF KEYS

less_on : (a b c : List ℕ) → is_less a b ≡ true → is_less b c ≡ true → is_less a c ≡ true
less_on [] [] c h k = cc
less_on [] (y ∷ ys) [] h k = cc
less_on [] (y ∷ ys) (z ∷ zs) h k = refl
less_on (x ∷ xs) [] c h k = cc
less_on (x ∷ xs) (y ∷ ys) [] h k = cc
less_on (x ∷ xs) (y ∷ ys) (z ∷ zs) h k = grind (arith, nat_tests, less_on xs ys zs)

-- of two keys that differ, one comes before the other
less_other : (a b : List ℕ) → is_less a b ≡ false → bytes_eq b a ≡ false → is_less b a ≡ true
less_other [] [] h k = cc
less_other [] (y ∷ ys) h k = cc
less_other (x ∷ xs) [] h k = refl
less_other (x ∷ xs) (y ∷ ys) h k = grind (arith, nat_tests, less_other xs ys)

same_key : (a b : List ℕ) → bytes_eq a b ≡ true → a ≡ b
same_key [] [] h = refl
same_key [] (y ∷ ys) h = cc
same_key (x ∷ xs) [] h = cc
same_key (x ∷ xs) (y ∷ ys) h = grind (arith, nat_tests, same_key xs ys)

-- whether a key comes before those of all pairs
abbrev before_all : List ℕ → List Pair → Bool
before_all key map = list_all (λ (q : Pair). is_less key q.key) map

all_before : (a b : List ℕ) (map : List Pair) → is_less a b ≡ true → before_all b map ≡ true → before_all a map ≡ true
all_before a b [] less all = refl
all_before a b (p ∷ map) less all =
    let parts = and_parts (is_less b p.key) (before_all b map) all in
    and_from (is_less a p.key) (before_all a map) (less_on a b p.key less parts.0) (all_before a b map less parts.1)

text_before : (first key text : List ℕ) (map : List Pair) → is_less first key ≡ true → before_all first map ≡ true
    → before_all first (with_text key text map) ≡ true
text_before first key text [] less all = and_from (is_less first key) true less refl
text_before first key text (p ∷ map) less all =
    let parts = and_parts (is_less first p.key) (before_all first map) all in
    go (cases_Bool (bytes_eq p.key key)) (cases_Bool (is_less key p.key)) parts.0 parts.1 (text_before first key text map less parts.1)
  where
    go : (bytes_eq p.key key ≡ true) ⊎ (bytes_eq p.key key ≡ false) → (is_less key p.key ≡ true) ⊎ (is_less key p.key ≡ false)
        → is_less first p.key ≡ true → before_all first map ≡ true → before_all first (with_text key text map) ≡ true
        → before_all first (with_text key text (p ∷ map)) ≡ true
    go (inl e) f one rest more = rw e (and_from (is_less first key) (before_all first map) less rest)
    go (inr e) (inl f) one rest more = rw (e, f) (and_from (is_less first key) (before_all first (p ∷ map)) less all)
    go (inr e) (inr f) one rest more = rw (e, f) (and_from (is_less first p.key) (before_all first (with_text key text map)) one more)

text_rises : (key text : List ℕ) (map : List Pair) → rises key_before map ≡ true → rises key_before (with_text key text map) ≡ true
text_rises key text [] rising = refl
text_rises key text (p ∷ map) rising =
    let parts = and_parts (before_all p.key map) (rises key_before map) rising in
    go (cases_Bool (bytes_eq p.key key)) (cases_Bool (is_less key p.key)) parts.0 parts.1 (text_rises key text map parts.1)
  where
    go : (bytes_eq p.key key ≡ true) ⊎ (bytes_eq p.key key ≡ false) → (is_less key p.key ≡ true) ⊎ (is_less key p.key ≡ false)
        → before_all p.key map ≡ true → rises key_before map ≡ true → rises key_before (with_text key text map) ≡ true
        → rises key_before (with_text key text (p ∷ map)) ≡ true
    go (inl e) f all rest more =
        rw e (and_from (before_all key map) (rises key_before map) (subst (λ k. before_all k map ≡ true) (same_key p.key key e) all) rest)
    go (inr e) (inl f) all rest more = rw (e, f) (and_from (before_all key (p ∷ map)) (rises key_before (p ∷ map))
        (and_from (is_less key p.key) (before_all key map) f (all_before key p.key map f all)) rising)
    go (inr e) (inr f) all rest more = rw (e, f) (and_from (before_all p.key (with_text key text map))
        (rises key_before (with_text key text map)) (text_before p.key key text map (less_other key p.key f e) all) more)

key_before_less : (first key : List ℕ) (map : List Pair) → before_all first map ≡ true → before_all first (without_key key map) ≡ true
key_before_less first key [] all = refl
key_before_less first key (p ∷ map) all =
    let parts = and_parts (is_less first p.key) (before_all first map) all in
    go (cases_Bool (bytes_eq p.key key)) parts.0 parts.1 (key_before_less first key map parts.1)
  where
    go : (bytes_eq p.key key ≡ true) ⊎ (bytes_eq p.key key ≡ false) → is_less first p.key ≡ true → before_all first map ≡ true
        → before_all first (without_key key map) ≡ true → before_all first (without_key key (p ∷ map)) ≡ true
    go (inl e) one rest more = rw e rest
    go (inr e) one rest more = rw e (and_from (is_less first p.key) (before_all first (without_key key map)) one more)

key_rises : (key : List ℕ) (map : List Pair) → rises key_before map ≡ true → rises key_before (without_key key map) ≡ true
key_rises key [] rising = refl
key_rises key (p ∷ map) rising =
    let parts = and_parts (before_all p.key map) (rises key_before map) rising in
    go (cases_Bool (bytes_eq p.key key)) parts.0 parts.1 (key_rises key map parts.1)
  where
    go : (bytes_eq p.key key ≡ true) ⊎ (bytes_eq p.key key ≡ false) → before_all p.key map ≡ true → rises key_before map ≡ true
        → rises key_before (without_key key map) ≡ true → rises key_before (without_key key (p ∷ map)) ≡ true
    go (inl e) all rest more = rw e rest
    go (inr e) all rest more = rw e (and_from (before_all p.key (without_key key map)) (rises key_before (without_key key map))
        (key_before_less p.key key map all) more)

map_rises : (map : List Pair) (op : Op) → rises key_before map ≡ true → rises key_before (map_after map op) ≡ true
map_rises map (Put key text) rising = text_rises key text map rising
map_rises map (Del key) rising = key_rises key map rising
map_rises map (App key text) rising = appended (text_at key map)
  where
    appended : (o : Option (List ℕ)) → rises key_before (map_appended map key text o) ≡ true
    appended None = text_rises key text map rising
    appended (Some old) = text_rises key (longer old text) map rising

-- FLOORS AND NOTES

-- the greater one of a client's floor and another
abbrev raised : Option ℕ → ℕ → ℕ
raised None told = told
raised (Some floor) told = max floor told

floor_told : (client floor n : ℕ) (floors : List Floor) → are_rising n floors ≡ true → (k : ℕ)
    → floor_of k (with_floor client floor floors) ≡ (if client == k then Some (raised (floor_of k floors) floor) else floor_of k floors)
floor_told client floor n [] r k = refl
floor_told client floor n (f ∷ floors) r k = go (cases_Bool (f.client == client)) (cases_Bool (nat_lt client f.client))
    (cases_Bool (client == k)) (cases_Bool (f.client == k)) (floor_told client floor (f.client + 1) floors rest k)
  where
    rest : are_rising (f.client + 1) floors ≡ true
    rest = (and_parts (nat_le n f.client) (are_rising (f.client + 1) floors) r).1

    go : ((f.client == client) ≡ true) ⊎ ((f.client == client) ≡ false)
        → (nat_lt client f.client ≡ true) ⊎ (nat_lt client f.client ≡ false)
        → ((client == k) ≡ true) ⊎ ((client == k) ≡ false) → ((f.client == k) ≡ true) ⊎ ((f.client == k) ≡ false)
        → floor_of k (with_floor client floor floors) ≡ (if client == k then Some (raised (floor_of k floors) floor) else floor_of k floors)
        → floor_of k (with_floor client floor (f ∷ floors))
        ≡ (if client == k then Some (raised (floor_of k (f ∷ floors)) floor) else floor_of k (f ∷ floors))
    go (inl s) b (inl t) u h = rw (s, t, same_client k f.client client true (eqb-true f.client client s) t) refl
    go (inl s) b (inr t) u h = rw (s, t, same_client k f.client client false (eqb-true f.client client s) t) refl
    go (inr s) (inl b) (inl t) u h =
        let none : floor_of k (f ∷ floors) ≡ None =
        subst (λ (x : ℕ). floor_of x (f ∷ floors) ≡ None) (eqb-true client k t) (none_placed client f floors s b rest) in
        rw (s, b, none, t) refl
    go (inr s) (inl b) (inr t) u h = rw (s, b, t) refl
    go (inr s) (inr b) (inl t) (inl u) h =
        absurd (both_ways (f.client == client) s (same_client client f.client k true (eqb-true f.client k u) (turned_test k client ∙ t)))
    go (inr s) (inr b) (inr t) (inl u) h = rw (s, b, t, u) refl
    go (inr s) (inr b) t (inr u) h = rw (s, b, u) h

abbrev all_near : List Floor → List Answered → Bool
all_near floors notes = list_all (λ (a : Answered). is_near floors a) notes

-- whether a note will be near once its client has told a floor
abbrev may_near : ℕ → ℕ → List Floor → Answered → Bool
may_near client floor floors a =
    if client == a.client then not (is_done a.seq (floor_of a.client floors)) && nat_le a.seq (raised (floor_of a.client floors) floor + 64)
    else is_near floors a

near_may : (client floor : ℕ) (floors : List Floor) (a : Answered) → is_near floors a ≡ true → may_near client floor floors a ≡ true
near_may client floor floors a h = go (cases_Bool (client == a.client)) (floor_of a.client floors) h
  where
    free : (o : Option ℕ) → fits_told a.seq o ≡ true → (not (is_done a.seq o) && nat_le a.seq (raised o floor + 64)) ≡ true
    free None h = absurd (true≢false (sym h))
    free (Some old) h = grind (arith, nat_tests, h)

    go : ((client == a.client) ≡ true) ⊎ ((client == a.client) ≡ false) → (o : Option ℕ) → fits_told a.seq o ≡ true
        → (if client == a.client then not (is_done a.seq o) && nat_le a.seq (raised o floor + 64) else fits_told a.seq o) ≡ true
    go (inl t) o h = rw t (free o h)
    go (inr t) o h = rw t h

all_may : (client floor : ℕ) (floors : List Floor) (notes : List Answered) → all_near floors notes ≡ true
    → list_all (may_near client floor floors) notes ≡ true
all_may client floor floors [] all = refl
all_may client floor floors (a ∷ notes) all =
    let parts = and_parts (is_near floors a) (all_near floors notes) all in
    and_from (may_near client floor floors a) (list_all (may_near client floor floors) notes) (near_may client floor floors a parts.0)
    (all_may client floor floors notes parts.1)

-- those that stay are near their clients' floors
near_told : (client floor : ℕ) (floors : List Floor) (notes : List Answered) → are_rising 0 floors ≡ true
    → list_all (may_near client floor floors) notes ≡ true
    → all_near (with_floor client floor floors) (still_noted client floor notes) ≡ true
near_told client floor floors [] rising all = refl
near_told client floor floors (a ∷ notes) rising all =
    let parts = and_parts (may_near client floor floors a) (list_all (may_near client floor floors) notes) all in
    go (cases_Bool (client == a.client)) (cases_Bool (nat_le a.seq floor)) (floor_told client floor 0 floors rising a.client) parts.0
    (near_told client floor floors notes rising parts.1)
  where
    nearer : (o : Option ℕ) → (not (is_done a.seq o) && nat_le a.seq (raised o floor + 64)) ≡ true → nat_le a.seq floor ≡ false
        → fits_told a.seq (Some (raised o floor)) ≡ true
    nearer None free v = grind (arith, nat_tests, free, v)
    nearer (Some f) free v = grind (arith, nat_tests, free, v)

    go : ((client == a.client) ≡ true) ⊎ ((client == a.client) ≡ false)
        → (nat_le a.seq floor ≡ true) ⊎ (nat_le a.seq floor ≡ false) → floor_of a.client (with_floor client floor floors)
        ≡ (if client == a.client then Some (raised (floor_of a.client floors) floor) else floor_of a.client floors)
        → may_near client floor floors a ≡ true
        → all_near (with_floor client floor floors) (still_noted client floor notes) ≡ true
        → all_near (with_floor client floor floors) (still_noted client floor (a ∷ notes)) ≡ true
    go (inl t) (inl v) is one rest = (let turned : (a.client == client) ≡ true = turned_test a.client client ∙ t in rw (turned, v) rest)
    go (inl t) (inr v) is one rest =
        let turned : (a.client == client) ≡ true = turned_test a.client client ∙ t in
        let floor_is : floor_of a.client (with_floor client floor floors) ≡ Some (raised (floor_of a.client floors) floor) = rw t at is in
        let free : (not (is_done a.seq (floor_of a.client floors)) && nat_le a.seq (raised (floor_of a.client floors) floor + 64)) ≡ true =
        rw t at one in
        rw (turned, v)
        (and_from (is_near (with_floor client floor floors) a) _ (rw floor_is (nearer (floor_of a.client floors) free v)) rest)
    go (inr t) v is one rest =
        let turned : (a.client == client) ≡ false = turned_test a.client client ∙ t in
        let floor_is : floor_of a.client (with_floor client floor floors) ≡ floor_of a.client floors = rw t at is in
        let near : is_near floors a ≡ true = rw t at one in
        rw turned (and_from (is_near (with_floor client floor floors) a) _ (rw floor_is near) rest)

all_with : (p : Answered → Bool) (a : Answered) (notes : List Answered) → p a ≡ true → list_all p notes ≡ true
    → list_all p (with_note a notes) ≡ true
all_with p a [] one all = and_from (p a) true one refl
all_with p a (b ∷ notes) one all =
    let parts = and_parts (p b) (list_all p notes) all in
    go (cases_Bool (comes_before a b)) (all_with p a notes one parts.1) parts.0
  where
    go : (comes_before a b ≡ true) ⊎ (comes_before a b ≡ false) → list_all p (with_note a notes) ≡ true → p b ≡ true
        → list_all p (with_note a (b ∷ notes)) ≡ true
    go (inl h) rest first = rw h (and_from (p a) (list_all p (b ∷ notes)) one all)
    go (inr h) rest first = rw h (and_from (p b) (list_all p (with_note a notes)) first rest)

module _ (c : Cluster) where
  abbrev are_named : List Floor → Bool
  are_named floors = list_all (λ (f : Floor). nat_lt f.client c.clients) floors

  floor_named : (client floor : ℕ) (floors : List Floor) → nat_lt client c.clients ≡ true → are_named floors ≡ true
      → are_named (with_floor client floor floors) ≡ true
  floor_named client floor [] own all = and_from (nat_lt client c.clients) true own refl
  floor_named client floor (f ∷ floors) own all =
      let parts = and_parts (nat_lt f.client c.clients) (are_named floors) all in
      go (cases_Bool (f.client == client)) (cases_Bool (nat_lt client f.client)) parts.0 parts.1
      (floor_named client floor floors own parts.1)
    where
      go : ((f.client == client) ≡ true) ⊎ ((f.client == client) ≡ false)
          → (nat_lt client f.client ≡ true) ⊎ (nat_lt client f.client ≡ false)
          → nat_lt f.client c.clients ≡ true → are_named floors ≡ true → are_named (with_floor client floor floors) ≡ true
          → are_named (with_floor client floor (f ∷ floors)) ≡ true
      go (inl s) b one rest more = rw s (and_from (nat_lt client c.clients) (are_named floors) own rest)
      go (inr s) (inl b) one rest more = rw (s, b) (and_from (nat_lt client c.clients) (are_named (f ∷ floors)) own all)
      go (inr s) (inr b) one rest more =
          rw (s, b) (and_from (nat_lt f.client c.clients) (are_named (with_floor client floor floors)) one more)

  record IsSound (m : Machine) : Type 0 where
    keys : rises key_before m.map ≡ true
    near : all_near m.table.floors m.table.notes ≡ true
    clients : are_named m.table.floors ≡ true
    ordered : IsOrdered m.table

  -- a command that names a client, and tells a floor that fits its number
  abbrev is_good : Command → Bool
  is_good k = names_command c k && floor_fits k.seq k.floor

  told_sound : (m : Machine) (k : Command) → is_good k ≡ true → IsSound m
      → IsSound (record m { table = with_told k.client k.floor m.table })
  told_sound m k good h = record {
    keys = h.keys;
    near = near_told k.client k.floor m.table.floors m.table.notes h.ordered.floors_rise
        (all_may k.client k.floor m.table.floors m.table.notes h.near);
    clients = floor_named k.client k.floor m.table.floors (and_parts (names_command c k) (floor_fits k.seq k.floor) good).0 h.clients;
    ordered = told_ordered k.client k.floor m.table h.ordered;
  }

  new_near : (k : Command) (o : Option ℕ) → floor_fits k.seq k.floor ≡ true → is_done k.seq o ≡ false
      → (not (is_done k.seq o) && nat_le k.seq (raised o k.floor + 64)) ≡ true
  new_near k None fits new = grind (arith, nat_tests, fits)
  new_near k (Some old) fits new = grind (arith, nat_tests, fits, new)

  execute_sound : (at : ℕ) (m : Machine) (k : Command) → is_good k ≡ true → IsSound m → IsSound (execute at m k).machine
  execute_sound at m k good h = go (is_done k.seq (floor_of k.client m.table.floors)) refl
    where
      fits : floor_fits k.seq k.floor ≡ true
      fits = (and_parts (names_command c k) (floor_fits k.seq k.floor) good).1

      noted : is_done k.seq (floor_of k.client m.table.floors) ≡ false → (o : Option Answered) → noted_for k.client k.seq m.table.notes ≡ o
          → IsSound (execute_noted at m k o).machine
      noted new (Some a) is = told_sound m k good h
      noted new None none = record {
        keys = map_rises m.map k.op h.keys;
        near =
            let own : (k.client == k.client) ≡ true = grind (arith, nat_tests) in
            near_told k.client k.floor m.table.floors (with_note _ m.table.notes) h.ordered.floors_rise (all_with (may_near k.client k.floor
            m.table.floors) _ m.table.notes (rw own (new_near k (floor_of k.client m.table.floors) fits new))
            (all_may k.client k.floor m.table.floors m.table.notes h.near));
        clients = floor_named k.client k.floor m.table.floors (and_parts (names_command c k) (floor_fits k.seq k.floor) good).0 h.clients;
        ordered = answer_ordered _ k.floor m.table new none h.ordered;
      }

      go : (b : Bool) → is_done k.seq (floor_of k.client m.table.floors) ≡ b → IsSound (execute at m k).machine
      go true is = rw is (told_sound m k good h)
      go false is = rw is (noted is (noted_for k.client k.seq m.table.notes) refl)

  abbrev are_good : List Command → Bool
  are_good ks = list_all (λ (k : Command). is_good k) ks

  all_sound : (at : ℕ) (m : Machine) (ks : List Command) → are_good ks ≡ true → IsSound m → IsSound (execute_all at m ks).machine
  all_sound at m [] good h = h
  all_sound at m (k ∷ ks) good h =
      let parts = and_parts (is_good k) (are_good ks) good in
      all_sound at (execute at m k).machine ks parts.1 (execute_sound at m k parts.0 h)

  -- named and told, command by command
  both_good : (ks : List Command) → list_all (λ (k : Command). names_command c k) ks ≡ true
      → list_all (λ (k : Command). floor_fits k.seq k.floor) ks ≡ true → are_good ks ≡ true
  both_good [] named told = refl
  both_good (k ∷ ks) named told =
      let n = and_parts (names_command c k) (list_all (λ (x : Command). names_command c x) ks) named in
      let t = and_parts (floor_fits k.seq k.floor) (list_all (λ (x : Command). floor_fits x.seq x.floor) ks) told in
      and_from (is_good k) (are_good ks) (and_from (names_command c k) (floor_fits k.seq k.floor) n.0 t.0) (both_good ks n.1 t.1)

  abbrev all_named : List Value → Bool
  all_named values = list_all (λ (v : Value). names_value c v) values

  machine_sound : (slot : ℕ) (m : Machine) (values : List Value) → all_named values ≡ true → has_fitting_floors values ≡ true → IsSound m
      → IsSound (machine_from slot m values)
  machine_sound slot m [] named told h = h
  machine_sound slot m (v ∷ values) named told h =
      let n = and_parts (names_value c v) (all_named values) named in
      let t = and_parts (list_all (λ (k : Command). floor_fits k.seq k.floor) (commands_of v)) (has_fitting_floors values) told in
      machine_sound (slot + 1) (execute_value slot m v).machine values n.1 t.1
      (all_sound (slot + 1) m (commands_of v) (both_good (commands_of v) n.0 t.0) h)

  drop_named : (n : ℕ) (values : List Value) → all_named values ≡ true → all_named (drop n values) ≡ true
  drop_named n values named =
      (and_parts (all_named (take n values)) (all_named (drop n values)) (sym (list_all-append (λ (v : Value). names_value c v)
      (take n values) (drop n values)) ∙ ap all_named (take-append-drop n values) ∙ named)).1

pub tied_ordered : (d : ReplicaDurable) (values : List Value) → IsTied d values → IsOrdered d.machine.table
tied_ordered d values tied = subst (λ (m : Machine). IsOrdered m.table) (sym tied.machine) (machine_ordered values)

-- a durable part that is tied to such values has what a renewed list asks for
pub renewable : (c : Cluster) (d : ReplicaDurable) (values : List Value) → IsTied d values → all_named c values ≡ true
    → has_fitting_floors values ≡ true → IsRenewable c d
renewable c d values tied named told =
    let fresh : IsSound c new_machine =
    record { keys = refl; near = refl; clients = refl; ordered = record { floors_rise = refl; notes_rise = refl; above = refl } } in
    let sound : IsSound c d.machine =
    subst (λ (m : Machine). IsSound c m) (sym tied.machine) (machine_sound c 0 new_machine values named told fresh) in
    record {
      keys = sound.keys;
      near = sound.near;
      clients = sound.clients;
      values = subst (λ (l : List Value). all_named c l ≡ true) (sym tied.log) (drop_named c d.first values named);
    }

-- the values that replicas kept name clients of the cluster

written_named : (c : Cluster) (me : RoleId) (w : Written) (history : List KeptRecord) → FitsAs c me w history kind.Replica
    → all_named c (values_in w) ≡ true
written_named c me (written.Record (kept.Log vs)) history h = (and_parts (is_renewal_whole (durable_of replica_rules me history))
    (all_named c vs) (and_parts (is_renewal_whole (durable_of replica_rules me history) && all_named c vs) _ h.0).0).1
written_named c me other history h = refl

more_named : (c : Cluster) (vs ws : List Value) → all_named c vs ≡ true → all_named c ws ≡ true → all_named c (vs ++ ws) ≡ true
more_named c vs ws p q = list_all-append (λ (v : Value). names_value c v) vs ws ∙ and_from (all_named c vs) (all_named c ws) p q

pub logged_named : (c : Cluster) (history : List KeptRecord) → AllFit c history → (p : ℕ) → all_named c (log_in history p) ≡ true
unfolding log_in
logged_named c [] fit p = refl
logged_named c (k ∷ ks) fit p = go (cases_Bool (same_role (role kind.Replica p) k.role)) (logged_named c ks fit.1 p)
  where
    go : (same_role (role kind.Replica p) k.role ≡ true) ⊎ (same_role (role kind.Replica p) k.role ≡ false) → all_named c (log_in ks p)
        ≡ true → all_named c (if same_role (role kind.Replica p) k.role then log_in ks p ++ values_in k.what else log_in ks p) ≡ true
    go (inl t) rest =
        let own : FitsAs c (role kind.Replica p) k.what ks kind.Replica =
        subst (λ (a : RoleId). FitsAs c a k.what ks a.kind) (sym (same_role-true (role kind.Replica p) k.role t)) fit.0 in
        rw t (more_named c (log_in ks p) (values_in k.what) rest (written_named c (role kind.Replica p) k.what ks own))
    go (inr f) rest = rw f rest
