-- Where a client isn't done with a number, no command that was executed made it so: floors only grow.
use Rattle.cx_inv_run.proofs.Common.{◌≡◌, ◌⊎◌, ℕ, Bool, true, false, List, [], ◌∷◌, ap, sym, ◌∙◌, subst, refl, inl, inr, arith, and_from}
use Rattle.cx_inv_run.proofs.Common.{and_parts, both_ways, cases_Bool, eqb-true, nat_tests, list_all, ◌+◌, ◌==◌, ◌&&◌, ◌||◌, not, max}
use Rattle.cx_inv_run.proofs.Common.{nat_le, nat_lt, None, none_placed, same_client, turned_test, Command, Floor, Value, commands_of}
use Rattle.cx_inv_run.proofs.Common.{are_rising, floor_of, is_done, with_floor, Machine, execute, execute_all, execute_value, machine_from}
use Rattle.cx_base.proofs.Used.{or_false, still_rising}
use Rattle.cx_inv_alive.proofs.Floors.{floors_told}
use Rattle.cx_inv_alive.specs.Alive.{tells_less, tell_less}

done_with : (client floor n : ℕ) (floors : List Floor) → are_rising n floors ≡ true → (k m : ℕ)
    → is_done m (floor_of k (with_floor client floor floors)) ≡ (is_done m (floor_of k floors) || (client == k && nat_le m floor))
done_with client floor n [] r k m = go (cases_Bool (client == k))
  where
    go : ((client == k) ≡ true) ⊎ ((client == k) ≡ false)
        → is_done m (floor_of k (with_floor client floor [])) ≡ (client == k && nat_le m floor)
    go (inl e) = rw e refl
    go (inr e) = rw e refl
done_with client floor n (f ∷ floors) r k m = go (cases_Bool (f.client == client)) (cases_Bool (nat_lt client f.client))
    (cases_Bool (client == k)) (cases_Bool (f.client == k)) (done_with client floor (f.client + 1) floors rest k m)
  where
    rest : are_rising (f.client + 1) floors ≡ true
    rest = (and_parts (nat_le n f.client) (are_rising (f.client + 1) floors) r).1

    greater : nat_le m (max f.floor floor) ≡ (nat_le m f.floor || nat_le m floor)
    greater = grind (arith, nat_tests)

    go : ((f.client == client) ≡ true) ⊎ ((f.client == client) ≡ false) → (nat_lt client f.client ≡ true) ⊎ (nat_lt client f.client ≡ false)
        → ((client == k) ≡ true) ⊎ ((client == k) ≡ false) → ((f.client == k) ≡ true) ⊎ ((f.client == k) ≡ false)
        → is_done m (floor_of k (with_floor client floor floors)) ≡ (is_done m (floor_of k floors) || (client == k && nat_le m floor))
        → is_done m (floor_of k (with_floor client floor (f ∷ floors)))
        ≡ (is_done m (floor_of k (f ∷ floors)) || (client == k && nat_le m floor))
    go (inl s) b (inl t) u h = rw (s, t, same_client k f.client client true (eqb-true f.client client s) t) greater
    go (inl s) b (inr t) u h =
        rw (s, t, same_client k f.client client false (eqb-true f.client client s) t) (sym (or_false (is_done m (floor_of k floors))))
    go (inr s) (inl b) (inl t) u h =
        let none : floor_of k (f ∷ floors) ≡ None =
        subst (λ (x : ℕ). floor_of x (f ∷ floors) ≡ None) (eqb-true client k t) (none_placed client f floors s b rest) in
        rw (s, b, none, t) refl
    go (inr s) (inl b) (inr t) u h = rw (s, b, t) (sym (or_false (is_done m (floor_of k (f ∷ floors)))))
    go (inr s) (inr b) (inl t) (inl u) h =
        absurd (both_ways (f.client == client) s (same_client client f.client k true (eqb-true f.client k u) (turned_test k client ∙ t)))
    go (inr s) (inr b) (inr t) (inl u) h = rw (s, b, t, u) (sym (or_false (nat_le m f.floor)))
    go (inr s) (inr b) t (inr u) h = rw (s, b, u) h

or_both : (a b : Bool) → (a || b) ≡ false → (a ≡ false) × (b ≡ false)
or_both true b e = cc
or_both false b e = (refl, e)

least : (n : ℕ) → nat_le 0 n ≡ true
least n = grind (arith, nat_tests)

tells : (k seq : ℕ) (x : Command) → (x.client == k && nat_le seq x.floor) ≡ false → tells_less k seq x ≡ true
tells k seq x = go (x.client == k)
  where
    under : (a b : ℕ) → nat_le a b ≡ false → nat_lt b a ≡ true
    under a b h = grind (arith, nat_tests, h)

    go : (b : Bool) → (b && nat_le seq x.floor) ≡ false → (not b || nat_lt x.floor seq) ≡ true
    go true h = under seq x.floor h
    go false h = refl

rises_on : (at : ℕ) (m : Machine) (x : Command) → are_rising 0 m.table.floors ≡ true
    → are_rising 0 (execute at m x).machine.table.floors ≡ true
rises_on at m x rising =
    subst (λ l. are_rising 0 l ≡ true) (sym (floors_told at m x)) (still_rising x.client x.floor 0 m.table.floors rising (least x.client))

back_one : (k seq at : ℕ) (m : Machine) (x : Command) → are_rising 0 m.table.floors ≡ true
    → is_done seq (floor_of k (execute at m x).machine.table.floors) ≡ false
    → (is_done seq (floor_of k m.table.floors) ≡ false) × (tells_less k seq x ≡ true)
back_one k seq at m x rising free =
    let parts = or_both (is_done seq (floor_of k m.table.floors)) (x.client == k && nat_le seq x.floor)
    (sym (ap (λ l. is_done seq (floor_of k l)) (floors_told at m x) ∙ done_with x.client x.floor 0 m.table.floors rising k seq) ∙ free) in
    (parts.0, tells k seq x parts.1)

rises_all : (at : ℕ) (m : Machine) (xs : List Command) → are_rising 0 m.table.floors ≡ true
    → are_rising 0 (execute_all at m xs).machine.table.floors ≡ true
rises_all at m [] rising = rising
rises_all at m (x ∷ xs) rising = rises_all at (execute at m x).machine xs (rises_on at m x rising)

back_all : (k seq at : ℕ) (m : Machine) (xs : List Command) → are_rising 0 m.table.floors ≡ true
    → is_done seq (floor_of k (execute_all at m xs).machine.table.floors) ≡ false
    → (is_done seq (floor_of k m.table.floors) ≡ false) × (list_all (tells_less k seq) xs ≡ true)
back_all k seq at m [] rising free = (free, refl)
back_all k seq at m (x ∷ xs) rising free =
    let rest = back_all k seq at (execute at m x).machine xs (rises_on at m x rising) free in
    let one = back_one k seq at m x rising rest.0 in
    (one.0, and_from (tells_less k seq x) (list_all (tells_less k seq) xs) one.1 rest.1)

pub back_from : (k seq slot : ℕ) (m : Machine) (vs : List Value) → are_rising 0 m.table.floors ≡ true
    → is_done seq (floor_of k (machine_from slot m vs).table.floors) ≡ false
    → (is_done seq (floor_of k m.table.floors) ≡ false) × (list_all (tell_less k seq) vs ≡ true)
back_from k seq slot m [] rising free = (free, refl)
back_from k seq slot m (v ∷ vs) rising free =
    let rest = back_from k seq (slot + 1) (execute_value slot m v).machine vs (rises_all (slot + 1) m (commands_of v) rising) free in
    let one = back_all k seq (slot + 1) m (commands_of v) rising rest.0 in
    (one.0, and_from (tell_less k seq v) (list_all (tell_less k seq) vs) one.1 rest.1)
