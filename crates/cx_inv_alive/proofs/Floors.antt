-- A client that told no floor from a number on isn't done with it, whatever is executed of such commands.
use Rattle.cx_inv_run.proofs.Common.{◌≡◌, ◌⊎◌, ℕ, true, false, List, [], ◌∷◌, Option, None, Some, sym, subst, refl, inl, inr, arith}
use Rattle.cx_inv_run.proofs.Common.{and_parts, nat_tests, list_all, ◌+◌, ◌==◌, ◌||◌, not, max, nat_lt, nat_le, if◌then◌else◌, Answered}
use Rattle.cx_inv_run.proofs.Common.{Command, Floor, Value, commands_of, floor_of, is_done, noted_for, with_floor, bool_cases, Machine}
use Rattle.cx_inv_run.proofs.Common.{execute, execute_all, execute_value, machine_from}
use Rattle.cx_inv_alive.specs.Alive.{tells_less, tell_less}

free_with : (k seq client floor : ℕ) (floors : List Floor) → is_done seq (floor_of k floors) ≡ false
    → (not (client == k) || nat_lt floor seq) ≡ true → is_done seq (floor_of k (with_floor client floor floors)) ≡ false
free_with k seq client floor [] is less = go (bool_cases (client == k))
  where
    go : ((client == k) ≡ true) ⊎ ((client == k) ≡ false) → is_done seq (if client == k then Some floor else None) ≡ false
    go (inl t) = (let low : nat_lt floor seq ≡ true = rw t at less in rw t (up low))
      where
        up : nat_lt floor seq ≡ true → nat_le seq floor ≡ false
        up h = grind (arith, nat_tests, h)
    go (inr f) = rw f refl
free_with k seq client floor (f ∷ floors) is less = go (bool_cases (f.client == client)) (bool_cases (nat_lt client f.client))
    (bool_cases (client == k)) (bool_cases (f.client == k)) (free_with k seq client floor floors)
  where
    same : (f.client == client) ≡ true → (client == k) ≡ true → (f.client == k) ≡ true
    same h l = grind (arith, nat_tests, h, l)

    other : (f.client == client) ≡ true → (client == k) ≡ false → (f.client == k) ≡ false
    other h l = grind (arith, nat_tests, h, l)

    both : nat_le seq f.floor ≡ false → nat_lt floor seq ≡ true → nat_le seq (max f.floor floor) ≡ false
    both h l = grind (arith, nat_tests, h, l)

    up : nat_lt floor seq ≡ true → nat_le seq floor ≡ false
    up h = grind (arith, nat_tests, h)

    go : ((f.client == client) ≡ true) ⊎ ((f.client == client) ≡ false)
        → (nat_lt client f.client ≡ true) ⊎ (nat_lt client f.client ≡ false)
        → ((client == k) ≡ true) ⊎ ((client == k) ≡ false)
        → ((f.client == k) ≡ true) ⊎ ((f.client == k) ≡ false) → (is_done seq (floor_of k floors) ≡ false
        → (not (client == k) || nat_lt floor seq) ≡ true → is_done seq (floor_of k (with_floor client floor floors)) ≡ false)
        → is_done seq (floor_of k (with_floor client floor (f ∷ floors))) ≡ false
    go (inl s) b (inl t) u rest =
        let own : nat_le seq f.floor ≡ false = rw (same s t) at is in
        let low : nat_lt floor seq ≡ true = rw t at less in
        rw (s, t) (both own low)
    go (inl s) b (inr t) u rest = (let own : is_done seq (floor_of k floors) ≡ false = rw (other s t) at is in rw (s, t) own)
    go (inr s) (inl b) (inl t) u rest = (let low : nat_lt floor seq ≡ true = rw t at less in rw (s, b, t) (up low))
    go (inr s) (inl b) (inr t) u rest = rw (s, b, t) is
    go (inr s) (inr b) t (inl u) rest = (let own : nat_le seq f.floor ≡ false = rw u at is in rw (s, b, u) own)
    go (inr s) (inr b) t (inr u) rest = (let own : is_done seq (floor_of k floors) ≡ false = rw u at is in rw (s, b, u) (rest own less))

pub floors_told : (at : ℕ) (m : Machine) (x : Command) → (execute at m x).machine.table.floors ≡ with_floor x.client x.floor m.table.floors
floors_told at m x = go (bool_cases (is_done x.seq (floor_of x.client m.table.floors))) (noted_for x.client x.seq m.table.notes) refl
  where
    go : (is_done x.seq (floor_of x.client m.table.floors) ≡ true) ⊎ (is_done x.seq (floor_of x.client m.table.floors) ≡ false)
        → (o : Option Answered) → noted_for x.client x.seq m.table.notes ≡ o
        → (execute at m x).machine.table.floors ≡ with_floor x.client x.floor m.table.floors
    go (inl t) o e = rw t refl
    go (inr f) None e = rw (f, e) refl
    go (inr f) (Some a) e = rw (f, e) refl

free_one : (k seq at : ℕ) (m : Machine) (x : Command) → is_done seq (floor_of k m.table.floors) ≡ false → tells_less k seq x ≡ true
    → is_done seq (floor_of k (execute at m x).machine.table.floors) ≡ false
free_one k seq at m x free less =
    subst (λ l. is_done seq (floor_of k l) ≡ false) (sym (floors_told at m x)) (free_with k seq x.client x.floor m.table.floors free less)

free_all : (k seq at : ℕ) (m : Machine) (xs : List Command) → is_done seq (floor_of k m.table.floors) ≡ false
    → list_all (tells_less k seq) xs ≡ true → is_done seq (floor_of k (execute_all at m xs).machine.table.floors) ≡ false
free_all k seq at m [] free less = free
free_all k seq at m (x ∷ xs) free less =
    let parts = and_parts (tells_less k seq x) (list_all (tells_less k seq) xs) less in
    free_all k seq at (execute at m x).machine xs (free_one k seq at m x free parts.0) parts.1

pub free_from : (k seq slot : ℕ) (m : Machine) (values : List Value) → is_done seq (floor_of k m.table.floors) ≡ false
    → list_all (tell_less k seq) values ≡ true → is_done seq (floor_of k (machine_from slot m values).table.floors) ≡ false
free_from k seq slot m [] free less = free
free_from k seq slot m (v ∷ values) free less =
    let parts = and_parts (tell_less k seq v) (list_all (tell_less k seq) values) less in
    free_from k seq (slot + 1) (execute_value slot m v).machine values (free_all k seq (slot + 1) m (commands_of v) free parts.0) parts.1
