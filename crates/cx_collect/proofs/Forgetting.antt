-- How many matchmakers were counted.
use Rattle.cx_base.proofs.Common.{◌≡◌, ◌≢◌, ◌+◌, ℕ, Bool, true, false, not, ◌==◌, nat_lt, List, [], ◌∷◌, length, refl, arith, and_parts}
use Rattle.cx_base.proofs.Common.{or_parts, not-true, lt-ltb, le-ltb, nat_tests, is_in}
use Rattle.cx_model.specs.Prelude.{with_mark, is_collecting}
use Rattle.cx_model.specs.declared.states.Stage.TheVariants.{Retired}
use Rattle.cx_collect.specs.Collecting.{CollectorState, IsCount, counts_forgotten, forgotten_by}

swapped : (a b : ℕ) → (b == a) ≡ false → (a == b) ≡ false
swapped a b h = grind (arith, nat_tests)

longer_by : (id m : ℕ) (ms : List ℕ) (less : Bool) → nat_lt id m ≡ less → (m == id) ≡ false → length (with_mark id ms) ≡ length ms + 1
    → length (with_mark id (m ∷ ms)) ≡ length (m ∷ ms) + 1
longer_by id m ms true l new rest = let e = swapped id m new in rw (e, l) (omega arith)
longer_by id m ms false l new rest = let e = swapped id m new in rw (e, l) (omega (arith, rest))

-- one more mark
pub length-with_mark : (id : ℕ) (ms : List ℕ) → is_in id ms ≡ false → length (with_mark id ms) ≡ length ms + 1
length-with_mark id [] new = refl
length-with_mark id (m ∷ ms) new =
    let p = or_parts (m == id) (is_in id ms) new in
    longer_by id m ms _ refl p.0 (length-with_mark id ms p.1)

-- the matchmaker with which f + 1 have forgotten
pub forgotten_enough : (k : CollectorState) (id n : ℕ) → IsCount k.f n k.collection → counts_forgotten id k ≡ true → n ≡ k.f
    → forgotten_by id k ≡ record k { collection = record k.collection { stage = Retired; counted = with_mark id k.collection.counted } }
forgotten_enough k id n is counts same =
    let p = and_parts (is_collecting k.collection.stage) (not (is_in id k.collection.counted)) counts in
    let long = length-with_mark id k.collection.counted (not-true (is_in id k.collection.counted) p.1) in
    let at : length k.collection.counted ≡ n = is.count p.0 in
    let full : nat_lt (length (with_mark id k.collection.counted)) (k.f + 1) ≡ false = le-ltb _ _ (omega arith) in
    rw (counts, full) refl

-- one before it
pub forgotten_more : (k : CollectorState) (id n : ℕ) → IsCount k.f n k.collection → counts_forgotten id k ≡ true → n ≢ k.f
    → forgotten_by id k ≡ record k { collection = record k.collection { counted = with_mark id k.collection.counted } }
forgotten_more k id n is counts other =
    let p = and_parts (is_collecting k.collection.stage) (not (is_in id k.collection.counted)) counts in
    let long = length-with_mark id k.collection.counted (not-true (is_in id k.collection.counted) p.1) in
    let at : length k.collection.counted ≡ n = is.count p.0 in
    let more : nat_lt (length (with_mark id k.collection.counted)) (k.f + 1) ≡ true = lt-ltb _ _ (omega (arith, is.most p.0)) in
    rw (counts, more) refl

pub one_more : (k : CollectorState) (id n : ℕ) → IsCount k.f n k.collection → counts_forgotten id k ≡ true → n ≢ k.f
    → IsCount k.f (n + 1) (record k.collection { counted = with_mark id k.collection.counted })
one_more k id n is counts other =
    let p = and_parts (is_collecting k.collection.stage) (not (is_in id k.collection.counted)) counts in
    let long = length-with_mark id k.collection.counted (not-true (is_in id k.collection.counted) p.1) in
    record {
      count = λ stage. omega (arith, is.count stage);
      most = λ stage. omega (arith, is.most stage);
    }
