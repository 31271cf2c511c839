-- Pairs that are picked by their places.
use Rattle.std.specs.List.Sorted.{IsPartitionPoint}
use Rattle.std.proofs.lemmas.List.{get_or-map, get_or_push, get_or_append_left, get_or_default, drop-map}
use Rattle.std.proofs.lemmas.Option.{slice_get-get_or}
use Rattle.cx_base.proofs.Common.{◌≡◌, ℕ, zero, suc, ◌+◌, ◌-◌, ◌<◌, ◌≤◌, ◌==◌, inl, inr, true, false, List, [], ◌∷◌, ◌++◌, length, map}
use Rattle.cx_base.proofs.Common.{get_or, take, drop, set, refl, ap, sym, subst, ◌∙◌, arith, slice_get, insert, remove, IsPartitionedBy}
use Rattle.cx_base.proofs.Common.{cases_Bool, eqb-true, eqb-false, length-set, length_push, get_or-set_same, get_or-set_other, length-map}
use Rattle.cx_base.proofs.Common.{map-append, append-nil, take-map, is_less, with_text}
use Rattle.cx_base.specs.declared.command.Pair.{Pair}
use Rattle.cx_kv.specs.Picked.{AreBelow, IsKeyOrder, is_pair_before, pair_at, picked, renamed}
use Rattle.cx_kv.specs.Place.{IsFreeAt, IsHeldAt, IsPlace}
use Rattle.cx_kv.specs.Rising.{IsBeforeAll, IsRising}
use Rattle.cx_kv.proofs.Keys.{is_less-back}
use Rattle.cx_kv.proofs.Maps.{IsBeforeAll-at, IsRising-parted, with_text-free, with_text-held}

abbrev none : Pair
none = record { key = []; text = [] }

pub below_at : (end : ℕ) (order : List ℕ) (j d : ℕ) → AreBelow end order → j < length order → get_or order j d < end
below_at end [] j d all l = absurd (omega arith)
below_at end (i ∷ order) zero d all l = all.0
below_at end (i ∷ order) (suc j) d all l = below_at end order j d all.1 (omega arith)

-- a pair that is picked, by its place in the list
pub picked_at : (list : List Pair) (order : List ℕ) (j d : ℕ) (e : Pair) → j < length order
    → get_or (picked list order) j e ≡ pair_at list (get_or order j d)
picked_at list order j d e l = get_or-map (pair_at list) order j d e l

tested : (list : List Pair) (order : List ℕ) (key : List ℕ) (j d : ℕ) (e : Pair) → AreBelow (length list) order
    → j < length order
    → is_pair_before key (slice_get list (get_or order j d)) ≡ is_less (get_or (picked list order) j e).key key
tested list order key j d e all l =
    ap (is_pair_before key) (slice_get-get_or list (get_or order j d) none (below_at (length list) order j d all l))
    ∙ ap (λ (p : Pair). is_less p.key key) (sym (picked_at list order j d e l))

-- places whose pairs come before a key stand in front
pub order_parted : (list : List Pair) (order : List ℕ) (key : List ℕ) → IsRising (picked list order)
    → AreBelow (length list) order
    → IsPartitionedBy (λ i. is_pair_before key (slice_get list i)) order
order_parted list order key rising all i j d ij l less =
    let long : length (picked list order) ≡ length order = length-map order (pair_at list) in
    tested list order key i d none all (omega arith)
    ∙ IsRising-parted key (picked list order) rising i j none ij (omega arith) (sym (tested list order key j d none all l) ∙ less)

pub order_place : (list : List Pair) (order : List ℕ) (key : List ℕ) (place : ℕ) → AreBelow (length list) order
    → place ≤ length order
    → IsPartitionPoint (λ i. is_pair_before key (slice_get list i) ≡ true)
    (λ i. is_pair_before key (slice_get list i) ≡ false) order place
    → IsPlace key (picked list order) place
order_place list order key place all bound point =
    let long : length (picked list order) ≡ length order = length-map order (pair_at list) in
    record {
      inside = omega arith;
      before = λ k d low high. sym (tested list order key k 0 d all (omega arith)) ∙ point.0 k 0 low high;
      behind = λ k d low high. sym (tested list order key k 0 d all (omega arith)) ∙ point.1 k 0 low (omega arith);
    }

-- a place is none of these
abbrev pub IsElsewhere : ℕ → List ℕ → Type 0
IsElsewhere i [] = Unit {0}
IsElsewhere i (j ∷ order) = (j ≡ i → ⊥) × IsElsewhere i order

never : (key : List ℕ) → is_less key key ≡ true → ⊥
never key less = let back : is_less key key ≡ false = is_less-back key key less in cc

differs : (list : List Pair) (i j : ℕ) → is_less (pair_at list i).key (pair_at list j).key ≡ true → i ≡ j → ⊥
differs list i j less e = never (pair_at list j).key (subst (λ (k : ℕ). is_less (pair_at list k).key (pair_at list j).key ≡ true) e less)

behind_elsewhere : (list : List Pair) (order : List ℕ) (i : ℕ) → IsBeforeAll (pair_at list i).key (picked list order)
    → IsElsewhere i order
behind_elsewhere list [] i before = tt
behind_elsewhere list (j ∷ order) i before = (λ e. differs list i j before.0 (sym e), behind_elsewhere list order i before.1)

-- where keys rise, each place is there once
pub apart : (list : List Pair) (order : List ℕ) (place d : ℕ) → IsRising (picked list order) → place < length order
    → IsElsewhere (get_or order place d) (remove order place)
apart list [] place d rising l = absurd (omega arith)
apart list (i ∷ order) zero d rising l = behind_elsewhere list order i rising.0
apart list (j ∷ order) (suc place) d rising l =
    let long : length (picked list order) ≡ length order = length-map order (pair_at list) in
    let before = IsBeforeAll-at (pair_at list j).key (picked list order) place none rising.0 (omega arith) in
    let less : is_less (pair_at list j).key (pair_at list (get_or order place d)).key ≡ true =
    ap (λ (p : Pair). is_less (pair_at list j).key p.key) (sym (picked_at list order place d none (omega arith))) ∙ before in
    (differs list j (get_or order place d) less, apart list order place d rising.1 (omega arith))

set_elsewhere : (list : List Pair) (i : ℕ) (v : Pair) (order : List ℕ) → IsElsewhere i order
    → picked (set list i v) order ≡ picked list order
set_elsewhere list i v [] all = refl
set_elsewhere list i v (j ∷ order) all =
    rw (get_or-set_other list i j v none all.0) (ap (λ (rest : List Pair). pair_at list j ∷ rest) (set_elsewhere list i v order all.1))

-- another pair at a place that is there once
pub picked_set : (list : List Pair) (order : List ℕ) (place d : ℕ) (v : Pair) → AreBelow (length list) order
    → IsElsewhere (get_or order place d) (remove order place) → place < length order
    → picked (set list (get_or order place d) v) order ≡ set (picked list order) place v
picked_set list [] place d v all other l = absurd (omega arith)
picked_set list (i ∷ order) zero d v all other l =
    rw (get_or-set_same list i v none all.0) (ap (λ (rest : List Pair). v ∷ rest) (set_elsewhere list i v order other))
picked_set list (j ∷ order) (suc place) d v all other l = rw (get_or-set_other list (get_or order place d) j v none other.0)
    (ap (λ (rest : List Pair). pair_at list j ∷ rest) (picked_set list order place d v all.1 other.1 (omega arith)))

-- one pair more
picked_more : (list : List Pair) (v : Pair) (order : List ℕ) → AreBelow (length list) order
    → picked (list ++ v ∷ []) order ≡ picked list order
picked_more list v [] all = refl
picked_more list v (j ∷ order) all =
    rw (get_or_append_left list (v ∷ []) none j all.0) (ap (λ (rest : List Pair). pair_at list j ∷ rest) (picked_more list v order all.1))

pub picked_insert : (list : List Pair) (v : Pair) (order : List ℕ) (place : ℕ) → AreBelow (length list) order
    → picked (list ++ v ∷ []) (insert order place (length list)) ≡ insert (picked list order) place v
picked_insert list v order place all =
    let f = pair_at (list ++ v ∷ []) in
    let same = picked_more list v order all in
    map-append f (take place order) (length list ∷ drop place order)
    ∙ ap (λ (front : List Pair). front ++ f (length list) ∷ map f (drop place order))
    (sym (take-map f place order) ∙ ap (λ (l : List Pair). take place l) same)
    ∙ ap (λ (p : Pair). take place (picked list order) ++ p ∷ map f (drop place order)) (get_or_push list v none (length list) refl)
    ∙ ap (λ (rest : List Pair). take place (picked list order) ++ v ∷ rest)
    (sym (drop-map f place order) ∙ ap (λ (l : List Pair). drop place l) same)

below_more : (end : ℕ) (order : List ℕ) → AreBelow end order → AreBelow (end + 1) order
below_more end [] all = tt
below_more end (i ∷ order) all = (omega (arith, all.0), below_more end order all.1)

pub below_insert : (end : ℕ) (order : List ℕ) (place : ℕ) → AreBelow end order
    → AreBelow (end + 1) (insert order place end)
below_insert end [] zero all = (omega arith, tt)
below_insert end [] (suc place) all = (omega arith, tt)
below_insert end (i ∷ order) zero all = (omega arith, (omega (arith, all.0), below_more end order all.1))
below_insert end (i ∷ order) (suc place) all = (omega (arith, all.0), below_insert end order place all.1)

-- one place less
pub picked_remove : (list : List Pair) (order : List ℕ) (place : ℕ)
    → picked list (remove order place) ≡ remove (picked list order) place
picked_remove list order place =
    let f = pair_at list in
    map-append f (take place order) (drop (suc place) order)
    ∙ ap (λ (front : List Pair). front ++ map f (drop (suc place) order)) (sym (take-map f place order))
    ∙ ap (λ (rest : List Pair). take place (picked list order) ++ rest) (sym (drop-map f (suc place) order))

pub below_remove : (end : ℕ) (order : List ℕ) (place : ℕ) → AreBelow end order → AreBelow end (remove order place)
below_remove end [] zero all = tt
below_remove end [] (suc place) all = tt
below_remove end (i ∷ order) zero all = all.1
below_remove end (i ∷ order) (suc place) all = (all.0, below_remove end order place all.1)

-- the last pair moves to the gap
pub picked_renamed : (old new : List Pair) (gap last : ℕ) → gap ≤ last
    → (gap < last → pair_at new gap ≡ pair_at old last)
    → ((k : ℕ) → (k ≡ gap → ⊥) → k < last → pair_at new k ≡ pair_at old k)
    → (order : List ℕ) → AreBelow (last + 1) order → IsElsewhere gap order
    → picked new (map (renamed last gap) order) ≡ picked old order
picked_renamed old new gap last l moved stays [] all other = refl
picked_renamed old new gap last l moved stays (j ∷ order) all other =
    let rest = picked_renamed old new gap last l moved stays order all.1 other.1 in
    elim (cases_Bool (j == last)) as (λ _. picked new (map (renamed last gap) (j ∷ order)) ≡ picked old (j ∷ order)) [
      | inl t ↦
          let here : j ≡ last = eqb-true j last t in
          let apart : j ≡ gap → ⊥ = other.0 in
          let one : pair_at new gap ≡ pair_at old j = moved (first gap last j l here apart) ∙ ap (pair_at old) (sym here) in
          rw t (λ i. one i ∷ rest i)
      | inr f ↦
          let there : j ≡ last → ⊥ = eqb-false j last f in
          let one : pair_at new j ≡ pair_at old j = stays j other.0 (second last j all.0 there) in
          rw f (λ i. one i ∷ rest i)
    ]
  where
    first : (gap last j : ℕ) → gap ≤ last → j ≡ last → (j ≡ gap → ⊥) → gap < last
    first gap last j l here apart = omega (arith, apart)

    second : (last j : ℕ) → j < last + 1 → (j ≡ last → ⊥) → j < last
    second last j below there = omega (arith, there)

pub below_renamed : (gap last : ℕ) → gap ≤ last → (order : List ℕ) → AreBelow (last + 1) order → IsElsewhere gap order
    → AreBelow last (map (renamed last gap) order)
below_renamed gap last l [] all other = tt
below_renamed gap last l (j ∷ order) all other =
    let rest = below_renamed gap last l order all.1 other.1 in
    elim (cases_Bool (j == last)) as (λ _. AreBelow last (map (renamed last gap) (j ∷ order))) [
      | inl t ↦ (let here : j ≡ last = eqb-true j last t in let apart : j ≡ gap → ⊥ = other.0 in rw t (omega (arith, apart), rest))
      | inr f ↦ (let there : j ≡ last → ⊥ = eqb-false j last f in let below = all.0 in rw f (omega (arith, there), rest))
    ]

-- a place of the order is one of the list, and its pair the one that is picked
pub inside_at : (end : ℕ) (order : List ℕ) (place index : ℕ) → index ≡ get_or order place 0 → AreBelow end order
    → place < length order → index < end
inside_at end order place index is all l = rw is (below_at end order place 0 all l)

pub picked_is : (list : List Pair) (order : List ℕ) (place index e : ℕ) (p d : Pair) → index ≡ get_or order place e
    → index < length list → place < length order
    → p ≡ get_or list index p → get_or (picked list order) place d ≡ p
picked_is list order place index e p d is within l value =
    picked_at list order place e d l ∙ ap (pair_at list) (sym is) ∙ get_or_default list index none p within ∙ sym value

-- a key's text is set where the key stands
pub text_set : (key text : List ℕ) (list new : List Pair) (order : List ℕ) (place : ℕ) → IsKeyOrder list order
    → IsHeldAt key (picked list order) place
    → new ≡ set list (get_or order place 0) (record { key = key; text = text })
    → picked new order ≡ with_text key text (picked list order)
text_set key text list new order place ordered placed is =
    let v : Pair = record { key = key; text = text } in
    let long : length (picked list order) ≡ length order = length-map order (pair_at list) in
    let l : place < length order = omega (arith, placed.inside) in
    rw is (picked_set list order place 0 v ordered.below (apart list order place 0 ordered.rising l) l
    ∙ sym (with_text-held key text (picked list order) place v placed.before placed.inside (placed.same v)))

pub below_set : (list new : List Pair) (order : List ℕ) (i : ℕ) (v : Pair) → AreBelow (length list) order
    → new ≡ set list i v → AreBelow (length new) order
below_set list new order i v all is = rw (is, length-set list i v) all

-- a key comes where it belongs
pub text_inserted : (key text : List ℕ) (list new : List Pair) (order places : List ℕ) (place end : ℕ)
    → IsKeyOrder list order → IsFreeAt key (picked list order) place
    → new ≡ list ++ record { key = key; text = text } ∷ [] → places ≡ insert order place end → end ≡ length list
    → picked new places ≡ with_text key text (picked list order)
text_inserted key text list new order places place end ordered free is there long =
    rw (is, there, long) (picked_insert list (record { key = key; text = text }) order place ordered.below
    ∙ sym (with_text-free key text (picked list order) place free.before free.inside free.behind))

pub below_inserted : (list new : List Pair) (order places : List ℕ) (place end : ℕ) (v : Pair)
    → AreBelow (length list) order → new ≡ list ++ v ∷ []
    → places ≡ insert order place end → end ≡ length list → AreBelow (length new) places
below_inserted list new order places place end v all is there long =
    rw (is, there, long, length_push list v) (below_insert (length list) order place all)

-- a pair is removed, and the last one moves to its place
elsewhere_at : (list : List Pair) (order : List ℕ) (place gap : ℕ) → IsRising (picked list order) → place < length order
    → gap ≡ get_or order place gap → IsElsewhere gap (remove order place)
elsewhere_at list order place gap rising l is =
    subst (λ (i : ℕ). IsElsewhere i (remove order place)) (sym is) (apart list order place gap rising l)

pub gap_inside : (end : ℕ) (order : List ℕ) (place gap : ℕ) → gap ≡ get_or order place gap → AreBelow end order
    → place < length order → gap < end
gap_inside end order place gap is all l = subst (λ (i : ℕ). i < end) (sym is) (below_at end order place gap all l)

below_rest : (list : List Pair) (order : List ℕ) (place last n : ℕ) → AreBelow (length list) order → n ≡ length list
    → last + 1 ≡ n → AreBelow (last + 1) (remove order place)
below_rest list order place last n all is long = rw (long, is) (below_remove (length list) order place all)

pub picked_removed : (list new : List Pair) (order rest after : List ℕ) (place gap last n : ℕ) → IsKeyOrder list order
    → place < length order → gap ≡ get_or order place gap
    → rest ≡ remove order place → after ≡ map (renamed last gap) rest → n ≡ length list → last + 1 ≡ n
    → ((d : Pair) → gap + 1 < n → get_or new gap d ≡ get_or list (n - 1) d)
    → ((k : ℕ) (d : Pair) → (k ≡ gap → ⊥) → k + 1 < n → get_or new k d ≡ get_or list k d)
    → picked new after ≡ remove (picked list order) place
picked_removed list new order rest after place gap last n ordered l here without renamed_to long end moved stays =
    let within : gap < n = subst (λ (m : ℕ). gap < m) (sym long) (gap_inside (length list) order place gap here ordered.below l) in
    let back : n - 1 ≡ last = omega (arith, end) in
    rw (renamed_to, without)
    (picked_renamed list new gap last (omega (arith, within, end)) (λ less. moved none (omega (arith, less, end)) ∙ ap (pair_at list) back)
    (λ k other less. stays k none other (omega (arith, less, end))) (remove order place)
    (below_rest list order place last n ordered.below long end) (elsewhere_at list order place gap ordered.rising l here)
    ∙ picked_remove list order place)

pub below_removed : (list new : List Pair) (order rest after : List ℕ) (place gap last n : ℕ) → IsKeyOrder list order
    → place < length order → gap ≡ get_or order place gap
    → rest ≡ remove order place → after ≡ map (renamed last gap) rest → n ≡ length list → last + 1 ≡ n
    → length new ≡ last → AreBelow (length new) after
below_removed list new order rest after place gap last n ordered l here without renamed_to long end short =
    let within : gap < n = subst (λ (m : ℕ). gap < m) (sym long) (gap_inside (length list) order place gap here ordered.below l) in
    rw (short, renamed_to, without)
    (below_renamed gap last (omega (arith, within, end)) (remove order place) (below_rest list order place last n ordered.below long end)
    (elsewhere_at list order place gap ordered.rising l here))

-- one place more has its new name
renamed_more : (f : ℕ → ℕ) (order : List ℕ) (i d : ℕ) → i < length order
    → map f (take (suc i) order) ++ drop (suc i) order
    ≡ set (map f (take i order) ++ drop i order) i (f (get_or (map f (take i order) ++ drop i order) i d))
renamed_more f [] i d l = absurd (omega arith)
renamed_more f (x ∷ order) zero d l = refl
renamed_more f (x ∷ order) (suc i) d l = ap (λ (rest : List ℕ). f x ∷ rest) (renamed_more f order i d (omega arith))

pub renamed_step : (f : ℕ → ℕ) (order now : List ℕ) (i next d : ℕ) → next ≡ suc i → i < length order
    → map f (take i order) ++ drop i order ≡ now
    → map f (take next order) ++ drop next order ≡ set now i (f (get_or now i d))
renamed_step f order now i next d more l so_far = rw (more, ← so_far) (renamed_more f order i d l)

-- a slice that was written whole
drop_end : (n : ℕ) (xs : List ℕ) → length xs ≤ n → drop n xs ≡ []
drop_end zero [] l = refl
drop_end zero (x ∷ xs) l = absurd (omega arith)
drop_end (suc n) [] l = refl
drop_end (suc n) (x ∷ xs) l = drop_end n xs (omega arith)

take_end : (n : ℕ) (xs : List ℕ) → length xs ≤ n → take n xs ≡ xs
take_end zero [] l = refl
take_end zero (x ∷ xs) l = absurd (omega arith)
take_end (suc n) [] l = refl
take_end (suc n) (x ∷ xs) l = ap (λ (rest : List ℕ). x ∷ rest) (take_end n xs (omega arith))

pub written : (n : ℕ) (new old : List ℕ) → length new ≡ length old → n ≡ length old
    → take n (new ++ drop (length new) old) ≡ new
written n new old same long =
    rw (drop_end (length new) old (omega arith), append-nil new) (take_end n new (omega arith))

-- the pair at a place, and those after it
pub drop_at : (pairs : List Pair) (i : ℕ) (p : Pair) → i < length pairs → ((d : Pair) → get_or pairs i d ≡ p)
    → drop i pairs ≡ p ∷ drop (suc i) pairs
drop_at [] i p l is = absurd (omega arith)
drop_at (q ∷ pairs) zero p l is = ap (λ (r : Pair). r ∷ pairs) (is p)
drop_at (q ∷ pairs) (suc i) p l is = drop_at pairs i p (omega arith) is

-- a text with more after it begins as before
pub begins : (old now more new : List ℕ) → new ≡ now ++ more → take (length old) now ≡ old → take (length old) new ≡ old
begins old now more new is h = rw is (go old now h)
  where
    go : (old now : List ℕ) → take (length old) now ≡ old → take (length old) (now ++ more) ≡ old
    go [] now h = refl
    go (x ∷ old) [] h = cc
    go (x ∷ old) (y ∷ now) h =
        let head : y ≡ x = cc in
        let tail : take (length old) now ≡ old = cc in
        λ i. head i ∷ go old now tail i
