-- Maps with rising keys, cut at a place.
use Rattle.cx_base.specs.Prelude.{AllWithin, map_appended, without_key}
use Rattle.cx_base.proofs.Common.{◌≡◌, ℕ, zero, suc, ◌+◌, ◌<◌, ◌≤◌, ◌⊎◌, inl, inr, true, false, nat_lt, List, [], ◌∷◌, length, get_or, drop}
use Rattle.cx_base.proofs.Common.{set, refl, ap, sym, subst, ◌∙◌, arith, Some, None, bytes_eq, insert, remove, IsPartitionedBy, cases_Bool}
use Rattle.cx_base.proofs.Common.{cases_eq, nat_tests, is_less, text_at, with_text}
use Rattle.cx_base.specs.declared.command.Pair.{Pair}
use Rattle.cx_kv.specs.Rising.{IsBeforeAll, IsRising}
use Rattle.cx_kv.proofs.Keys.{is_less-back, is_less-ne, is_less-trans, is_less-other, same_bytes, bytes_ne}

-- a key before all comes before each
pub IsBeforeAll-at : (key : List ℕ) (map : List Pair) (j : ℕ) (d : Pair) → IsBeforeAll key map → j < length map
    → is_less key (get_or map j d).key ≡ true
IsBeforeAll-at key [] j d h l = absurd (omega arith)
IsBeforeAll-at key (p ∷ map) zero d h l = h.0
IsBeforeAll-at key (p ∷ map) (suc j) d h l = IsBeforeAll-at key map j d h.1 (omega arith)

IsRising-at : (map : List Pair) (i j : ℕ) (d : Pair) → IsRising map → i < j → j < length map
    → is_less (get_or map i d).key (get_or map j d).key ≡ true
IsRising-at [] i j d h ij l = absurd (omega arith)
IsRising-at (p ∷ map) i zero d h ij l = absurd (omega arith)
IsRising-at (p ∷ map) zero (suc j) d h ij l = IsBeforeAll-at p.key map j d h.0 (omega arith)
IsRising-at (p ∷ map) (suc i) (suc j) d h ij l = IsRising-at map i j d h.1 (omega arith) (omega arith)

-- keys before a key stand in front
pub IsRising-parted : (key : List ℕ) (map : List Pair) → IsRising map → IsPartitionedBy (λ p. is_less p.key key) map
IsRising-parted key map h i j d ij l less = step (cases_eq i j)
  where
    step : (i ≡ j) ⊎ (i ≡ j → ⊥) → is_less (get_or map i d).key key ≡ true
    step (inl e) = rw e less
    step (inr n) = is_less-trans (get_or map i d).key (get_or map j d).key key (IsRising-at map i j d h (omega arith) l) less

-- a key that is not after the first key and differs from it comes before all
IsBeforeAll-weaker : (key other : List ℕ) (map : List Pair) → is_less key other ≡ true → IsBeforeAll other map
    → IsBeforeAll key map
IsBeforeAll-weaker key other [] less h = tt
IsBeforeAll-weaker key other (p ∷ map) less h = (is_less-trans key other p.key less h.0, IsBeforeAll-weaker key other map less h.1)

pub IsBeforeAll-rising : (key : List ℕ) (p : Pair) (map : List Pair) → IsRising (p ∷ map) → is_less p.key key ≡ false
    → bytes_eq p.key key ≡ false → IsBeforeAll key (p ∷ map)
IsBeforeAll-rising key p map h least other =
    let less : is_less key p.key ≡ true = is_less-other p.key key least other in (less, IsBeforeAll-weaker key p.key map less h.0)

IsRising-drop : (map : List Pair) (place : ℕ) → IsRising map → IsRising (drop place map)
IsRising-drop map zero h = h
IsRising-drop [] (suc place) h = tt
IsRising-drop (p ∷ map) (suc place) h = IsRising-drop map place h.1

pub behind_place : (key : List ℕ) (map : List Pair) (place : ℕ) → IsRising map
    → AllWithin (λ p. is_less p.key key ≡ false) map place (length map)
    → (place < length map → (d : Pair) → bytes_eq (get_or map place d).key key ≡ false)
    → IsBeforeAll key (drop place map)
behind_place key [] zero h behind other = tt
behind_place key [] (suc place) h behind other = tt
behind_place key (p ∷ map) zero h behind other =
    IsBeforeAll-rising key p map h (behind zero p (omega arith) (omega arith)) (other (omega arith) p)
behind_place key (p ∷ map) (suc place) h behind other =
    behind_place key map place h.1 (λ k d low high. behind (suc k) d (omega arith) (omega arith)) (λ l. other (omega arith))

-- at the place of a key
AllBefore-tail : (key : List ℕ) (p : Pair) (map : List Pair) (place : ℕ)
    → AllWithin (λ p. is_less p.key key ≡ true) (p ∷ map) 0 (suc place)
    → AllWithin (λ p. is_less p.key key ≡ true) map 0 place
AllBefore-tail key p map place h = λ k d low high. h (suc k) d (omega arith) (omega arith)

first_other : (key : List ℕ) (p : Pair) (map : List Pair) (place : ℕ)
    → AllWithin (λ p. is_less p.key key ≡ true) (p ∷ map) 0 (suc place)
    → (bytes_eq p.key key ≡ false) × (is_less key p.key ≡ false)
first_other key p map place h = let less : is_less p.key key ≡ true = h zero p (omega arith) (omega arith) in
    ((is_less-ne p.key key less).0, is_less-back p.key key less)

pub text_at-held : (key : List ℕ) (map : List Pair) (place : ℕ) (d : Pair)
    → AllWithin (λ p. is_less p.key key ≡ true) map 0 place → place < length map
    → bytes_eq (get_or map place d).key key ≡ true → text_at key map ≡ Some (get_or map place d).text
text_at-held key [] place d before l same = absurd (omega arith)
text_at-held key (p ∷ map) zero d before l same = rw same refl
text_at-held key (p ∷ map) (suc place) d before l same =
    rw ((first_other key p map place before).0) (text_at-held key map place d (AllBefore-tail key p map place before) (omega arith) same)

pub with_text-held : (key text : List ℕ) (map : List Pair) (place : ℕ) (d : Pair)
    → AllWithin (λ p. is_less p.key key ≡ true) map 0 place → place < length map
    → bytes_eq (get_or map place d).key key ≡ true
    → with_text key text map ≡ set map place (record { key = key; text = text })
with_text-held key text [] place d before l same = absurd (omega arith)
with_text-held key text (p ∷ map) zero d before l same = rw same refl
with_text-held key text (p ∷ map) (suc place) d before l same =
    rw ((first_other key p map place before).0, (first_other key p map place before).1)
    (ap (λ (rest : List Pair). p ∷ rest) (with_text-held key text map place d (AllBefore-tail key p map place before) (omega arith) same))

pub without_key-held : (key : List ℕ) (map : List Pair) (place : ℕ) (d : Pair)
    → AllWithin (λ p. is_less p.key key ≡ true) map 0 place → place < length map
    → bytes_eq (get_or map place d).key key ≡ true → without_key key map ≡ remove map place
without_key-held key [] place d before l same = absurd (omega arith)
without_key-held key (p ∷ map) zero d before l same = rw same refl
without_key-held key (p ∷ map) (suc place) d before l same =
    rw ((first_other key p map place before).0)
    (ap (λ (rest : List Pair). p ∷ rest) (without_key-held key map place d (AllBefore-tail key p map place before) (omega arith) same))

-- where a key belongs that stands nowhere
text_at-none : (key : List ℕ) (map : List Pair) → IsBeforeAll key map → text_at key map ≡ None
text_at-none key [] h = refl
text_at-none key (p ∷ map) h = rw ((is_less-ne key p.key h.0).1) (text_at-none key map h.1)

without_key-none : (key : List ℕ) (map : List Pair) → IsBeforeAll key map → without_key key map ≡ map
without_key-none key [] h = refl
without_key-none key (p ∷ map) h = rw ((is_less-ne key p.key h.0).1) (ap (λ (rest : List Pair). p ∷ rest) (without_key-none key map h.1))

with_text-first : (key text : List ℕ) (map : List Pair) → IsBeforeAll key map
    → with_text key text map ≡ record { key = key; text = text } ∷ map
with_text-first key text [] h = refl
with_text-first key text (p ∷ map) h = rw ((is_less-ne key p.key h.0).1, h.0) refl

pub text_at-free : (key : List ℕ) (map : List Pair) (place : ℕ) → AllWithin (λ p. is_less p.key key ≡ true) map 0 place
    → place ≤ length map
    → IsBeforeAll key (drop place map) → text_at key map ≡ None
text_at-free key map zero before l behind = text_at-none key map behind
text_at-free key [] (suc place) before l behind = refl
text_at-free key (p ∷ map) (suc place) before l behind =
    rw ((first_other key p map place before).0) (text_at-free key map place (AllBefore-tail key p map place before) (omega arith) behind)

pub without_key-free : (key : List ℕ) (map : List Pair) (place : ℕ)
    → AllWithin (λ p. is_less p.key key ≡ true) map 0 place → place ≤ length map
    → IsBeforeAll key (drop place map) → without_key key map ≡ map
without_key-free key map zero before l behind = without_key-none key map behind
without_key-free key [] (suc place) before l behind = refl
without_key-free key (p ∷ map) (suc place) before l behind =
    rw ((first_other key p map place before).0)
    (ap (λ (rest : List Pair). p ∷ rest) (without_key-free key map place (AllBefore-tail key p map place before) (omega arith) behind))

pub with_text-free : (key text : List ℕ) (map : List Pair) (place : ℕ)
    → AllWithin (λ p. is_less p.key key ≡ true) map 0 place → place ≤ length map
    → IsBeforeAll key (drop place map) → with_text key text map ≡ insert map place (record { key = key; text = text })
with_text-free key text map zero before l behind = with_text-first key text map behind
with_text-free key text [] (suc place) before l behind = absurd (omega arith)
with_text-free key text (p ∷ map) (suc place) before l behind =
    rw ((first_other key p map place before).0, (first_other key p map place before).1)
    (ap (λ (rest : List Pair). p ∷ rest) (with_text-free key text map place (AllBefore-tail key p map place before) (omega arith) behind))

-- a map keeps its order
IsBeforeAll-with_text : (first key text : List ℕ) (map : List Pair) → is_less first key ≡ true → IsBeforeAll first map
    → IsBeforeAll first (with_text key text map)
IsBeforeAll-with_text first key text [] less h = (less, tt)
IsBeforeAll-with_text first key text (p ∷ map) less h =
    elim (cases_Bool (bytes_eq p.key key)) as (λ _. IsBeforeAll first (with_text key text (p ∷ map))) [
      | inl e ↦ rw e (less, h.1)
      | inr e ↦ elim (cases_Bool (is_less key p.key)) as (λ _. IsBeforeAll first (with_text key text (p ∷ map))) [
        | inl f ↦ rw (e, f) (less, h)
        | inr f ↦ rw (e, f) (h.0, IsBeforeAll-with_text first key text map less h.1)
      ]
    ]

pub rising_with_text : (key text : List ℕ) (map : List Pair) → IsRising map → IsRising (with_text key text map)
rising_with_text key text [] h = (tt, tt)
rising_with_text key text (p ∷ map) h = elim (cases_Bool (bytes_eq p.key key)) as (λ _. IsRising (with_text key text (p ∷ map))) [
  | inl e ↦ rw e (subst (λ (k : List ℕ). IsBeforeAll k map) (same_bytes p.key key e) h.0, h.1)
  | inr e ↦ elim (cases_Bool (is_less key p.key)) as (λ _. IsRising (with_text key text (p ∷ map))) [
    | inl f ↦ rw (e, f) ((f, IsBeforeAll-weaker key p.key map f h.0), h)
    | inr f ↦ rw (e, f)
        (IsBeforeAll-with_text p.key key text map (is_less-other key p.key f (bytes_ne p.key key e)) h.0, rising_with_text key text map h.1)
  ]
]

IsBeforeAll-without_key : (first key : List ℕ) (map : List Pair) → IsBeforeAll first map
    → IsBeforeAll first (without_key key map)
IsBeforeAll-without_key first key [] h = tt
IsBeforeAll-without_key first key (p ∷ map) h =
    elim (cases_Bool (bytes_eq p.key key)) as (λ _. IsBeforeAll first (without_key key (p ∷ map))) [
      | inl e ↦ rw e h.1
      | inr e ↦ rw e (h.0, IsBeforeAll-without_key first key map h.1)
    ]

pub rising_without_key : (key : List ℕ) (map : List Pair) → IsRising map → IsRising (without_key key map)
rising_without_key key [] h = tt
rising_without_key key (p ∷ map) h = elim (cases_Bool (bytes_eq p.key key)) as (λ _. IsRising (without_key key (p ∷ map))) [
  | inl e ↦ rw e h.1
  | inr e ↦ rw e (IsBeforeAll-without_key p.key key map h.0, rising_without_key key map h.1)
]

-- a key is set to the text that it has
with_text-same_step : (key text : List ℕ) (p : Pair) (map : List Pair) → bytes_eq p.key key ≡ true
    → Some p.text ≡ Some text → record { key = key; text = text } ∷ map ≡ p ∷ map
with_text-same_step key text p map same e =
    let k : key ≡ p.key = sym (same_bytes p.key key same) in
    let t : text ≡ p.text = cc in
    let first : List ℕ → Pair = λ x. record { key = x; text = text } in
    let second : List ℕ → Pair = λ x. record { key = p.key; text = x } in
    ap (λ (q : Pair). q ∷ map) (ap first k ∙ ap second t)

none_some : (key text : List ℕ) (map : List Pair) → IsBeforeAll key map → text_at key map ≡ Some text → ⊥
none_some key text map h e = let n : text_at key map ≡ None = text_at-none key map h in cc

pub with_text-same : (key text : List ℕ) (map : List Pair) → IsRising map → text_at key map ≡ Some text
    → with_text key text map ≡ map
with_text-same key text [] h e = cc
with_text-same key text (p ∷ map) h e = elim (cases_Bool (bytes_eq p.key key)) as (λ _. with_text key text (p ∷ map) ≡ p ∷ map) [
  | inl same ↦ rw same (with_text-same_step key text p map same (rw same at e))
  | inr other ↦ elim (cases_Bool (is_less key p.key)) as (λ _. with_text key text (p ∷ map) ≡ p ∷ map) [
    | inl less ↦ absurd (none_some key text map (IsBeforeAll-weaker key p.key map less h.0) (rw other at e))
    | inr least ↦ rw (other, least) (ap (λ (rest : List Pair). p ∷ rest) (with_text-same key text map h.1 (rw other at e)))
  ]
]

-- an append past the limit changes nothing
pub map_appended_full : (map : List Pair) (key more old : List ℕ) → IsRising map → text_at key map ≡ Some old
    → 64 < length old + length more
    → map ≡ map_appended map key more (text_at key map)
map_appended_full map key more old h e l =
    let long : nat_lt 64 (length old + length more) ≡ true = grind (arith, nat_tests) in
    rw (e, long) (sym (with_text-same key old map h e))
