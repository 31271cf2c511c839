-- Pairs behind all others.
use Rattle.cx_base.proofs.Common.{◌≡◌, ℕ, suc, ◌+◌, ◌<◌, add-one, drop-cons, true, ◌&&◌, List, [], ◌∷◌, ◌++◌, length, drop, get_or, refl}
use Rattle.cx_base.proofs.Common.{ap, sym, ◌∙◌, append_assoc, list_all, and_from, and_parts, list_all-append, with_text, rises}
use Rattle.cx_base.specs.declared.command.Pair.{Pair}
use Rattle.cx_kv.specs.Rising.{IsBeforeAll, IsRising, has_lower_key}
use Rattle.cx_kv.proofs.Keys.{is_less-back, is_less-ne}

before_all : (p : Pair) (map : List Pair) → IsBeforeAll p.key map → list_all (has_lower_key p) map ≡ true
before_all p [] h = refl
before_all p (q ∷ map) h = and_from (has_lower_key p q) (list_all (has_lower_key p) map) h.0 (before_all p map h.1)

pub all_rise : (map : List Pair) → IsRising map → rises has_lower_key map ≡ true
all_rise [] h = refl
all_rise (p ∷ map) h = and_from (list_all (has_lower_key p) map) (rises has_lower_key map) (before_all p map h.0) (all_rise map h.1)

-- a pair behind all others is put there
put_last : (map rest : List Pair) (p : Pair) → rises has_lower_key (map ++ p ∷ rest) ≡ true
    → with_text p.key p.text map ≡ map ++ p ∷ []
put_last [] rest p rising = refl
put_last (q ∷ map) rest p rising =
    let parts = and_parts (list_all (has_lower_key q) (map ++ p ∷ rest)) (rises has_lower_key (map ++ p ∷ rest)) rising in
    let all = and_parts (list_all (has_lower_key q) map) (has_lower_key q p && list_all (has_lower_key q) rest)
    (sym (list_all-append (has_lower_key q) map (p ∷ rest)) ∙ parts.0) in
    let less = (and_parts (has_lower_key q p) (list_all (has_lower_key q) rest) all.1).0 in
    rw ((is_less-ne q.key p.key less).0, is_less-back q.key p.key less) (ap (λ (l : List Pair). q ∷ l) (put_last map rest p parts.1))

-- one pair further
pub put_on : (all now next pairs rest left : List Pair) (p : Pair) → left ≡ p ∷ rest → rises has_lower_key all ≡ true
    → now ++ left ≡ all → next ≡ with_text p.key p.text now → next ++ rest ≡ all
put_on all now next pairs rest left p more rising so_far is =
    let here : now ++ p ∷ rest ≡ all = ap (λ (l : List Pair). now ++ l) (sym more) ∙ so_far in
    let risen : rises has_lower_key (now ++ p ∷ rest) ≡ true = ap (λ (l : List Pair). rises has_lower_key l) here ∙ rising in
    ap (λ (l : List Pair). l ++ rest) (is ∙ put_last now rest p risen) ∙ append_assoc now (p ∷ []) rest ∙ here

-- a pair is the first of those that are left
pub first_left : (pairs : List Pair) (i : ℕ) (p : Pair) → i < length pairs → p ≡ get_or pairs i p
    → drop i pairs ≡ p ∷ drop (i + 1) pairs
first_left pairs i p l e = rw add-one (drop-cons pairs i p l ∙ ap (λ (q : Pair). q ∷ drop (suc i) pairs) (sym e))
