-- Rising answers, of which some are left, or among which one more is put.
use Rattle.cx_base.proofs.Common.{◌≡◌, ◌⊎◌, ℕ, Bool, true, false, List, [], ◌∷◌, inl, inr, refl, arith, filter, if◌then◌else◌, None, Some}
use Rattle.cx_base.proofs.Common.{list_all, and_from, and_parts, cases_Bool, nat_tests, rises, comes_before, is_answer_of, noted_for}
use Rattle.cx_base.proofs.Common.{with_note}
use Rattle.cx_base.specs.declared.command.Answered.{Answered}

-- what is so of each is so of each that is left
pub all_left : {A : Type 0} (p q : A → Bool) (list : List A) → list_all p list ≡ true
    → list_all p (filter q list) ≡ true
all_left p q [] all = refl
all_left p q (x ∷ list) all =
    let parts = and_parts (p x) (list_all p list) all in
    go (cases_Bool (q x)) parts.0 (all_left p q list parts.1)
  where
    go : (q x ≡ true) ⊎ (q x ≡ false) → p x ≡ true → list_all p (filter q list) ≡ true
        → list_all p (filter q (x ∷ list)) ≡ true
    go (inl t) first rest = rw t (and_from (p x) (list_all p (filter q list)) first rest)
    go (inr t) first rest = rw t rest

pub rise_left : (before : Answered → Answered → Bool) (q : Answered → Bool) (notes : List Answered)
    → rises before notes ≡ true → rises before (filter q notes) ≡ true
rise_left before q [] rising = refl
rise_left before q (a ∷ notes) rising =
    let parts = and_parts (list_all (before a) notes) (rises before notes) rising in
    go (cases_Bool (q a)) (all_left (before a) q notes parts.0) (rise_left before q notes parts.1)
  where
    go : (q a ≡ true) ⊎ (q a ≡ false) → list_all (before a) (filter q notes) ≡ true
        → rises before (filter q notes) ≡ true → rises before (filter q (a ∷ notes)) ≡ true
    go (inl t) first rest = rw t (and_from (list_all (before a) (filter q notes)) (rises before (filter q notes)) first rest)
    go (inr t) first rest = rw t rest

-- a number that has no answer has none among those that are left
pub none_noted_left : (client seq : ℕ) (q : Answered → Bool) (notes : List Answered) → noted_for client seq notes ≡ None
    → noted_for client seq (filter q notes) ≡ None
none_noted_left client seq q [] none = refl
none_noted_left client seq q (a ∷ notes) none =
    go (cases_Bool (q a)) (cases_Bool (is_answer_of client seq a)) (none_noted_left client seq q notes) none
  where
    go : (q a ≡ true) ⊎ (q a ≡ false) → (is_answer_of client seq a ≡ true) ⊎ (is_answer_of client seq a ≡ false)
        → (noted_for client seq notes ≡ None → noted_for client seq (filter q notes) ≡ None)
        → noted_for client seq (a ∷ notes) ≡ None → noted_for client seq (filter q (a ∷ notes)) ≡ None
    go t (inl s) rest none = (let never : Some a ≡ None = rw s at none in cc)
    go (inl t) (inr s) rest none = (let later : noted_for client seq notes ≡ None = rw s at none in rw (t, s) (rest later))
    go (inr t) (inr s) rest none = (let later : noted_for client seq notes ≡ None = rw s at none in rw t (rest later))

before_both : (a b x : Answered) → comes_before a b ≡ true → comes_before b x ≡ true → comes_before a x ≡ true
before_both a b x h k = grind (arith, nat_tests, h, k)

pub before_all : (a b : Answered) (notes : List Answered) → comes_before a b ≡ true
    → list_all (comes_before b) notes ≡ true → list_all (comes_before a) notes ≡ true
before_all a b [] h all = refl
before_all a b (x ∷ notes) h all =
    let parts = and_parts (comes_before b x) (list_all (comes_before b) notes) all in
    and_from (comes_before a x) (list_all (comes_before a) notes) (before_both a b x h parts.0) (before_all a b notes h parts.1)

-- an answer that comes before all others is put in front
pub in_front : (a : Answered) (notes : List Answered) → list_all (comes_before a) notes ≡ true
    → with_note a notes ≡ a ∷ notes
in_front a [] all = refl
in_front a (b ∷ notes) all = rw (and_parts (comes_before a b) (list_all (comes_before a) notes) all).0 refl

-- which answers are left with one more
pub left_with : (q : Answered → Bool) (a : Answered) (notes : List Answered) → rises comes_before notes ≡ true
    → filter q (with_note a notes) ≡ (if q a then with_note a (filter q notes) else filter q notes)
left_with q a [] rising = refl
left_with q a (b ∷ notes) rising =
    let parts = and_parts (list_all (comes_before b) notes) (rises comes_before notes) rising in
    go (cases_Bool (comes_before a b)) (cases_Bool (q a)) (cases_Bool (q b)) parts.0 (left_with q a notes parts.1)
  where
    go : (comes_before a b ≡ true) ⊎ (comes_before a b ≡ false) → (q a ≡ true) ⊎ (q a ≡ false)
        → (q b ≡ true) ⊎ (q b ≡ false) → list_all (comes_before b) notes ≡ true
        → filter q (with_note a notes) ≡ (if q a then with_note a (filter q notes) else filter q notes)
        → filter q (with_note a (b ∷ notes))
        ≡ (if q a then with_note a (filter q (b ∷ notes)) else filter q (b ∷ notes))
    go (inl h) (inl t) (inl s) all rest = rw (h, t, s, h) refl
    go (inl h) (inl t) (inr s) all rest =
        rw (h, t, s, in_front a (filter q notes) (all_left (comes_before a) q notes (before_all a b notes h all))) refl
    go (inl h) (inr t) s all rest = rw (h, t) refl
    go (inr h) (inl t) (inl s) all rest =
        (let later : filter q (with_note a notes) ≡ with_note a (filter q notes) = rw t at rest in rw (h, t, s, h, later) refl)
    go (inr h) (inl t) (inr s) all rest =
        (let later : filter q (with_note a notes) ≡ with_note a (filter q notes) = rw t at rest in rw (h, t, s, later) refl)
    go (inr h) (inr t) (inl s) all rest =
        (let later : filter q (with_note a notes) ≡ filter q notes = rw t at rest in rw (h, t, s, later) refl)
    go (inr h) (inr t) (inr s) all rest =
        (let later : filter q (with_note a notes) ≡ filter q notes = rw t at rest in rw (h, t, s, later) refl)

-- what is so of each, and of one more
pub all_with : (p : Answered → Bool) (a : Answered) (notes : List Answered) → p a ≡ true → list_all p notes ≡ true
    → list_all p (with_note a notes) ≡ true
all_with p a [] one all = and_from (p a) true one refl
all_with p a (b ∷ notes) one all =
    let parts = and_parts (p b) (list_all p notes) all in
    go (cases_Bool (comes_before a b)) (all_with p a notes one parts.1) parts.0
  where
    go : (comes_before a b ≡ true) ⊎ (comes_before a b ≡ false) → list_all p (with_note a notes) ≡ true → p b ≡ true
        → list_all p (with_note a (b ∷ notes)) ≡ true
    go (inl h) rest first = rw h (and_from (p a) (list_all p (b ∷ notes)) one all)
    go (inr h) rest first = rw h (and_from (p b) (list_all p (with_note a notes)) first rest)

-- of two answers, which are to different numbers, one comes first
comes_behind : (a b : Answered) → comes_before a b ≡ false → is_answer_of a.client a.seq b ≡ false
    → comes_before b a ≡ true
comes_behind a b h k = grind (arith, nat_tests, h, k)

pub rise_with : (a : Answered) (notes : List Answered) → noted_for a.client a.seq notes ≡ None
    → rises comes_before notes ≡ true → rises comes_before (with_note a notes) ≡ true
rise_with a [] new rising = refl
rise_with a (b ∷ notes) new rising = go (cases_Bool (is_answer_of a.client a.seq b)) (cases_Bool (comes_before a b))
    (and_parts (list_all (comes_before b) notes) (rises comes_before notes) rising) new (rise_with a notes)
  where
    go : (is_answer_of a.client a.seq b ≡ true) ⊎ (is_answer_of a.client a.seq b ≡ false)
        → (comes_before a b ≡ true) ⊎ (comes_before a b ≡ false)
        → (list_all (comes_before b) notes ≡ true) × (rises comes_before notes ≡ true)
        → noted_for a.client a.seq (b ∷ notes) ≡ None
        → (noted_for a.client a.seq notes ≡ None → rises comes_before notes ≡ true
        → rises comes_before (with_note a notes) ≡ true)
        → rises comes_before (with_note a (b ∷ notes)) ≡ true
    go (inl s) h p none rest = (let never : Some b ≡ None = rw s at none in cc)
    go (inr s) (inl h) p none rest = rw h (and_from (list_all (comes_before a) (b ∷ notes)) (rises comes_before (b ∷ notes))
        (and_from (comes_before a b) (list_all (comes_before a) notes) h (before_all a b notes h p.0)) rising)
    go (inr s) (inr h) p none rest =
        let later : noted_for a.client a.seq notes ≡ None = rw s at none in
        rw h (and_from (list_all (comes_before b) (with_note a notes)) (rises comes_before (with_note a notes))
        (all_with (comes_before b) a notes (comes_behind a b h s) p.0) (rest later p.1))
