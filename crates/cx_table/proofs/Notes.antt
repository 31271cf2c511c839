-- A client's answers, by rising number.
use Rattle.cx_base.proofs.Common.{◌≡◌, ◌⊎◌, ℕ, zero, suc, ◌-◌, ◌<◌, ◌≤◌, Bool, true, false, ◌&&◌, List, [], ◌∷◌, ◌++◌, length, get_or, inl}
use Rattle.cx_base.proofs.Common.{inr, ap, ◌∙◌, refl, arith, ◌==◌, nat_le, nat_lt, slice_get, if◌then◌else◌, Option, None, Some, insert}
use Rattle.cx_base.proofs.Common.{list_all, IsPartitionedBy, and_parts, cases_Bool, nat_tests, rises, comes_before, noted_for, with_note}
use Rattle.cx_base.specs.declared.command.Answered.{Answered}
use Rattle.cx_table.specs.Entries.{IsPlace, above, are_of, is_lower}

-- what is so of each is so of one
pub all_at : {A : Type 0} (p : A → Bool) (list : List A) (i : ℕ) (d : A) → list_all p list ≡ true → i < length list
    → p (get_or list i d) ≡ true
all_at p [] i d all l = absurd (omega arith)
all_at p (x ∷ list) zero d all l = (and_parts (p x) (list_all p list) all).0
all_at p (x ∷ list) (suc i) d all l = all_at p list i d (and_parts (p x) (list_all p list) all).1 (omega arith)

-- a client's answer stands before another of it by its number
by_number : (a b : Answered) → (a.client == b.client) ≡ true → comes_before a b ≡ nat_lt a.seq b.seq
by_number a b same = (let level : nat_lt a.client b.client ≡ false = grind (arith, nat_tests, same) in rw (level, same) refl)

same_client : (client : ℕ) (a b : Answered) → (a.client == client) ≡ true → (b.client == client) ≡ true
    → (a.client == b.client) ≡ true
same_client client a b s t = grind (arith, nat_tests, s, t)

and_true : (b : Bool) → (b && true) ≡ b
and_true true = refl
and_true false = refl

and_false : (b : Bool) → (b && false) ≡ false
and_false true = refl
and_false false = refl

-- whether answers of one client rise is seen by their numbers
pub rise_by_number : (client : ℕ) (notes : List Answered) → are_of client notes ≡ true
    → rises comes_before notes ≡ rises is_lower notes
rise_by_number client [] own = refl
rise_by_number client (a ∷ notes) own =
    let o = and_parts (a.client == client) (are_of client notes) own in
    ap (λ b. b && rises comes_before notes) (all_lower client a notes o.0 o.1)
    ∙ ap (λ b. list_all (is_lower a) notes && b) (rise_by_number client notes o.1)
  where
    all_lower : (client : ℕ) (a : Answered) (notes : List Answered) → (a.client == client) ≡ true
        → are_of client notes ≡ true → list_all (comes_before a) notes ≡ list_all (is_lower a) notes
    all_lower client a [] one own = refl
    all_lower client a (b ∷ notes) one own =
        let o = and_parts (b.client == client) (are_of client notes) own in
        ap (λ t. t && list_all (comes_before a) notes) (by_number a b (same_client client a b one o.0))
        ∙ ap (λ t. nat_lt a.seq b.seq && t) (all_lower client a notes one o.1)

-- those of lower numbers stand in front
pub parted : (seq : ℕ) (notes : List Answered) → rises is_lower notes ≡ true
    → IsPartitionedBy (λ (a : Answered). nat_lt a.seq seq) notes
parted seq [] rising i j d ij l low = absurd (omega arith)
parted seq (a ∷ notes) rising zero zero d ij l low = low
parted seq (a ∷ notes) rising zero (suc j) d ij l low =
    let r = and_parts (list_all (is_lower a) notes) (rises is_lower notes) rising in
    let less : nat_lt a.seq (get_or notes j d).seq ≡ true = all_at (is_lower a) notes j d r.0 (omega arith) in
    grind (arith, nat_tests, less, low)
parted seq (a ∷ notes) rising (suc i) zero d ij l low = absurd (omega arith)
parted seq (a ∷ notes) rising (suc i) (suc j) d ij l low =
    parted seq notes (and_parts (list_all (is_lower a) notes) (rises is_lower notes) rising).1 i j d (omega arith) (omega arith) low

place_after : (seq : ℕ) (a : Answered) (notes : List Answered) (place : ℕ) → IsPlace seq (a ∷ notes) (suc place)
    → IsPlace seq notes place
place_after seq a notes place is =
    (λ k d low high. is.0 (suc k) d (omega arith) (omega arith), λ k d low high. is.1 (suc k) d (omega arith) (omega arith))

-- the answer at a place, where it is to this number
abbrev pub answer_at : ℕ → Option Answered → Option Answered
answer_at seq None = None
answer_at seq (Some a) = if a.seq == seq then Some a else None

none_behind : (client seq : ℕ) (a : Answered) (notes : List Answered) → list_all (is_lower a) notes ≡ true
    → nat_lt a.seq seq ≡ false → noted_for client seq notes ≡ None
none_behind client seq a [] lower high = refl
none_behind client seq a (b ∷ notes) lower high =
    let r = and_parts (is_lower a b) (list_all (is_lower a) notes) lower in
    let less = r.0 in
    let other : (b.seq == seq) ≡ false = grind (arith, nat_tests, less, high) in
    rw (other, and_false (b.client == client)) (none_behind client seq a notes r.1 high)

-- what is noted for a number is at its place
pub found : (client seq : ℕ) (notes : List Answered) (place : ℕ) → are_of client notes ≡ true
    → rises is_lower notes ≡ true → IsPlace seq notes place
    → noted_for client seq notes ≡ answer_at seq (slice_get notes place)
found client seq [] place own rising is = refl
found client seq (a ∷ notes) zero own rising is =
    let o = and_parts (a.client == client) (are_of client notes) own in
    let r = and_parts (list_all (is_lower a) notes) (rises is_lower notes) rising in
    go (cases_Bool (a.seq == seq)) o.0 (none_behind client seq a notes r.0 (is.1 0 a (omega arith) (omega arith)))
  where
    go : ((a.seq == seq) ≡ true) ⊎ ((a.seq == seq) ≡ false) → (a.client == client) ≡ true
        → noted_for client seq notes ≡ None
        → noted_for client seq (a ∷ notes) ≡ (if a.seq == seq then Some a else None)
    go (inl e) s none = rw (s, e) refl
    go (inr e) s none = rw (s, e) none
found client seq (a ∷ notes) (suc place) own rising is =
    let o = and_parts (a.client == client) (are_of client notes) own in
    let r = and_parts (list_all (is_lower a) notes) (rises is_lower notes) rising in
    let low : nat_lt a.seq seq ≡ true = is.0 0 a (omega arith) (omega arith) in
    let other : (a.seq == seq) ≡ false = grind (arith, nat_tests, low) in
    rw (o.0, other) (found client seq notes place o.1 r.1 (place_after seq a notes place is))

-- an answer that is put in at the place of its number stands where the table has it
pub put_in : (a : Answered) (notes : List Answered) (place : ℕ) → are_of a.client notes ≡ true
    → noted_for a.client a.seq notes ≡ None → IsPlace a.seq notes place → place ≤ length notes
    → insert notes place a ≡ with_note a notes
put_in a [] zero own new is inside = refl
put_in a [] (suc place) own new is inside = absurd (omega arith)
put_in a (b ∷ notes) zero own new is inside =
    let o = and_parts (b.client == a.client) (are_of a.client notes) own in
    let low : nat_lt b.seq a.seq ≡ false = is.1 0 b (omega arith) (omega arith) in
    first (cases_Bool (b.seq == a.seq)) o.0 low new
  where
    first : ((b.seq == a.seq) ≡ true) ⊎ ((b.seq == a.seq) ≡ false) → (b.client == a.client) ≡ true
        → nat_lt b.seq a.seq ≡ false → noted_for a.client a.seq (b ∷ notes) ≡ None
        → a ∷ b ∷ notes ≡ with_note a (b ∷ notes)
    first (inl e) s low new = (let never : Some b ≡ None = rw (s, e) at new in cc)
    first (inr e) s low new =
        let less : nat_lt a.seq b.seq ≡ true = grind (arith, nat_tests, e, low) in
        let turned : (a.client == b.client) ≡ true = grind (arith, nat_tests, s) in
        rw (by_number a b turned, less) refl
put_in a (b ∷ notes) (suc place) own new is inside =
    let o = and_parts (b.client == a.client) (are_of a.client notes) own in
    let low : nat_lt b.seq a.seq ≡ true = is.0 0 b (omega arith) (omega arith) in
    let other : (b.seq == a.seq) ≡ false = grind (arith, nat_tests, low) in
    let turned : (a.client == b.client) ≡ true = grind (arith, nat_tests, o.0) in
    let not_less : nat_lt a.seq b.seq ≡ false = grind (arith, nat_tests, low) in
    let rest : noted_for a.client a.seq notes ≡ None = rw (o.0, other) at new in
    rw (by_number a b turned, not_less)
    (ap (λ (l : List Answered). b ∷ l) (put_in a notes place o.1 rest (place_after a.seq b notes place is) (omega arith)))

-- the greatest number stands last
abbrev pub ends_at_most : ℕ → Option Answered → Bool
ends_at_most floor None = true
ends_at_most floor (Some a) = nat_le a.seq floor

pub up_to : (floor : ℕ) (notes : List Answered) → rises is_lower notes ≡ true
    → list_all (λ (a : Answered). nat_le a.seq floor) notes ≡ ends_at_most floor (slice_get notes (length notes - 1))
up_to floor [] rising = refl
up_to floor (a ∷ []) rising = and_true (nat_le a.seq floor)
up_to floor (a ∷ b ∷ notes) rising =
    let r = and_parts (list_all (is_lower a) (b ∷ notes)) (rises is_lower (b ∷ notes)) rising in
    let less = (and_parts (is_lower a b) (list_all (is_lower a) notes) r.0).0 in
    let long : length (a ∷ b ∷ notes) - 1 ≡ suc (length (b ∷ notes) - 1) = omega arith in
    rw long (lower (nat_le b.seq floor) (list_all (λ (x : Answered). nat_le x.seq floor) notes) less refl ∙ up_to floor (b ∷ notes) r.1)
  where
    lower : (t rest : Bool) → nat_lt a.seq b.seq ≡ true → nat_le b.seq floor ≡ t
        → (nat_le a.seq floor && (t && rest)) ≡ (t && rest)
    lower true rest less e = (let all : nat_le a.seq floor ≡ true = grind (arith, nat_tests, less, e) in rw all refl)
    lower false rest less e = and_false (nat_le a.seq floor)

-- no answer is left of those up to a floor
pub none_left : (floor : ℕ) (notes : List Answered) → list_all (λ (a : Answered). nat_le a.seq floor) notes ≡ true
    → above floor notes ≡ []
none_left floor [] all = refl
none_left floor (a ∷ notes) all =
    let p = and_parts (nat_le a.seq floor) (list_all (λ (x : Answered). nat_le x.seq floor) notes) all in
    let first = p.0 in
    let gone : nat_lt floor a.seq ≡ false = grind (arith, nat_tests, first) in
    rw gone (none_left floor notes p.1)

-- an answer to a number above all others stands last
pub at_end : (a : Answered) (notes : List Answered) → are_of a.client notes ≡ true
    → noted_for a.client a.seq notes ≡ None → list_all (λ (x : Answered). nat_le x.seq a.seq) notes ≡ true
    → notes ++ a ∷ [] ≡ with_note a notes
at_end a [] own new all = refl
at_end a (b ∷ notes) own new all =
    let o = and_parts (b.client == a.client) (are_of a.client notes) own in
    let p = and_parts (nat_le b.seq a.seq) (list_all (λ (x : Answered). nat_le x.seq a.seq) notes) all in
    let most = p.0 in
    let turned : (a.client == b.client) ≡ true = grind (arith, nat_tests, o.0) in
    let behind : nat_lt a.seq b.seq ≡ false = grind (arith, nat_tests, most) in
    rw (by_number a b turned, behind)
    (ap (λ (l : List Answered). b ∷ l) (at_end a notes o.1 (rest (cases_Bool (b.seq == a.seq)) o.0 new) p.1))
  where
    rest : ((b.seq == a.seq) ≡ true) ⊎ ((b.seq == a.seq) ≡ false) → (b.client == a.client) ≡ true
        → noted_for a.client a.seq (b ∷ notes) ≡ None → noted_for a.client a.seq notes ≡ None
    rest (inl e) s new = (let never : Some b ≡ None = rw (s, e) at new in cc)
    rest (inr e) s new = rw (s, e) at new
