-- Who was counted, and what the answers report.
use Rattle.std.proofs.Common.{⊎_elim}
use Rattle.std.proofs.lemmas.Bool.{false≢true, or_cases}
use Rattle.std.proofs.lemmas.List.Folds.{list_any-append}
use Rattle.cx_base.proofs.Common.{ap, arith, sym, ◌∙◌, and_parts, ltb-true, leb-true, eqb-true, nat_tests, All-nil, All-cons, All-push}
use Rattle.cx_model.specs.Prelude.{◌≡◌, ◌<◌, ◌+◌, ◌^◌, ℕ, Bool, true, false, ◌==◌, ◌&&◌, ◌||◌, nat_lt, nat_le, List, [], ◌∷◌, ◌++◌, All}
use Rattle.cx_model.specs.Prelude.{IsTrue, refl, list_all, list_any, Shape, is_in, below, row_of, is_whole, with_mark, in_window}
use Rattle.cx_model.specs.Prelude.{vote_in_range, Entry, Vote, is_member_of, rows_whole, promised_by, has_promised, end_told}
use Rattle.cx_field.specs.Fields as field
use Rattle.cx_field.proofs.ListLaws.{votes_apart}
use Rattle.cx_ring.specs.Ring.{RingState, raise_ring}
use Rattle.cx_model.specs.declared.states.Promised.{Promised}
use Rattle.cx_phase1.specs.Best.{slot_of, with_votes}
use Rattle.cx_phase1.specs.Counting.{are_ids}
use Rattle.cx_phase1.specs.Sound.{IsVote, IsPromiseInRange, IsSound}
use Rattle.cx_phase1.proofs.BestLaws.{best_more}

-- ---- members are below 64

-- a value that passes a test, where all pass another
passes_both : {X : Type 0} (p q : X → Bool) (xs : List X) → list_all p xs ≡ true → list_any q xs ≡ true
    → (x : X) × (p x ≡ true) × (q x ≡ true)
passes_both p q [] all some = absurd (false≢true some)
passes_both p q (x ∷ xs) all some =
    let a = and_parts (p x) (list_all p xs) all in
    ⊎_elim (λ here. (x, a.0, here)) (λ later. passes_both p q xs a.1 later) (or_cases (q x) (list_any q xs) some)

pub member_below_64 : (live : List Entry) (a : ℕ) → are_ids live ≡ true → is_member_of live a ≡ true → a < 64
member_below_64 live a low is =
    let e = passes_both (λ (e : Entry). list_all (λ id. nat_lt id 64) e.grid.members) (λ (e : Entry). is_in a e.grid.members) live low is in
    let id = passes_both (λ id. nat_lt id 64) (λ id. id == a) e.0.grid.members e.1 e.2 in
    omega (arith, ltb-true id.0 64 id.1, eqb-true id.0 a id.2)

-- ---- who is marked

is_in-mark_by : (id n m : ℕ) (ms : List ℕ) (same less : Bool) → (n == m) ≡ same → nat_lt n m ≡ less
    → is_in id (with_mark n ms) ≡ ((n == id) || is_in id ms) → is_in id (with_mark n (m ∷ ms)) ≡ ((n == id) || is_in id (m ∷ ms))
is_in-mark_by id n m ms same less e l rest = grind (arith, nat_tests)

pub is_in-with_mark : (id n : ℕ) (ms : List ℕ) → is_in id (with_mark n ms) ≡ ((n == id) || is_in id ms)
is_in-with_mark id n [] = refl
is_in-with_mark id n (m ∷ ms) = is_in-mark_by id n m ms _ _ refl refl (is_in-with_mark id n ms)

turned : (a b : Bool) → (a || b) ≡ (b || (a || false))
turned true true = refl
turned true false = refl
turned false true = refl
turned false false = refl

-- one more is counted
pub marked_more : (marks : List ℕ) (promises : List Promised) (p : Promised) → ((id : ℕ) → is_in id marks ≡ has_promised id promises)
    → (id : ℕ) → is_in id (with_mark p.acceptor marks) ≡ has_promised id (promises ++ p ∷ [])
marked_more marks promises p is id =
    let one : list_any (λ (x : Promised). x.acceptor == id) (promises ++ p ∷ []) ≡ (has_promised id promises
    || ((p.acceptor == id) || false)) = list_any-append (λ (x : Promised). x.acceptor == id) promises (p ∷ []) in
    is_in-with_mark id p.acceptor marks ∙ ap (λ (b : Bool). (p.acceptor == id) || b) (is id)
    ∙ turned (p.acceptor == id) (has_promised id promises) ∙ sym one

-- ---- whole rows depend on who is marked alone

whole-same : (ids a b : List ℕ) → ((id : ℕ) → is_in id a ≡ is_in id b) → is_whole ids a ≡ is_whole ids b
whole-same [] a b same = refl
whole-same (id ∷ ids) a b same = rw (same id, whole-same ids a b same) refl

row-same : (g : Shape) (rows a b : List ℕ) → ((id : ℕ) → is_in id a ≡ is_in id b)
    → list_any (λ r. is_whole (row_of g r) a) rows ≡ list_any (λ r. is_whole (row_of g r) b) rows
row-same g [] a b same = refl
row-same g (r ∷ rows) a b same = rw (whole-same (row_of g r) a b same, row-same g rows a b same) refl

rows-same : (es : List Entry) (a b : List ℕ) → ((id : ℕ) → is_in id a ≡ is_in id b) → rows_whole es a ≡ rows_whole es b
rows-same [] a b same = refl
rows-same (e ∷ es) a b same = rw (row-same e.grid (below e.grid.rows) a b same, rows-same es a b same) refl

is_in-promised : (id : ℕ) (promises : List Promised) → has_promised id promises ≡ is_in id (promised_by promises)
is_in-promised id [] = refl
is_in-promised id (p ∷ promises) = ap (λ (b : Bool). (p.acceptor == id) || b) (is_in-promised id promises)

pub rows-marked : (es : List Entry) (marks : List ℕ) (promises : List Promised) → ((id : ℕ) → is_in id marks ≡ has_promised id promises)
    → rows_whole es marks ≡ rows_whole es (promised_by promises)
rows-marked es marks promises is = rows-same es marks (promised_by promises) (λ id. is id ∙ is_in-promised id promises)

-- ---- what the answers report

in_range : (cw : ℕ) (v : Vote) → vote_in_range cw v ≡ true → IsVote cw v
unfolding field.slot
in_range cw v h =
    let a = and_parts (field.round.fits v.round) (field.slot.fits v.slot && in_window cw v.slot && field.value.fits v.value) h in
    let b = and_parts (field.slot.fits v.slot && in_window cw v.slot) (field.value.fits v.value) a.1 in
    let d = and_parts (field.slot.fits v.slot) (in_window cw v.slot) b.0 in
    record {
      high = ltb-true v.slot (cw + 32) (and_parts (nat_le cw v.slot) (nat_lt v.slot (cw + 32)) d.1).1;
      end = ltb-true v.slot (2 ^ 40) (and_parts _ (nat_lt v.slot (2 ^ 40)) d.0).1;
      value = b.1;
    }

are_in_range : (cw : ℕ) (vs : List Vote) → list_all (λ v. vote_in_range cw v) vs ≡ true → All (IsVote cw) vs
are_in_range cw [] h = All-nil (IsVote cw)
are_in_range cw (v ∷ vs) h =
    let p = and_parts (vote_in_range cw v) (list_all (λ x. vote_in_range cw x) vs) h in
    All-cons (IsVote cw) v vs (in_range cw v p.0) (are_in_range cw vs p.1)

pub promise_told : (p : Promised) → IsTrue (field.mark.fits p.cw) → IsTrue ((field.votes p.cw).fits p.votes) → IsPromiseInRange p
unfolding field.mark
promise_told p cw votes = record {
  cw = leb-true p.cw (2 ^ 40) (and_parts _ (nat_le p.cw (2 ^ 40)) cw).1;
  votes = are_in_range p.cw p.votes (votes_apart p.cw p.votes votes).1;
}

-- ---- one more answer is counted

pub sound_more : (live : List Entry) (promises : List Promised) (marks : List ℕ) (best : RingState Vote) (end : ℕ) (p : Promised)
    → IsSound live promises marks best end → IsPromiseInRange p
    → IsSound live (promises ++ p ∷ []) (with_mark p.acceptor marks)
    (with_votes p.votes (raise_ring slot_of p.cw (record best { room = true }))) (end_told end p.votes)
sound_more live promises marks best end p is told = record {
  ids = is.ids;
  marked = marked_more marks promises p is.marked;
  told = All-push IsPromiseInRange promises p is.told told;
  best =
      best_more promises p (record best { room = true }) end (record { first = is.best.first; votes = is.best.votes; end = is.best.end });
}
