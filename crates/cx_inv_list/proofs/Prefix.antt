-- The chosen prefix: each of its values is chosen, it is the longest such list, and it grows with the history.
use Rattle.std.proofs.lemmas.Bool.{not_from_false, not_from_true, ne_eqb}
use Rattle.cx_model.specs.Prelude.{Acceptor, chosen_vote, first_chosen, chosen_at, prefix_from}
use Rattle.cx_inv_run.proofs.Common.{◌≡◌, ◌⊎◌, ℕ, zero, suc, ◌+◌, ◌<◌, ◌≤◌, Bool, true, false, not, ◌&&◌, List, [], ◌∷◌, ◌++◌, length}
use Rattle.cx_inv_run.proofs.Common.{filter, inl, inr, ap, sym, subst, ◌∙◌, ⊎_elim, refl, arith, ◌==◌, slice_get, Option, None, Some}
use Rattle.cx_inv_run.proofs.Common.{and_parts, and_from, both_ways, eq-eqb, same_Some, Value, Round, before_following, role, member_at}
use Rattle.cx_inv_run.proofs.Common.{KeptRecord, Written, is_chosen, chosen_prefix, Member, Begins, either_way, by_test, Member-first}
use Rattle.cx_inv_run.proofs.Common.{filter-Member, entry_by}
use Rattle.cx_letter.specs.declared.input.Written.TheVariants as written
use Rattle.cx_letter.specs.declared.kept.Record.TheVariants as kept
use Rattle.cx_inv_list.proofs.Right.{get_there}
use Rattle.cx_inv_vote.proofs.Chosen.{chosen-true, true-chosen}

-- a vote for a value in a slot, in some round with some watermark
abbrev pub IsVoteFor : ℕ → Value → Written → Type 0
IsVoteFor s v what = (i : Round) × (cw : ℕ) × (what ≡ written.Record (kept.Vote i s cw v))

abbrev HasVoteFor : List KeptRecord → ℕ → Value → Type 0
HasVoteFor history s v = (k : KeptRecord) × Member k history × IsVoteFor s v k.what

-- what is chosen was voted for
pub chosen_voted : (history : List KeptRecord) (s : ℕ) (v : Value) → is_chosen history s v ≡ true → HasVoteFor history s v
chosen_voted history s v h =
    let x = chosen-true history s v h in
    let i = x.0 in
    let y = x.1 in
    let vote = y.voted 0 y.some_row in
    (entry_by (role Acceptor (member_at y.grid 0 y.column)) (kept.Vote i s vote.0 v), vote.1, (i, vote.0, refl))

-- the first chosen value of a slot

module _ (history : List KeptRecord) (s : ℕ) where
  vote_true : (v : Value) (what : Written) (later : Option Value) → chosen_vote history s what later ≡ Some v
      → (is_chosen history s v ≡ true) ⊎ (later ≡ Some v)
  vote_true v (written.Record (kept.Vote j t cw u)) later h =
      by_test (λ o. o ≡ Some v → (is_chosen history s v ≡ true) ⊎ (later ≡ Some v)) ((t == s) && is_chosen history s u) (Some u) later
      (λ e q. inl (subst (λ x. is_chosen history s x ≡ true) (same_Some u v q) (and_parts (t == s) (is_chosen history s u) e).1))
      (λ e q. inr q) h
  vote_true v other later h = inr h

  first_true : (v : Value) (ks : List KeptRecord) → first_chosen history s ks ≡ Some v → is_chosen history s v ≡ true
  first_true v [] h = cc
  first_true v (k ∷ ks) h = ⊎_elim (λ t. t) (first_true v ks) (vote_true v k.what (first_chosen history s ks) h)

  abbrev IsSome : Option Value → Type 0
  IsSome o = (u : Value) × (o ≡ Some u)

  later_some : (what : Written) (later : Option Value) → IsSome later → IsSome (chosen_vote history s what later)
  later_some (written.Record (kept.Vote j t cw u)) later h =
      by_test IsSome ((t == s) && is_chosen history s u) (Some u) later (λ e. (u, refl)) (λ e. h)
  later_some other later h = h

  vote_some : (i : Round) (cw : ℕ) (v : Value) (later : Option Value) → is_chosen history s v ≡ true
      → IsSome (chosen_vote history s (written.Record (kept.Vote i s cw v)) later)
  vote_some i cw v later h =
      by_test IsSome ((s == s) && is_chosen history s v) (Some v) later (λ e. (v, refl))
      (λ e. absurd (both_ways ((s == s) && is_chosen history s v) e (and_from (s == s) (is_chosen history s v) (eq-eqb s s refl) h)))

  first_some : (v : Value) → is_chosen history s v ≡ true → (ks : List KeptRecord) (k : KeptRecord) → Member k ks → IsVoteFor s v k.what
      → IsSome (first_chosen history s ks)
  first_some v h [] k m is = absurd m
  first_some v h (x ∷ ks) k (inl e) is =
      subst (λ what. IsSome (chosen_vote history s what (first_chosen history s ks))) (sym is.2 ∙ ap (λ (y : KeptRecord). y.what) e)
      (vote_some is.0 is.1 v (first_chosen history s ks) h)
  first_some v h (x ∷ ks) k (inr m) is = later_some x.what (first_chosen history s ks) (first_some v h ks k m is)

  pub chosen_at-true : (v : Value) → chosen_at history s ≡ Some v → is_chosen history s v ≡ true
  chosen_at-true v h = first_true v history h

  pub chosen_at-some : (v : Value) → is_chosen history s v ≡ true → IsSome (chosen_at history s)
  chosen_at-some v h = let k = chosen_voted history s v h in first_some v h history k.0 k.1 k.2

-- a slot that has a vote has a record of its own

abbrev is_at : ℕ → Written → Bool
is_at s (written.Record (kept.Vote j t cw v)) = t == s
is_at s other = false

at_true : (s : ℕ) (v : Value) (what : Written) → IsVoteFor s v what → is_at s what ≡ true
at_true s v what is = subst (λ x. is_at s x ≡ true) (sym is.2) (eq-eqb s s refl)

at_other : (s t : ℕ) (v : Value) (what : Written) → (s ≡ t → ⊥) → IsVoteFor s v what → is_at t what ≡ false
at_other s t v what d is = subst (λ x. is_at t x ≡ false) (sym is.2) (ne_eqb s t d)

filter_one : (p : KeptRecord → Bool) (x : KeptRecord) (xs : List KeptRecord) → length (filter p (x ∷ xs)) ≤ suc (length (filter p xs))
filter_one p x xs = either_way (λ (ys : List KeptRecord). length ys ≤ suc (length (filter p xs))) (p x) (x ∷ filter p xs) (filter p xs)
    (omega arith) (omega arith)

filter_within : (p : KeptRecord → Bool) (xs : List KeptRecord) → length (filter p xs) ≤ length xs
filter_within p [] = omega arith
filter_within p (x ∷ xs) = let l = filter_one p x xs in let k = filter_within p xs in omega arith

filter_out : (p : KeptRecord → Bool) (x : KeptRecord) (xs : List KeptRecord) → p x ≡ false
    → length (filter p (x ∷ xs)) ≤ length (filter p xs)
filter_out p x xs e = rw e (omega arith)

filter_short : (p : KeptRecord → Bool) (k : KeptRecord) (xs : List KeptRecord) → Member k xs → p k ≡ false
    → length (filter p xs) < length xs
filter_short p k [] m e = absurd m
filter_short p k (x ∷ xs) (inl q) e = let l = filter_out p x xs (subst (λ y. p y ≡ false) q e) in let n = filter_within p xs in omega arith
filter_short p k (x ∷ xs) (inr m) e = let l = filter_one p x xs in let n = filter_short p k xs m e in omega arith

-- so there are no more slots with votes, from slot 0 on, than records
enough_records : (n : ℕ) (history : List KeptRecord) → ((s : ℕ) → s < n → (v : Value) × HasVoteFor history s v) → n ≤ length history
enough_records zero history h = omega arith
enough_records (suc n) history h =
    let last = h n (omega arith) in
    let fewer : length (filter (λ (k : KeptRecord). not (is_at n k.what)) history) < length history =
    filter_short (λ (k : KeptRecord). not (is_at n k.what)) (last.1).0 history (last.1).1
    (not_from_true (is_at n ((last.1).0).what) (at_true n last.0 ((last.1).0).what (last.1).2)) in
    let rest : n ≤ length (filter (λ (k : KeptRecord). not (is_at n k.what)) history) = enough_records n
    (filter (λ (k : KeptRecord). not (is_at n k.what)) history) (λ s l. let one = h s (omega arith) in (one.0, still s l one.0 one.1)) in
    omega arith
  where
    still : (s : ℕ) → s < n → (v : Value) → HasVoteFor history s v
        → HasVoteFor (filter (λ (k : KeptRecord). not (is_at n k.what)) history) s v
    still s l v (k, m, is) = (
      k,
      filter-Member (λ (x : KeptRecord). not (is_at n x.what)) k history m
          (not_from_false (is_at n k.what) (at_other s n v k.what (λ e. omega (arith, e, l)) is)),
      is,
    )

-- the prefix

module _ (history : List KeptRecord) where
  following_at : (o : Option Value) (later : List Value) (i : ℕ) (v : Value) → slice_get (before_following o later) (suc i) ≡ Some v
      → slice_get later i ≡ Some v
  following_at None later i v h = cc
  following_at (Some u) later i v h = h

  following_first : (o : Option Value) (later : List Value) (v : Value) → slice_get (before_following o later) zero ≡ Some v → o ≡ Some v
  following_first None later v h = cc
  following_first (Some u) later v h = h

  from_chosen : (most s i : ℕ) (v : Value) → slice_get (prefix_from history s most) i ≡ Some v → chosen_at history (s + i) ≡ Some v
  from_chosen zero s i v h = cc
  from_chosen (suc most) s zero v h =
      subst (λ n. chosen_at history n ≡ Some v) (omega arith) (following_first (chosen_at history s) (prefix_from history (s + 1) most) v h)
  from_chosen (suc most) s (suc i) v h =
      subst (λ n. chosen_at history n ≡ Some v) (omega arith)
      (from_chosen most (s + 1) i v (following_at (chosen_at history s) (prefix_from history (s + 1) most) i v h))

  pub prefix_chosen : (s : ℕ) (v : Value) → slice_get (chosen_prefix history) s ≡ Some v → is_chosen history s v ≡ true
  prefix_chosen s v h =
      chosen_at-true history s v (subst (λ n. chosen_at history n ≡ Some v) (omega arith) (from_chosen (length history) 0 s v h))

  begins_more : (o : Option Value) (v : Value) (vs later : List Value) → o ≡ Some v → Begins vs later
      → Begins (v ∷ vs) (before_following o later)
  begins_more o v vs later e b = (b.0, rw e (ap (λ xs. v ∷ xs) b.1))

  from_longest : (vs : List Value) (s most : ℕ) → ((i : ℕ) (v : Value) → slice_get vs i ≡ Some v → chosen_at history (s + i) ≡ Some v)
      → length vs ≤ most → Begins vs (prefix_from history s most)
  from_longest [] s most h l = (prefix_from history s most, refl)
  from_longest (v ∷ vs) s zero h l = absurd (omega arith)
  from_longest (v ∷ vs) s (suc most) h l =
      begins_more (chosen_at history s) v vs (prefix_from history (s + 1) most)
      (subst (λ n. chosen_at history n ≡ Some v) (omega arith) (h zero v refl))
      (from_longest vs (s + 1) most (λ i u e. subst (λ n. chosen_at history n ≡ Some u) (omega arith) (h (suc i) u e)) (omega arith))

  module _ (once : (s : ℕ) (v w : Value) → is_chosen history s v ≡ true → is_chosen history s w ≡ true → v ≡ w) where
    chosen_at-is : (s : ℕ) (v : Value) → is_chosen history s v ≡ true → chosen_at history s ≡ Some v
    chosen_at-is s v h =
        let x = chosen_at-some history s v h in
        x.1 ∙ ap (λ u. Some u) (once s x.0 v (chosen_at-true history s x.0 x.1) h)

    -- a list of chosen values begins it
    pub prefix_longest : (vs : List Value) → ((s : ℕ) (v : Value) → slice_get vs s ≡ Some v → is_chosen history s v ≡ true)
        → Begins vs (chosen_prefix history)
    prefix_longest vs h =
        from_longest vs 0 (length history) (λ i v e. subst (λ n. chosen_at history n ≡ Some v) (omega arith) (chosen_at-is i v (h i v e)))
        (enough_records (length vs) history (λ s l. let x = get_there vs s l in (x.0, chosen_voted history s x.0 (h s x.0 x.1))))

-- what is chosen stays chosen
pub still_chosen : (history more : List KeptRecord) (s : ℕ) (v : Value) → is_chosen history s v ≡ true
    → is_chosen (history ++ more) s v ≡ true
still_chosen history more s v h =
    let x = chosen-true history s v h in
    let y = x.1 in
    true-chosen (history ++ more) s v (
      x.0,
      record {
        grid = y.grid;
        config = ((y.config).0, Member-first _ history more (y.config).1);
        column = y.column;
        in_grid = y.in_grid;
        some_row = y.some_row;
        voted = λ a l. let vote = y.voted a l in (vote.0, Member-first _ history more vote.1);
      },
    )
