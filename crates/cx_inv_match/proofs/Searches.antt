-- What the tests and searches of a leader's rows find.
use Rattle.cx_inv_run.proofs.Common.{◌≡◌, ℕ, zero, suc, ◌+◌, ◌<◌, ◌≤◌, true, false, cond, not, map, ◌⊎◌, List, [], ◌∷◌, ◌++◌, length}
use Rattle.cx_inv_run.proofs.Common.{Option, Some, None, inl, inr, ap, sym, subst, ◌∙◌, refl, arith, ◌==◌, nat_lt, true≢false, cond_both}
use Rattle.cx_inv_run.proofs.Common.{Cluster, Placed, Value, Round, Shape, is_in, numbers, is_before, no_round, same_round, Entry, Vote}
use Rattle.cx_inv_run.proofs.Common.{member_at, column_whole, with_mark, MatchAnswer, Promised, same_number, number_itself, is_counted}
use Rattle.cx_inv_run.proofs.Common.{greatest_watermark, entries_told, live_entries, rows_whole, entry, has_round, Member, promised_by}
use Rattle.cx_inv_run.proofs.Common.{votes_told, greatest_cw, end_told, greater_vote, best_vote, placed_from, Member-cases, Member-first}
use Rattle.cx_inv_run.proofs.Common.{Member-second, Member-map, Member-filter, filter-Member, any-Member, Member-any, none-Member}
use Rattle.cx_inv_run.proofs.Common.{all-Member, Member-is_in, column-Member, once_count, before-not, itself-not_before, at_most-trans}
use Rattle.cx_inv_run.proofs.Common.{same_round-true, same_round-itself}
use Rattle.cx_inv_match.specs.Prelude.{AreOnce, answering_matchmakers, how_many}
use Rattle.cx_grid.specs.Quorum.{row_whole}
use Rattle.cx_inv_run.proofs.Quorums.{row-Member}

differ_number : (i j : ℕ) → (i == j) ≡ false → i ≡ j → ⊥
differ_number i j f e = true≢false (sym (subst (λ k. (i == k) ≡ true) e (number_itself i)) ∙ f)

-- the matchmakers that answered

-- who is counted has reported
pub told_by-counted : (m : ℕ) (told : List MatchAnswer) → Member m (answering_matchmakers told) → is_counted m told ≡ true
told_by-counted m [] k = absurd k
told_by-counted m (a ∷ told) (inl e) =
    Member-any (λ (x : MatchAnswer). x.matchmaker == m) a (a ∷ told) (inl refl) (subst (λ n. (n == m) ≡ true) e (number_itself m))
told_by-counted m (a ∷ told) (inr k) = let r = any-Member (λ (x : MatchAnswer). x.matchmaker == m) told (told_by-counted m told k) in
    Member-any (λ (x : MatchAnswer). x.matchmaker == m) r.0 (a ∷ told) (inr r.1) r.2

pub told_member : (m : ℕ) (told : List MatchAnswer) → Member m (answering_matchmakers told)
    → (a : MatchAnswer) × Member a told × (m ≡ a.matchmaker)
told_member m [] k = absurd k
told_member m (a ∷ told) (inl e) = (a, inl refl, e)
told_member m (a ∷ told) (inr k) = let r = told_member m told k in (r.0, inr r.1, r.2)

pub told_more : (told : List MatchAnswer) (a : MatchAnswer) (m : ℕ) → Member m (answering_matchmakers (told ++ a ∷ []))
    → Member m (answering_matchmakers told) ⊎ (m ≡ a.matchmaker)
told_more [] a m (inl e) = inr e
told_more [] a m (inr k) = absurd k
told_more (x ∷ told) a m (inl e) = inl (inl e)
told_more (x ∷ told) a m (inr k) = elim (told_more told a m k) [ inl p ↦ inl (inr p) | inr q ↦ inr q ]

-- one more that wasn't counted
pub once_more : (told : List MatchAnswer) (a : MatchAnswer) → (Member a.matchmaker (answering_matchmakers told) → ⊥)
    → AreOnce (answering_matchmakers told) → AreOnce (answering_matchmakers (told ++ a ∷ []))
once_more [] a new once = (λ m. m, tt)
once_more (x ∷ told) a new once = (
  λ m. elim (told_more told a x.matchmaker m) [ inl p ↦ once.0 p | inr q ↦ new (inl (sym q)) ],
  once_more told a (λ m. new (inr m)) once.1,
)

told_length : (told : List MatchAnswer) → length (answering_matchmakers told) ≡ length told
told_length [] = refl
told_length (a ∷ told) = let e = told_length told in omega arith

-- as many members of a set have answered as answers were counted
pub told_count : (c : Cluster) (set : List ℕ) (told : List MatchAnswer) → AreOnce (answering_matchmakers told)
    → ((m : ℕ) → Member m (answering_matchmakers told) → Member m set)
    → c.f < length told → c.f < how_many set (λ m. is_in m (answering_matchmakers told))
told_count c set told once known enough =
    let l = once_count AreOnce (λ m ms o. o) (λ m. is_in m (answering_matchmakers told)) (answering_matchmakers told) set once known
    (λ m k. Member-is_in m (answering_matchmakers told) k) in
    let e = told_length told in
    omega arith

-- what they report

pub not_there : (i : Round) (es : List Entry) (e : Entry) → has_round i es ≡ false → Member e es → e.round ≡ i → ⊥
not_there i es e f m p =
    let no = none-Member (λ (x : Entry). same_round x.round i) es f e m in
    true≢false (sym (subst (λ y. same_round e.round y ≡ true) p (same_round-itself e.round)) ∙ no)

pub there : (i : Round) (es : List Entry) → has_round i es ≡ true → (g : Shape) × Member (entry i g) es
there i es t =
    let r = any-Member (λ (x : Entry). same_round x.round i) es t in
    (r.0.grid, subst (λ y. Member (entry y r.0.grid) es) (same_round-true r.0.round i r.2) r.1)

pub entries_by : (told : List MatchAnswer) (e : Entry) → Member e (entries_told told)
    → (a : MatchAnswer) × Member a told × Member e a.entries
entries_by [] e m = absurd m
entries_by (a ∷ told) e m = elim (Member-cases e a.entries (entries_told told) m) [
  | inl k ↦ (a, inl refl, k)
  | inr k ↦ (let r = entries_by told e k in (r.0, inr r.1, r.2))
]

pub all_told : (told : List MatchAnswer) (a : MatchAnswer) (e : Entry) → Member a told → Member e a.entries → Member e (entries_told told)
all_told [] a e m k = absurd m
all_told (x ∷ told) a e (inl p) k = Member-first e x.entries (entries_told told) (subst (λ (y : MatchAnswer). Member e y.entries) p k)
all_told (x ∷ told) a e (inr m) k = Member-second e x.entries (entries_told told) (all_told told a e m k)

pub live_from : (told : List MatchAnswer) (e : Entry) → Member e (live_entries told)
    → (a : MatchAnswer) × Member a told × Member e a.entries
live_from told e m =
    entries_by told e (Member-filter (λ (x : Entry). not (is_before x.round (greatest_watermark told))) e (entries_told told) m).0

pub live_has : (told : List MatchAnswer) (a : MatchAnswer) (e : Entry) → is_before e.round (greatest_watermark told) ≡ false → Member a told
    → Member e a.entries → Member e (live_entries told)
live_has told a e l m k = filter-Member (λ (x : Entry). not (is_before x.round (greatest_watermark told))) e (entries_told told)
    (all_told told a e m k) (ap not l)

-- no counted watermark is above the greatest
pub top_above : (told : List MatchAnswer) (a : MatchAnswer) → Member a told → is_before (greatest_watermark told) a.watermark ≡ false
top_above [] a m = absurd m
top_above (x ∷ told) a (inl p) =
    cond_both (is_before x.watermark (greatest_watermark told)) (greatest_watermark told) x.watermark (λ w. is_before w a.watermark ≡ false)
    (λ e. subst (λ (y : MatchAnswer). is_before (greatest_watermark told) y.watermark ≡ false) (sym p)
    (before-not x.watermark (greatest_watermark told) e))
    (λ e. subst (λ (y : MatchAnswer). is_before x.watermark y.watermark ≡ false) (sym p) (itself-not_before x.watermark))
top_above (x ∷ told) a (inr m) =
    cond_both (is_before x.watermark (greatest_watermark told)) (greatest_watermark told) x.watermark (λ w. is_before w a.watermark ≡ false)
    (λ e. top_above told a m)
    (λ e. at_most-trans a.watermark (greatest_watermark told) x.watermark (top_above told a m) e)

-- the greatest is none, or was counted
pub top_told : (told : List MatchAnswer)
    → (greatest_watermark told ≡ no_round) ⊎ ((a : MatchAnswer) × Member a told × (greatest_watermark told ≡ a.watermark))
top_told [] = inl refl
top_told (x ∷ told) =
    cond_both (is_before x.watermark (greatest_watermark told)) (greatest_watermark told) x.watermark
    (λ w. (w ≡ no_round) ⊎ ((a : MatchAnswer) × Member a (x ∷ told) × (w ≡ a.watermark)))
    (λ e. elim (top_told told) [ inl p ↦ inl p | inr r ↦ inr (r.0, inr r.1, r.2) ])
    (λ e. inr (x, inl refl, refl))

-- the acceptors that promised

pub promised_member : (id : ℕ) (promises : List Promised) → Member id (promised_by promises)
    → (p : Promised) × Member p promises × (id ≡ p.acceptor)
promised_member id promises m = Member-map (λ (p : Promised). p.acceptor) id promises m

pub cw_above : (low : ℕ) (promises : List Promised) (p : Promised) → Member p promises → p.cw ≤ greatest_cw low promises
cw_above low [] p m = absurd m
cw_above low (x ∷ promises) p (inl q) = let r : p.cw ≡ x.cw = ap (λ (y : Promised). y.cw) q in omega arith
cw_above low (x ∷ promises) p (inr m) = let r = cw_above low promises p m in omega arith

pub votes_from : (promises : List Promised) (u : Vote) → Member u (votes_told promises)
    → (p : Promised) × Member p promises × Member u p.votes
votes_from [] u m = absurd m
votes_from (p ∷ promises) u m = elim (Member-cases u p.votes (votes_told promises) m) [
  | inl k ↦ (p, inl refl, k)
  | inr k ↦ (let r = votes_from promises u k in (r.0, inr r.1, r.2))
]

pub votes_has : (promises : List Promised) (p : Promised) (u : Vote) → Member p promises → Member u p.votes → Member u (votes_told promises)
votes_has [] p u m k = absurd m
votes_has (x ∷ promises) p u (inl e) k = Member-first u x.votes (votes_told promises) (subst (λ (y : Promised). Member u y.votes) e k)
votes_has (x ∷ promises) p u (inr m) k = Member-second u x.votes (votes_told promises) (votes_has promises p u m k)

-- the best vote at a slot is one of the votes, at that slot, and none there is of a greater round
pub record IsGreatest (s : ℕ) (votes : List Vote) (u : Vote) : Type 0 where
  pub member : Member u votes
  pub slot : u.slot ≡ s
  pub greatest : (v : Vote) → Member v votes → v.slot ≡ s → is_before u.round v.round ≡ false

abbrev pub Greatest : ℕ → List Vote → Option Vote → Type 0
Greatest s votes None = (v : Vote) → Member v votes → v.slot ≡ s → ⊥
Greatest s votes (Some u) = IsGreatest s votes u

greatest_more : (s : ℕ) (v : Vote) (votes : List Vote) (o : Option Vote) → v.slot ≡ s → Greatest s votes o
    → IsGreatest s (v ∷ votes) (greater_vote v o)
greatest_more s v votes None e h = record {
  member = inl refl;
  slot = e;
  greatest = λ w m p. elim m [
    | inl q ↦ subst (λ (y : Vote). is_before v.round y.round ≡ false) (sym q) (itself-not_before v.round)
    | inr k ↦ absurd (h w k p)
  ];
}
greatest_more s v votes (Some u) e h =
    cond_both (is_before v.round u.round) u v (λ x. IsGreatest s (v ∷ votes) x)
    (λ t. record {
      member = inr h.member;
      slot = h.slot;
      greatest = λ w m p. elim m [
        | inl q ↦ subst (λ (y : Vote). is_before u.round y.round ≡ false) (sym q) (before-not v.round u.round t)
        | inr k ↦ h.greatest w k p
      ];
    })
    (λ t. record {
      member = inl refl;
      slot = e;
      greatest = λ w m p. elim m [
        | inl q ↦ subst (λ (y : Vote). is_before v.round y.round ≡ false) (sym q) (itself-not_before v.round)
        | inr k ↦ at_most-trans w.round u.round v.round (h.greatest w k p) t
      ];
    })

greatest_same : (s : ℕ) (v : Vote) (votes : List Vote) (o : Option Vote) → (v.slot ≡ s → ⊥) → Greatest s votes o → Greatest s (v ∷ votes) o
greatest_same s v votes None d h = λ w m p. elim m [ inl q ↦ d (ap (λ (y : Vote). y.slot) (sym q) ∙ p) | inr k ↦ h w k p ]
greatest_same s v votes (Some u) d h = record {
  member = inr h.member;
  slot = h.slot;
  greatest = λ w m p. elim m [ inl q ↦ absurd (d (ap (λ (y : Vote). y.slot) (sym q) ∙ p)) | inr k ↦ h.greatest w k p ];
}

pub best_is_greatest : (s : ℕ) (votes : List Vote) → Greatest s votes (best_vote s votes)
best_is_greatest s [] = λ v m p. m
best_is_greatest s (v ∷ votes) =
    cond_both (v.slot == s) (Some (greater_vote v (best_vote s votes))) (best_vote s votes) (λ o. Greatest s (v ∷ votes) o)
    (λ t. greatest_more s v votes (best_vote s votes) (same_number v.slot s t) (best_is_greatest s votes))
    (λ t. greatest_same s v votes (best_vote s votes) (differ_number v.slot s t) (best_is_greatest s votes))

-- the plan

pub end_above : (low : ℕ) (votes : List Vote) (v : Vote) → Member v votes → v.slot < end_told low votes
end_above low [] v m = absurd m
end_above low (x ∷ votes) v (inl p) = let q : v.slot ≡ x.slot = ap (λ (y : Vote). y.slot) p in omega arith
end_above low (x ∷ votes) v (inr m) = let q = end_above low votes v m in omega arith

pub end_at_least : (low : ℕ) (votes : List Vote) → low ≤ end_told low votes
end_at_least low [] = omega arith
end_at_least low (x ∷ votes) = let q = end_at_least low votes in omega arith

-- a planned proposal is of a slot from the watermark on, below the end, and has the value for that slot
pub placed_at : (value : ℕ → Value) (first count : ℕ) (p : Placed) → Member p (placed_from first (map value (numbers first count)))
    → (first ≤ p.slot) × (p.slot < first + count) × (p.value ≡ value p.slot)
placed_at value first zero p m = absurd m
placed_at value first (suc count) p (inl e) =
    let s : p.slot ≡ first = ap (λ (y : Placed). y.slot) e in
    (omega arith, omega arith, ap (λ (y : Placed). y.value) e ∙ ap value (sym s))
placed_at value first (suc count) p (inr m) =
    let r = placed_at value (first + 1) count p m in
    (let l = r.0 in omega arith, let l = r.1 in omega arith, r.2)

-- rows and columns

pub record IsRowOf (g : Shape) (marks : List ℕ) : Type 0 where
  pub row : ℕ
  pub in_grid : row < g.rows
  pub whole : (b : ℕ) → b < g.cols → Member (member_at g row b) marks

pub whole_row : (g : Shape) (marks : List ℕ) → row_whole g marks ≡ true → IsRowOf g marks
whole_row g marks t = let r = row-Member g marks t in record { row = r.0; in_grid = r.1; whole = r.3 }

pub record IsColumnOf (g : Shape) (marks : List ℕ) : Type 0 where
  pub column : ℕ
  pub in_grid : column < g.cols
  pub some_row : 0 < g.rows
  pub whole : (a : ℕ) → a < g.rows → Member (member_at g a column) marks

pub whole_column : (g : Shape) (marks : List ℕ) → column_whole g marks ≡ true → IsColumnOf g marks
whole_column g marks t = let r = column-Member g marks t in record { column = r.0; in_grid = r.1; some_row = r.2; whole = r.3 }

pub rows_whole-row : (es : List Entry) (marks : List ℕ) (e : Entry) → rows_whole es marks ≡ true → Member e es → IsRowOf e.grid marks
rows_whole-row es marks e t m = whole_row e.grid marks (all-Member (λ (x : Entry). row_whole x.grid marks) es t e m)

pub mark-cases : (n a : ℕ) (marks : List ℕ) → Member n (with_mark a marks) → (n ≡ a) ⊎ Member n marks
mark-cases n a [] m = m
mark-cases n a (x ∷ marks) m = cond_both (a == x) (x ∷ marks) (cond (nat_lt a x) (a ∷ x ∷ marks) (x ∷ with_mark a marks))
    (λ xs. Member n xs → (n ≡ a) ⊎ Member n (x ∷ marks)) (λ e k. inr k)
    (λ e. cond_both (nat_lt a x) (a ∷ x ∷ marks) (x ∷ with_mark a marks) (λ xs. Member n xs → (n ≡ a) ⊎ Member n (x ∷ marks))
    (λ f k. k)
    (λ f k. elim k [ inl p ↦ inr (inl p) | inr q ↦ elim (mark-cases n a marks q) [ inl p ↦ inl p | inr r ↦ inr (inr r) ] ])) m
