-- Enough matchmakers are asked, and answer.
use Rattle.cx_inv_run.proofs.Common.{◌≡◌, ℕ, suc, true, false, List, [], ◌∷◌, ◌++◌, map, Some, None, ap, sym, ◌∙◌, subst, refl, inl, inr}
use Rattle.cx_inv_run.proofs.Common.{arith, and_parts, nat_tests, list_all, list_any, ◌+◌, ◌==◌, Bool, ◌||◌, nat_lt, length, Cluster}
use Rattle.cx_inv_run.proofs.Common.{RoleId, Round, Shape, is_in, role, is_before, same_round, Entry, Letter, MatchAnswer, LeaderVolatile}
use Rattle.cx_inv_run.proofs.Common.{leader_row, leader_rules, match_a_to, matched_by, number_itself, same_role-itself, enough, is_counted}
use Rattle.cx_inv_run.proofs.Common.{live_entries, MatchmakerDurable, matchmaker_row, matchmaker_rules, entries_before, entry, has_round}
use Rattle.cx_inv_run.proofs.Common.{Member, names_entry, names_grid, only_word, World, durable_other, state_other, state_own, Member-first}
use Rattle.cx_inv_run.proofs.Common.{Member-second, Member-all, all-Member, filter-older, none-Member, LeaderIn, Plain, durable_of}
use Rattle.cx_base.specs.declared.role.Kind.TheVariants as kind
use Rattle.cx_base.specs.declared.why.Why.TheVariants as why
use Rattle.cx_letter.specs.declared.input.Input.TheVariants as input
use Rattle.cx_letter.specs.declared.kept.Record.TheVariants as kept
use Rattle.cx_model.specs.Matchmaker.{match_b_to}
use Rattle.cx_inv_alive.proofs.Moments.{Moment, Goes, moved, Left, left_moved, left_kept, to_leader, to_matchmaker, left_then}
use Rattle.cx_inv_alive.proofs.Stages.{is_of, is_role, Apart, lead_round, begun_over, matching, goes_on_with, CanMatch, match_answer_of}

-- ROUNDS

pub not_above : (l r : ℕ) (j : Round) → nat_lt j.r r ≡ true → is_before (lead_round l r) j ≡ false
not_above l r j h = grind (arith, nat_tests, h)

pub not_same : (l r : ℕ) (j : Round) → nat_lt j.r r ≡ true → same_round (lead_round l r) j ≡ false
not_same l r j h = grind (arith, nat_tests, h)

not_same_back : (l r : ℕ) (j : Round) → nat_lt j.r r ≡ true → same_round j (lead_round l r) ≡ false
not_same_back l r j h = grind (arith, nat_tests, h)

none_later : (l r : ℕ) (es : List Entry) → list_all (λ (e : Entry). nat_lt e.round.r r) es ≡ true
    → list_any (λ (e : Entry). is_before (lead_round l r) e.round) es ≡ false
none_later l r [] all = refl
none_later l r (e ∷ es) all =
    let parts = and_parts (nat_lt e.round.r r) (list_all (λ (x : Entry). nat_lt x.round.r r) es) all in
    rw (not_above l r e.round parts.0) (none_later l r es parts.1)

none_same : (l r : ℕ) (es : List Entry) → list_all (λ (e : Entry). nat_lt e.round.r r) es ≡ true → has_round (lead_round l r) es ≡ false
none_same l r [] all = refl
none_same l r (e ∷ es) all =
    let parts = and_parts (nat_lt e.round.r r) (list_all (λ (x : Entry). nat_lt x.round.r r) es) all in
    rw (not_same_back l r e.round parts.0) (none_same l r es parts.1)

-- ROWS

row_match : (c : Cluster) (l r m : ℕ) (g : Shape) (d : MatchmakerDurable) → nat_lt l c.leaders ≡ true → nat_lt m c.pool ≡ true
    → names_grid c g ≡ true → CanMatch c m r g d
    → matchmaker_row c (role kind.Matchmaker m) d tt (input.Take (match_a_to (role kind.Leader l) (lead_round l r) g m))
    ≡ record {
      why = why.Matched;
      kept = Some (kept.Match (lead_round l r) g);
      volatile = tt {0};
      sends = match_b_to (role kind.Matchmaker m) (role kind.Leader l) (lead_round l r) d ∷ [];
    }
row_match c l r m g d led there named can = rw (
  led,
  there,
  named,
  same_role-itself (role kind.Matchmaker m),
  can.member,
  can.works,
  not_above l r d.watermark can.watermark,
  none_later l r d.entries can.lower,
  none_same l r d.entries can.lower,
  can.room,
) refl

module _ (c : Cluster) (l r m : ℕ) (g : Shape) (v : LeaderVolatile) (d : MatchmakerDurable) (told : List MatchAnswer)
    (led : nat_lt l c.leaders ≡ true) (there : nat_lt m c.pool ≡ true) (can : CanMatch c m r g d) (knows : is_in m v.set ≡ true)
    (new : is_counted m told ≡ false) where
  abbrev more : List MatchAnswer
  more = told ++ match_answer_of (lead_round l r) d m ∷ []

  named_before : list_all (λ (e : Entry). names_entry c e) (entries_before (lead_round l r) d.entries) ≡ true
  named_before =
      Member-all (λ (e : Entry). names_entry c e) (entries_before (lead_round l r) d.entries)
      (λ e m. all-Member (λ (e : Entry). names_entry c e) d.entries can.named_entries e
      (filter-older (λ (e : Entry). is_before e.round (lead_round l r)) e d.entries m))

  row_counted : nat_lt (length more) (enough c) ≡ true → leader_row c (role kind.Leader l) (begun_over l r g) (matching v told)
      (input.Take (match_b_to (role kind.Matchmaker m) (role kind.Leader l) (lead_round l r) d)) ≡ only_word why.Counted (matching v more)
  row_counted h =
      rw (led, there, can.named_watermark, named_before, same_role-itself (role kind.Leader l), number_itself r, knows, new, h) refl

  row_enough : nat_lt (length more) (enough c) ≡ false → leader_row c (role kind.Leader l) (begun_over l r g) (matching v told)
      (input.Take (match_b_to (role kind.Matchmaker m) (role kind.Leader l) (lead_round l r) d)) ≡ goes_on_with c l r g v more
  row_enough h =
      rw (led, there, can.named_watermark, named_before, same_role-itself (role kind.Leader l), number_itself r, knows, new, h) refl

-- LISTS

one_longer : (xs : List MatchAnswer) (x : MatchAnswer) → length (xs ++ x ∷ []) ≡ length xs + 1
one_longer [] x = refl
one_longer (y ∷ xs) x = let e = one_longer xs x in omega (arith, e)

pub append_one : {X : Type 0} (xs : List X) (x : X) (ys : List X) → (xs ++ x ∷ []) ++ ys ≡ xs ++ x ∷ ys
append_one [] x ys = refl
append_one (y ∷ xs) x ys = ap (λ l. y ∷ l) (append_one xs x ys)

counted_more : (k : ℕ) (a : MatchAnswer) (told : List MatchAnswer) → is_counted k told ≡ false → (a.matchmaker == k) ≡ false
    → is_counted k (told ++ a ∷ []) ≡ false
counted_more k a [] none h = rw h refl
counted_more k a (t ∷ told) none h = go (t.matchmaker == k) (λ n. counted_more k a told n h) none
  where
    go : (b : Bool) → (is_counted k told ≡ false → is_counted k (told ++ a ∷ []) ≡ false) → (b || is_counted k told) ≡ false
        → (b || is_counted k (told ++ a ∷ [])) ≡ false
    go true f n = cc
    go false f n = f n

pub other_way : (k m : ℕ) → (k == m) ≡ false → (m == k) ≡ false
other_way k m h = grind (arith, nat_tests, h)

not_yet : (a b n e : ℕ) → a ≡ b + 1 → b + suc (suc n) ≡ e → nat_lt a e ≡ true
not_yet a b n e h k = grind (arith, nat_tests, h, k)

next_count : (a b n e : ℕ) → a ≡ b + 1 → b + suc (suc n) ≡ e → a + suc n ≡ e
next_count a b n e h k = omega (arith, h, k)

just_enough : (a b e : ℕ) → a ≡ b + 1 → b + 1 ≡ e → nat_lt a e ≡ false
just_enough a b e h k = grind (arith, nat_tests, h, k)

quiet_with : (c : Cluster) (a : RoleId) (e : Entry) (v : LeaderVolatile) (es : List Entry) → (matched_by c a e v es).kept ≡ None
quiet_with c a e v [] = refl
quiet_with c a e v (x ∷ xs) = refl

quiet : (c : Cluster) (l r : ℕ) (g : Shape) (v : LeaderVolatile) (told : List MatchAnswer) → (goes_on_with c l r g v told).kept ≡ None
quiet c l r g v told = quiet_with c (role kind.Leader l) (entry (lead_round l r) g) (matching v told) (live_entries told)

-- THE STAGE

module _ (goal : World → Type 0) (c : Cluster) (l r : ℕ) (g : Shape) (v : LeaderVolatile) (d0 : ℕ → MatchmakerDurable)
    (led : nat_lt l c.leaders ≡ true) (named : names_grid c g ≡ true) where
  abbrev me : RoleId
  me = role kind.Leader l

  abbrev i : Round
  i = lead_round l r

  abbrev tells : ℕ → MatchAnswer
  tells m = match_answer_of i (d0 m) m

  pub record Ready (told : List MatchAnswer) (m : ℕ) (x : Moment) : Type 0 where
    pub runs : x.states (role kind.Matchmaker m) ≡ Plain
    pub store : durable_of matchmaker_rules (role kind.Matchmaker m) x.kept ≡ d0 m
    pub asked : Member (match_a_to me i g m) x.sent
    pub there : nat_lt m c.pool ≡ true
    pub knows : is_in m v.set ≡ true
    pub new : is_counted m told ≡ false
    pub can : CanMatch c m r g (d0 m)

  pub record IsMatched (told : List MatchAnswer) (x : Moment) : Type 0 where
    pub runs : x.states me ≡ LeaderIn (goes_on_with c l r g v told).volatile
    pub sends : (d : Letter) → Member d (goes_on_with c l r g v told).sends → Member d x.sent

  abbrev Rest : Moment → List MatchAnswer → Type 0
  Rest x told = (y : Moment) → Left (is_of kind.Matchmaker) (is_role me) x y → IsMatched told y → Goes goal c y

  abbrev ask : ℕ → Letter
  ask m = match_a_to me i g m

  abbrev reply : ℕ → Letter
  reply m = match_b_to (role kind.Matchmaker m) me i (d0 m)

  -- the matchmaker has answered
  abbrev asked_at : ℕ → Moment → Moment
  asked_at m x = moved (role kind.Matchmaker m) Plain (Some (kept.Match i g)) (reply m ∷ []) x

  own_after : (m : ℕ) (x : Moment) → durable_of leader_rules me x.kept ≡ begun_over l r g
      → durable_of leader_rules me (asked_at m x).kept ≡ begun_over l r g
  own_after m x own = durable_other leader_rules (role kind.Matchmaker m) me (kept.Match i g) x.kept refl ∙ own

  left_two : (m : ℕ) (x : Moment) (s : LeaderVolatile) (sends : List Letter) → x.states (role kind.Matchmaker m) ≡ Plain
      → Left (is_of kind.Matchmaker) (is_role me) x (moved me (LeaderIn s) None sends (asked_at m x))
  left_two m x s sends runs =
      left_then (is_of kind.Matchmaker) (is_role me) x (asked_at m x) (moved me (LeaderIn s) None sends (asked_at m x))
      (left_kept (is_of kind.Matchmaker) (is_role me) (role kind.Matchmaker m) Plain (kept.Match i g) (reply m ∷ []) x refl runs)
      (left_moved (is_of kind.Matchmaker) (is_role me) me (LeaderIn s) sends (asked_at m x) (same_role-itself me))

  pub matched : (ms : List ℕ) (m : ℕ) (told : List MatchAnswer) (x : Moment) → length told + suc (length ms) ≡ enough c → Apart (m ∷ ms)
      → x.states me ≡ LeaderIn (matching v told) → durable_of leader_rules me x.kept ≡ begun_over l r g
      → ((k : ℕ) → Member k (m ∷ ms) → Ready told k x)
      → Rest x (told ++ map tells (m ∷ ms))
      → Goes goal c x
  matched [] m told x count once runs own ready rest =
      let now = ready m (inl refl) in
      let y = asked_at m x in
      let o = goes_on_with c l r g v (told ++ tells m ∷ []) in
      let z = moved me (LeaderIn o.volatile) None o.sends y in
      to_matchmaker goal c x m (ask m) now.asked _ refl now.runs
      (ap (λ d. matchmaker_row c (role kind.Matchmaker m) d tt (input.Take (ask m))) now.store ∙ row_match c l r m g (d0 m) led now.there
      named now.can) (to_leader goal c y l (reply m) (Member-second _ x.sent (reply m ∷ []) (inl refl)) (matching v told) o refl
      (state_other (role kind.Matchmaker m) me Plain x.states refl ∙ runs)
      (ap (λ d. leader_row c me d (matching v told) (input.Take (reply m))) (own_after m x own)
      ∙ row_enough c l r m g v (d0 m) told led now.there now.can now.knows now.new
      (just_enough (length (told ++ tells m ∷ [])) (length told) (enough c) (one_longer told (tells m)) count))
      (subst (λ k. Goes goal c (moved me (LeaderIn o.volatile) k o.sends y)) (sym (quiet c l r g v (told ++ tells m ∷ [])))
      (rest z (left_two m x o.volatile o.sends now.runs)
      (record { runs = state_own me (LeaderIn o.volatile) y.states; sends = λ d m. Member-second d y.sent o.sends m }))))
  matched (k ∷ ms) m told x count once runs own ready rest =
      let now = ready m (inl refl) in
      let y = asked_at m x in
      let more = told ++ tells m ∷ [] in
      let z = moved me (LeaderIn (matching v more)) None [] y in
      to_matchmaker goal c x m (ask m) now.asked _ refl now.runs
      (ap (λ d. matchmaker_row c (role kind.Matchmaker m) d tt (input.Take (ask m))) now.store
      ∙ row_match c l r m g (d0 m) led now.there named now.can)
      (to_leader goal c y l (reply m) (Member-second _ x.sent (reply m ∷ []) (inl refl)) (matching v told)
      (only_word why.Counted (matching v more)) refl (state_other (role kind.Matchmaker m) me Plain x.states refl ∙ runs)
      (ap (λ d. leader_row c me d (matching v told) (input.Take (reply m))) (own_after m x own)
      ∙ row_counted c l r m g v (d0 m) told led now.there now.can now.knows now.new
      (not_yet (length more) (length told) (length ms) (enough c) (one_longer told (tells m)) count))
      (matched ms k more z (next_count (length more) (length told) (length ms) (enough c) (one_longer told (tells m)) count) once.1
      (state_own me (LeaderIn (matching v more)) y.states) (own_after m x own)
      (λ j there.
      let b = ready j (inr there) in
      let differs : (j == m) ≡ false = none-Member (λ q. q == m) (k ∷ ms) once.0 j there in
      record {
        runs = state_other me (role kind.Matchmaker j) (LeaderIn (matching v more)) y.states refl
            ∙ state_other (role kind.Matchmaker m) (role kind.Matchmaker j) Plain x.states differs ∙ b.runs;
        store = durable_other matchmaker_rules (role kind.Matchmaker m) (role kind.Matchmaker j) (kept.Match i g) x.kept differs ∙ b.store;
        asked = Member-first (ask j) y.sent [] (Member-first (ask j) x.sent (reply m ∷ []) b.asked);
        there = b.there;
        knows = b.knows;
        new = counted_more j (tells m) told b.new (other_way j m differs);
        can = b.can;
      })
      (λ u left fin.
      rest u (left_then (is_of kind.Matchmaker) (is_role me) x z u (left_two m x (matching v more) [] now.runs) left)
      (subst (λ t. IsMatched t u) (append_one told (tells m) (map tells (k ∷ ms))) fin))))
