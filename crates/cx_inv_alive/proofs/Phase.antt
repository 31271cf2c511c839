-- The members of all live grids are asked, one after the other, until each of these grids has a whole row.
use Rattle.cx_inv_run.proofs.Common.{◌≡◌, ◌≤◌, ◌<◌, ℕ, zero, suc, true, false, List, [], ◌∷◌, ◌++◌, Some, None, ap, sym, ◌∙◌, subst, refl}
use Rattle.cx_inv_run.proofs.Common.{inl, inr, arith, and_from, nat_tests, list_all, list_any, ◌+◌, ◌*◌, ◌==◌, Bool, ◌||◌, filter, nat_lt}
use Rattle.cx_inv_run.proofs.Common.{length, slice_index_or, Cluster, RoleId, Round, IsGrid, Shape, is_in, below, numbers, role, Entry}
use Rattle.cx_inv_run.proofs.Common.{Vote, member_at, Letter, AcceptorDurable, acceptor_row, acceptor_rules, MatchAnswer, Promised}
use Rattle.cx_inv_run.proofs.Common.{LeaderVolatile, leader_row, leader_rules, phase1a_to, bool_cases, number_itself, same_number}
use Rattle.cx_inv_run.proofs.Common.{same_role-itself, is_member_of, live_entries, members_of, rows_whole, Member, names_grid, names_vote}
use Rattle.cx_inv_run.proofs.Common.{only_word, has_promised, promised_by, World, durable_other, durable_own, state_other, state_own}
use Rattle.cx_inv_run.proofs.Common.{Member-first, Member-second, Member-both, Member-one, Member-all, Member-any, Member-below}
use Rattle.cx_inv_run.proofs.Common.{Member-is_in, Member-map, all-Member, below-Member, filter-Member, filter-older, is_in-Member}
use Rattle.cx_inv_run.proofs.Common.{none-Member, LeaderIn, Plain, durable_of}
use Rattle.cx_base.specs.declared.role.Kind.TheVariants as kind
use Rattle.cx_base.specs.declared.why.Why.TheVariants as why
use Rattle.cx_grid.specs.Quorum.{is_whole, row_of, row_whole}
use Rattle.cx_letter.specs.declared.input.Input.TheVariants as input
use Rattle.cx_letter.specs.declared.kept.Record.TheVariants as kept
use Rattle.cx_model.specs.Acceptor.{phase1b_to}
use Rattle.cx_inv_run.proofs.Quorums.{row-Member}
use Rattle.cx_inv_alive.proofs.Matched.{not_above, not_same, append_one, other_way}
use Rattle.cx_inv_alive.proofs.Moments.{Moment, Goes, moved, Left, left_then, left_moved, left_kept, to_leader, to_acceptor}
use Rattle.cx_inv_alive.proofs.Stages.{is_of, is_role, Apart, lead_round, begun_over, phasing, finishes, reported_by, MayHavePromised}

-- NUMBERS THAT ARE THERE ONCE

not_there : (n : ℕ) (ms : List ℕ) → (Member n ms → ⊥) → is_in n ms ≡ false
not_there n ms h = elim (bool_cases (is_in n ms)) [ inl t ↦ absurd (h (is_in-Member n ms t)) | inr f ↦ f ]

too_low : (first count n : ℕ) → n < first → Member n (numbers first count) → ⊥
too_low first zero n l m = absurd m
too_low first (suc count) n l (inl e) = omega (arith, l, e)
too_low first (suc count) n l (inr m) = too_low (first + 1) count n (omega (arith, l)) m

pub apart_numbers : (first count : ℕ) → Apart (numbers first count)
apart_numbers first zero = tt
apart_numbers first (suc count) =
    (not_there first (numbers (first + 1) count) (too_low (first + 1) count first (omega arith)), apart_numbers (first + 1) count)

apart_if : (p : ℕ → Bool) (b : Bool) (x : ℕ) (xs : List ℕ) → p x ≡ b → is_in x xs ≡ false → Apart (filter p xs) → Apart (filter p (x ∷ xs))
apart_if p true x xs e none once =
    rw e (not_there x (filter p xs) (λ m. not_in x xs none (filter-older p x xs m)), once)
  where
    not_in : (n : ℕ) (ms : List ℕ) → is_in n ms ≡ false → Member n ms → ⊥
    not_in n ms f m = let t = Member-is_in n ms m in cc
apart_if p false x xs e none once = rw e once

pub apart_filter : (p : ℕ → Bool) (xs : List ℕ) → Apart xs → Apart (filter p xs)
apart_filter p [] once = tt
apart_filter p (x ∷ xs) once = apart_if p (p x) x xs refl once.0 (apart_filter p xs once.1)

pub apart_below : (p : ℕ → Bool) (n : ℕ) → Apart (filter p (below n))
apart_below p n = apart_filter p (below n) (apart_numbers 0 n)

-- WHOLE ROWS

at_place : (ms : List ℕ) (i : ℕ) → i < length ms → Member (slice_index_or ms i 0) ms
at_place [] i l = absurd (none i l)
  where
    none : (i : ℕ) → i < 0 → ⊥
    none i l = omega (arith, l)
at_place (m ∷ ms) zero l = inl refl
at_place (m ∷ ms) (suc i) l = inr (at_place ms i (omega (arith, l)))

inside : (rows cols b : ℕ) → 1 ≤ rows → b < cols → 0 * cols + b < rows * cols
inside zero cols b h l = omega (arith, h)
inside (suc rows) cols b h l = omega (arith, l)

positive : (n : ℕ) → 1 ≤ n → nat_lt 0 n ≡ true
positive n h = grind (arith, nat_tests, h)

at_least_one : (n : ℕ) → 1 ≤ n → 0 < n
at_least_one n h = omega (arith, h)

pub less : (a b : ℕ) → nat_lt a b ≡ true → a < b
less a b h = grind (arith, nat_tests, h)

pub less_test : (a b : ℕ) → a < b → nat_lt a b ≡ true
less_test a b h = grind (arith, nat_tests, h)

-- a grid whose members are all marked has a whole row
pub row_of_all : (g : Shape) (marks : List ℕ) → IsGrid g → ((m : ℕ) → Member m g.members → Member m marks) → row_whole g marks ≡ true
row_of_all g marks grid all =
    and_from (nat_lt 0 g.cols) (list_any (λ a. is_whole (row_of g a) marks) (below g.rows)) (positive g.cols grid.some_col)
    (Member-any (λ a. is_whole (row_of g a) marks) 0 (below g.rows) (Member-below 0 g.rows (at_least_one g.rows grid.some_row))
    (Member-all (λ id. is_in id marks) (row_of g 0)
    (λ id m.
    let b = Member-map (λ k. member_at g 0 k) id (below g.cols) m in
    Member-is_in id marks
    (all id (subst (λ n. Member n g.members) (sym b.2) (at_place g.members (0 * g.cols + b.0)
    (subst (λ n. 0 * g.cols + b.0 < n) (sym grid.count) (inside g.rows g.cols b.0 grid.some_row (below-Member b.0 g.cols b.1)))))))))

pub rows_of_members : (c : Cluster) (es : List Entry) → ((e : Entry) → Member e es → IsGrid e.grid × (names_grid c e.grid ≡ true))
    → rows_whole es (members_of c es) ≡ true
rows_of_members c es grids =
    Member-all (λ (e : Entry). row_whole e.grid (members_of c es)) es
    (λ e there.
    row_of_all e.grid (members_of c es) ((grids e there).0)
    (λ m in_it.
    filter-Member (λ a. is_member_of es a) m (below c.acceptors)
    (Member-below m c.acceptors (less m c.acceptors (all-Member (λ id. nat_lt id c.acceptors) e.grid.members ((grids e there).1) m in_it)))
    (Member-any (λ (e : Entry). is_in m e.grid.members) e es there (Member-is_in m e.grid.members in_it))))

-- LISTS OF PROMISES

promised_more : (ps : List Promised) (p : Promised) → promised_by (ps ++ p ∷ []) ≡ promised_by ps ++ p.acceptor ∷ []
promised_more [] p = refl
promised_more (q ∷ ps) p = ap (λ l. q.acceptor ∷ l) (promised_more ps p)

new_more : (k : ℕ) (p : Promised) (ps : List Promised) → has_promised k ps ≡ false → (p.acceptor == k) ≡ false
    → has_promised k (ps ++ p ∷ []) ≡ false
new_more k p [] none h = rw h refl
new_more k p (t ∷ ps) none h = go (t.acceptor == k) (λ n. new_more k p ps n h) none
  where
    go : (b : Bool) → (has_promised k ps ≡ false → has_promised k (ps ++ p ∷ []) ≡ false) → (b || has_promised k ps) ≡ false
        → (b || has_promised k (ps ++ p ∷ [])) ≡ false
    go true f n = cc
    go false f n = f n

-- ROWS

row_phase1a : (c : Cluster) (l r a : ℕ) (d : AcceptorDurable) → nat_lt l c.leaders ≡ true → nat_lt a c.acceptors ≡ true
    → nat_lt d.promise.r r ≡ true
    → acceptor_row c (role kind.Acceptor a) d tt (input.Take (phase1a_to (role kind.Leader l) (lead_round l r) a))
    ≡ record {
      why = why.Promised;
      kept = Some (kept.Promise (lead_round l r));
      volatile = tt {0};
      sends = phase1b_to (role kind.Acceptor a) (role kind.Leader l) (lead_round l r) d ∷ [];
    }
row_phase1a c l r a d led there h =
    rw (led, there, same_role-itself (role kind.Acceptor a), not_above l r d.promise h, not_same l r d.promise h) refl

module _ (c : Cluster) (l r a : ℕ) (g : Shape) (v : LeaderVolatile) (told : List MatchAnswer) (d : AcceptorDurable) (ps : List Promised)
    (led : nat_lt l c.leaders ≡ true) (there : nat_lt a c.acceptors ≡ true) (named : list_all (λ (x : Vote). names_vote c x) d.votes ≡ true)
    (member : is_member_of (live_entries told) a ≡ true) (new : has_promised a ps ≡ false) where
  row_whole_now : rows_whole (live_entries told) (promised_by (ps ++ reported_by d a ∷ [])) ≡ true → leader_row c (role kind.Leader l)
      (begun_over l r g) (phasing v told ps) (input.Take (phase1b_to (role kind.Acceptor a) (role kind.Leader l) (lead_round l r) d))
      ≡ finishes c l r g v told (ps ++ reported_by d a ∷ [])
  row_whole_now h = rw (led, there, named, same_role-itself (role kind.Leader l), number_itself r, member, new, h) refl

  row_not_yet : rows_whole (live_entries told) (promised_by (ps ++ reported_by d a ∷ [])) ≡ false → leader_row c (role kind.Leader l)
      (begun_over l r g) (phasing v told ps) (input.Take (phase1b_to (role kind.Acceptor a) (role kind.Leader l) (lead_round l r) d))
      ≡ only_word why.Counted (phasing v told (ps ++ reported_by d a ∷ []))
  row_not_yet h = rw (led, there, named, same_role-itself (role kind.Leader l), number_itself r, member, new, h) refl

-- THE STAGE

module _ (goal : World → Type 0) (c : Cluster) (l r : ℕ) (g : Shape) (v : LeaderVolatile) (told : List MatchAnswer)
    (d0 : ℕ → AcceptorDurable)
    (led : nat_lt l c.leaders ≡ true)
    (grids : (e : Entry) → Member e (live_entries told) → IsGrid e.grid × (names_grid c e.grid ≡ true)) where
  abbrev me : RoleId
  me = role kind.Leader l

  abbrev i : Round
  i = lead_round l r

  abbrev live : List Entry
  live = live_entries told

  abbrev keeps : RoleId → Bool
  keeps = is_of kind.Acceptor

  abbrev moves : RoleId → Bool
  moves = is_role me

  pub record Ready (ps : List Promised) (a : ℕ) (x : Moment) : Type 0 where
    pub runs : x.states (role kind.Acceptor a) ≡ Plain
    pub store : durable_of acceptor_rules (role kind.Acceptor a) x.kept ≡ d0 a
    pub asked : Member (phase1a_to me i a) x.sent
    pub there : nat_lt a c.acceptors ≡ true
    pub member : is_member_of live a ≡ true
    pub new : has_promised a ps ≡ false
    pub promised : nat_lt (d0 a).promise.r r ≡ true
    pub named : list_all (λ (x : Vote). names_vote c x) (d0 a).votes ≡ true

  -- what is known of each promise
  abbrev pub Told : List Promised → Type 0
  Told ps = (p : Promised) → Member p ps → (p ≡ reported_by (d0 p.acceptor) p.acceptor) × Member p.acceptor (members_of c live)

  abbrev pub Stores : Moment → Moment → Type 0
  Stores x y = (a : ℕ) → MayHavePromised l r (durable_of acceptor_rules (role kind.Acceptor a) x.kept)
      (durable_of acceptor_rules (role kind.Acceptor a) y.kept)

  pub record IsPromised (ps : List Promised) (x : Moment) : Type 0 where
    pub known : Told ps
    pub runs : x.states me ≡ LeaderIn (finishes c l r g v told ps).volatile
    pub sends : (d : Letter) → Member d (finishes c l r g v told ps).sends → Member d x.sent

  abbrev Rest : Moment → Type 0
  Rest x = (ps : List Promised) (y : Moment) → Left keeps moves x y → Stores x y → IsPromised ps y → Goes goal c y

  abbrev ask : ℕ → Letter
  ask a = phase1a_to me i a

  abbrev reply : ℕ → Letter
  reply a = phase1b_to (role kind.Acceptor a) me i (d0 a)

  abbrev asked_at : ℕ → Moment → Moment
  asked_at a x = moved (role kind.Acceptor a) Plain (Some (kept.Promise i)) (reply a ∷ []) x

  own_after : (a : ℕ) (x : Moment) → durable_of leader_rules me x.kept ≡ begun_over l r g
      → durable_of leader_rules me (asked_at a x).kept ≡ begun_over l r g
  own_after a x own = durable_other leader_rules (role kind.Acceptor a) me (kept.Promise i) x.kept refl ∙ own

  left_two : (a : ℕ) (x : Moment) (s : LeaderVolatile) (sends : List Letter) → x.states (role kind.Acceptor a) ≡ Plain
      → Left keeps moves x (moved me (LeaderIn s) None sends (asked_at a x))
  left_two a x s sends runs =
      left_then keeps moves x (asked_at a x) (moved me (LeaderIn s) None sends (asked_at a x))
      (left_kept keeps moves (role kind.Acceptor a) Plain (kept.Promise i) (reply a ∷ []) x refl runs)
      (left_moved keeps moves me (LeaderIn s) sends (asked_at a x) (same_role-itself me))

  stores_at : (a : ℕ) (x : Moment) → Stores x (asked_at a x)
  stores_at a x b = elim (bool_cases (b == a)) [
    | inl t ↦ subst (λ n. MayHavePromised l r (durable_of acceptor_rules (role kind.Acceptor n) x.kept)
        (durable_of acceptor_rules (role kind.Acceptor n) (asked_at a x).kept))
        (sym (same_number b a t)) (inr (durable_own acceptor_rules (role kind.Acceptor a) (kept.Promise i) x.kept))
    | inr f ↦ inl (durable_other acceptor_rules (role kind.Acceptor a) (role kind.Acceptor b) (kept.Promise i) x.kept f)
  ]

  stores_then : (d e f : AcceptorDurable) → MayHavePromised l r d e → MayHavePromised l r e f → MayHavePromised l r d f
  stores_then d e f (inl p) (inl q) = inl (q ∙ p)
  stores_then d e f (inl p) (inr q) = (let f : AcceptorDurable → AcceptorDurable = λ x. record x { promise = i } in inr (q ∙ ap f p))
  stores_then d e f (inr p) (inl q) = inr (q ∙ p)
  stores_then d e f (inr p) (inr q) = (let f : AcceptorDurable → AcceptorDurable = λ x. record x { promise = i } in inr (q ∙ ap f p))

  told_more : (a : ℕ) (ps : List Promised) → Member a (members_of c live) → Told ps → Told (ps ++ reported_by (d0 a) a ∷ [])
  told_more a ps there known = Member-both (λ p. (p ≡ reported_by (d0 p.acceptor) p.acceptor) × Member p.acceptor (members_of c live)) ps
      (reported_by (d0 a) a ∷ []) known
      (Member-one (λ p. (p ≡ reported_by (d0 p.acceptor) p.acceptor) × Member p.acceptor (members_of c live)) (reported_by (d0 a) a)
      (refl, there))

  -- the last one that is needed
  ends : (a : ℕ) (ps : List Promised) (x : Moment) → x.states me ≡ LeaderIn (phasing v told ps)
      → durable_of leader_rules me x.kept ≡ begun_over l r g
      → Ready ps a x → Told (ps ++ reported_by (d0 a) a ∷ []) → rows_whole live (promised_by (ps ++ reported_by (d0 a) a ∷ [])) ≡ true
      → Rest x → Goes goal c x
  ends a ps x runs own now known whole rest =
      let y = asked_at a x in
      let more = ps ++ reported_by (d0 a) a ∷ [] in
      let o = finishes c l r g v told more in
      let z = moved me (LeaderIn o.volatile) None o.sends y in
      to_acceptor goal c x a (ask a) now.asked _ refl now.runs (ap (λ d. acceptor_row c (role kind.Acceptor a) d tt (input.Take (ask a)))
      now.store ∙ row_phase1a c l r a (d0 a) led now.there now.promised)
      (to_leader goal c y l (reply a) (Member-second _ x.sent (reply a ∷ []) (inl refl)) (phasing v told ps) o refl
      (state_other (role kind.Acceptor a) me Plain x.states refl ∙ runs)
      (ap (λ d. leader_row c me d (phasing v told ps) (input.Take (reply a))) (own_after a x own)
      ∙ row_whole_now c l r a g v told (d0 a) ps led now.there now.named now.member now.new whole)
      (rest more z (left_two a x o.volatile o.sends now.runs) (stores_at a x)
      (record { known = known; runs = state_own me (LeaderIn o.volatile) y.states; sends = λ d m. Member-second d y.sent o.sends m })))

  pub phase : (others : List ℕ) (a : ℕ) (ps : List Promised) (x : Moment) → promised_by ps ++ a ∷ others ≡ members_of c live
      → Apart (a ∷ others) → x.states me ≡ LeaderIn (phasing v told ps) → durable_of leader_rules me x.kept ≡ begun_over l r g
      → ((k : ℕ) → Member k (a ∷ others) → Ready ps k x) → Told ps → Rest x → Goes goal c x
  phase [] a ps x all once runs own ready known rest = ends a ps x runs own (ready a (inl refl))
      (told_more a ps (subst (λ l. Member a l) all (Member-second a (promised_by ps) (a ∷ []) (inl refl))) known)
      (subst (λ l. rows_whole live l ≡ true) (sym (promised_more ps (reported_by (d0 a) a) ∙ all)) (rows_of_members c live grids)) rest
  phase (k ∷ others) a ps x all once runs own ready known rest =
      let now = ready a (inl refl) in
      let more = ps ++ reported_by (d0 a) a ∷ [] in
      let known2 = told_more a ps (subst (λ l. Member a l) all (Member-second a (promised_by ps) (a ∷ k ∷ others) (inl refl))) known in
      let y = asked_at a x in
      let z = moved me (LeaderIn (phasing v told more)) None [] y in
      elim (bool_cases (rows_whole live (promised_by more))) [
        | inl t ↦ ends a ps x runs own now known2 t rest
        | inr f ↦
            to_acceptor goal c x a (ask a) now.asked _ refl now.runs
            (ap (λ d. acceptor_row c (role kind.Acceptor a) d tt (input.Take (ask a))) now.store
            ∙ row_phase1a c l r a (d0 a) led now.there now.promised)
            (to_leader goal c y l (reply a) (Member-second _ x.sent (reply a ∷ []) (inl refl)) (phasing v told ps)
            (only_word why.Counted (phasing v told more)) refl (state_other (role kind.Acceptor a) me Plain x.states refl ∙ runs)
            (ap (λ d. leader_row c me d (phasing v told ps) (input.Take (reply a))) (own_after a x own)
            ∙ row_not_yet c l r a g v told (d0 a) ps led now.there now.named now.member now.new f)
            (phase others k more z
            (ap (λ l. l ++ k ∷ others) (promised_more ps (reported_by (d0 a) a)) ∙ append_one (promised_by ps) a (k ∷ others) ∙ all) once.1
            (state_own me (LeaderIn (phasing v told more)) y.states) (own_after a x own)
            (λ j there.
            let b = ready j (inr there) in
            let differs : (j == a) ≡ false = none-Member (λ q. q == a) (k ∷ others) once.0 j there in
            record {
              runs = state_other me (role kind.Acceptor j) (LeaderIn (phasing v told more)) y.states refl
                  ∙ state_other (role kind.Acceptor a) (role kind.Acceptor j) Plain x.states differs ∙ b.runs;
              store = durable_other acceptor_rules (role kind.Acceptor a) (role kind.Acceptor j) (kept.Promise i) x.kept differs ∙ b.store;
              asked = Member-first (ask j) y.sent [] (Member-first (ask j) x.sent (reply a ∷ []) b.asked);
              there = b.there;
              member = b.member;
              new = new_more j (reported_by (d0 a) a) ps b.new (other_way j a differs);
              promised = b.promised;
              named = b.named;
            })
            known2
            (λ qs u left stores fin.
            rest qs u (left_then keeps moves x z u (left_two a x (phasing v told more) [] now.runs) left)
            (λ b. stores_then _ _ _ (stores_at a x b) (stores b)) fin)))
      ]

  -- all members of the live grids can promise
  pub phase_all : (x : Moment) (some : Entry) → Member some live → x.states me ≡ LeaderIn (phasing v told [])
      → durable_of leader_rules me x.kept ≡ begun_over l r g
      → ((k : ℕ) → Member k (members_of c live) → Ready [] k x) → Rest x → Goes goal c x
  phase_all x some is_some runs own ready rest = go (members_of c live) refl
    where
      go : (who : List ℕ) → members_of c live ≡ who → Goes goal c x
      go [] e =
          let row : row_whole some.grid [] ≡ true = all-Member (λ (x : Entry). row_whole x.grid []) live
          (subst (λ l. rows_whole live l ≡ true) e (rows_of_members c live grids)) some is_some in
          let q = row-Member some.grid [] row in
          absurd (q.3 0 q.2)
      go (a ∷ others) e =
          phase others a [] x (sym e) (subst (λ l. Apart l) e (apart_below (λ a. is_member_of live a) c.acceptors)) runs own
          (λ k there. ready k (subst (λ l. Member k l) (sym e) there)) (λ p m. absurd m) rest
