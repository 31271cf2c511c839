-- The stages one after the other: from replicas that hold the same, through a new round of leader 0, to the answer.
use Rattle.cx_base.proofs.Common.{is_none, grid_fault}
use Rattle.cx_inv_run.proofs.Common.{◌≡◌, ◌⊎◌, ℕ, zero, suc, true, false, List, [], ◌∷◌, map, ap, ◌∙◌, refl, inl, inr, arith, Some}
use Rattle.cx_inv_run.proofs.Common.{nat_tests, list_all, ◌+◌, ◌-◌, ◌==◌, Bool, max, nat_le, nat_lt, length, take, Cluster, Lead, RoleId}
use Rattle.cx_inv_run.proofs.Common.{Round, Shape, is_in, role, Entry, Vote, not_collecting, Matching, Promised, LeaderDurable}
use Rattle.cx_inv_run.proofs.Common.{LeaderVolatile, leader_rules, match_a_to, round_of, leader_row, bool_cases, same_role-itself}
use Rattle.cx_inv_run.proofs.Common.{entries_told, live_entries, MatchmakerDurable, entries_before, Member, names_grid, Outcome}
use Rattle.cx_inv_run.proofs.Common.{greatest_cw, votes_told, World, durable_own, state_own, Member-cases, Member-second, Member-all}
use Rattle.cx_inv_run.proofs.Common.{all-Member, filter-older, is_in-Member, map-Member, Member-is_in, LeaderIn, durable_of}
use Rattle.cx_base.specs.declared.role.Kind.TheVariants as kind
use Rattle.cx_base.specs.declared.why.Why.TheVariants as why
use Rattle.cx_letter.specs.declared.input.Input.TheVariants as input
use Rattle.cx_letter.specs.declared.kept.Record.TheVariants as kept
use Rattle.cx_inv_alive.proofs.Moments.{Moment, Goes, moved, Left, left_then, left_both, to_order}
use Rattle.cx_inv_alive.proofs.Stages.{is_role, Apart, lead_round, begun_over, match_answer_of}

-- ORDERS

not_last : (a n r : ℕ) → a + suc n ≡ r → nat_le r 4294967295 ≡ true → (a == 4294967295) ≡ false
not_last a n r e le = grind (arith, nat_tests, e, le)

abbrev pub asking : LeaderVolatile → LeaderVolatile
asking v = record v { mode = Matching; told = []; promises = []; collection = not_collecting }

abbrev begun : ℕ → ℕ → Shape → LeaderVolatile → Outcome LeaderVolatile
begun l n g v =
    record {
      why = why.Started;
      kept = Some (kept.Round (lead_round l n) g);
      volatile = asking v;
      sends = map (match_a_to (role kind.Leader l) (lead_round l n) g) v.set;
    }

row_lead : (c : Cluster) (l : ℕ) (g : Shape) (d : LeaderDurable) (v : LeaderVolatile) → names_grid c g ≡ true
    → (max (round_of d.own).r v.seen.r == 4294967295) ≡ false
    → leader_row c (role kind.Leader l) d v (input.Order (Lead g)) ≡ begun l (max (round_of d.own).r v.seen.r + 1) g v
row_lead c l g d v named h = rw (named, h) refl

one_up : (a b n r : ℕ) → max a b + suc (suc n) ≡ r → max (max a b + 1) b + suc n ≡ r
one_up a b n r e = grind (arith, e)

steps_up : (a b r : ℕ) → nat_lt a r ≡ true → nat_lt b r ≡ true → max a b + suc (r - (max a b + 1)) ≡ r
steps_up a b r h k = grind (arith, nat_tests, h, k)

module _ (goal : World → Type 0) (c : Cluster) (l r : ℕ) (g : Shape) (named : names_grid c g ≡ true)
    (real : is_none (grid_fault g.rows g.cols g.members) ≡ true) (most : nat_le r 4294967295 ≡ true) where
  abbrev me : RoleId
  me = role kind.Leader l

  abbrev own_r : Moment → ℕ
  own_r x = (round_of (durable_of leader_rules me x.kept).own).r

  abbrev Asked : Moment → LeaderVolatile → Type 0
  Asked x v = (y : Moment) → Left (is_role me) (is_role me) x y → y.states me ≡ LeaderIn (asking v) → durable_of leader_rules me y.kept
      ≡ begun_over l r g → ((m : ℕ) → Member m v.set → Member (match_a_to me (lead_round l r) g m) y.sent) → Goes goal c y

  one_order : (x : Moment) (v : LeaderVolatile) (n : ℕ) → x.states me ≡ LeaderIn v → max (own_r x) v.seen.r + 1 ≡ n
      → (max (own_r x) v.seen.r == 4294967295) ≡ false
      → ((y : Moment) → Left (is_role me) (is_role me) x y → y.states me ≡ LeaderIn (asking v) → durable_of leader_rules me y.kept
      ≡ begun_over l n g → ((m : ℕ) → Member m v.set → Member (match_a_to me (lead_round l n) g m) y.sent) → Goes goal c y) → Goes goal c x
  one_order x v n runs is room rest =
      let o = begun l n g v in
      let d = durable_of leader_rules me x.kept in
      to_order goal c x l (Lead g) real v o runs (row_lead c l g d v named room ∙ ap (λ k. begun l k g v) is)
      (rest (moved me (LeaderIn (asking v)) o.kept o.sends x) (left_both (is_role me) (is_role me) me (LeaderIn (asking v))
      (kept.Round (lead_round l n) g) o.sends x (same_role-itself me) (same_role-itself me))
      (state_own me (LeaderIn (asking v)) x.states) (durable_own leader_rules me (kept.Round (lead_round l n) g) x.kept)
      (λ m there. Member-second _ x.sent o.sends (map-Member (match_a_to me (lead_round l n) g) m v.set there)))

  orders : (n : ℕ) (x : Moment) (v : LeaderVolatile) → x.states me ≡ LeaderIn v → max (own_r x) v.seen.r + suc n ≡ r → Asked x v
      → Goes goal c x
  orders zero x v runs sum rest = one_order x v r runs sum (not_last (max (own_r x) v.seen.r) zero r sum most) rest
  orders (suc n) x v runs sum rest =
      let now = max (own_r x) v.seen.r + 1 in
      one_order x v now runs refl (not_last (max (own_r x) v.seen.r) (suc n) r sum most)
      (λ y left is own asked.
      orders n y (asking v) is (ap (λ (d : LeaderDurable). max (round_of d.own).r v.seen.r + suc n) own ∙ one_up (own_r x) v.seen.r n r sum)
      (λ z left2 is2 own2 asked2. rest z (left_then (is_role me) (is_role me) x y z left left2) is2 own2 asked2))

  pub round_asked : (x : Moment) (v : LeaderVolatile) → x.states me ≡ LeaderIn v → nat_lt (own_r x) r ≡ true → nat_lt v.seen.r r ≡ true
      → Asked x v → Goes goal c x
  round_asked x v runs low seen rest = orders (r - (max (own_r x) v.seen.r + 1)) x v runs (steps_up (own_r x) v.seen.r r low seen) rest

-- LISTS

pub take_Member : {X : Type 0} (n : ℕ) (xs : List X) (x : X) → Member x (take n xs) → Member x xs
take_Member zero xs x m = absurd m
take_Member (suc n) [] x m = absurd m
take_Member (suc n) (y ∷ xs) x (inl e) = inl e
take_Member (suc n) (y ∷ xs) x (inr m) = inr (take_Member n xs x m)

pub take_length : {X : Type 0} (n : ℕ) (xs : List X) → nat_le n (length xs) ≡ true → length (take n xs) ≡ n
take_length zero xs h = refl
take_length (suc n) [] h = absurd (none n h)
  where
    none : (n : ℕ) → nat_le (suc n) 0 ≡ true → ⊥
    none n h = grind (arith, nat_tests, h)
take_length (suc n) (x ∷ xs) h = ap (λ k. suc k) (take_length n xs (back n (length xs) h))
  where
    back : (a b : ℕ) → nat_le (suc a) (suc b) ≡ true → nat_le a b ≡ true
    back a b h = grind (arith, nat_tests, h)

pub apart_take : (n : ℕ) (xs : List ℕ) → Apart xs → Apart (take n xs)
apart_take zero xs once = tt
apart_take (suc n) [] once = tt
apart_take (suc n) (x ∷ xs) once = (fewer (bool_cases (is_in x (take n xs))), apart_take n xs once.1)
  where
    fewer : (is_in x (take n xs) ≡ true) ⊎ (is_in x (take n xs) ≡ false) → is_in x (take n xs) ≡ false
    fewer (inl t) = (let s = Member-is_in x xs (take_Member n xs x (is_in-Member x (take n xs) t)) in let o = once.0 in cc)
    fewer (inr f) = f

-- what leaders are told stands in the stores
pub told_entry : (i : Round) (d0 : ℕ → MatchmakerDurable) (ms : List ℕ) (e : Entry)
    → Member e (entries_told (map (λ m. match_answer_of i (d0 m) m) ms)) → (m : ℕ) × Member m ms × Member e (d0 m).entries
told_entry i d0 [] e m = absurd m
told_entry i d0 (k ∷ ms) e m =
    elim (Member-cases e (entries_before i (d0 k).entries) (entries_told (map (λ m. match_answer_of i (d0 m) m) ms)) m) [
      | inl a ↦ (k, inl refl, filter-older _ e (d0 k).entries a)
      | inr b ↦ (let q = told_entry i d0 ms e b in (q.0, inr q.1, q.2))
    ]

pub live_entry : (i : Round) (d0 : ℕ → MatchmakerDurable) (ms : List ℕ) (e : Entry)
    → Member e (live_entries (map (λ m. match_answer_of i (d0 m) m) ms)) → (m : ℕ) × Member m ms × Member e (d0 m).entries
live_entry i d0 ms e m = told_entry i d0 ms e (filter-older _ e (entries_told (map (λ m. match_answer_of i (d0 m) m) ms)) m)

pub greatest_is : (h : ℕ) (ps : List Promised) → ((p : Promised) → Member p ps → nat_le p.cw h ≡ true) → greatest_cw h ps ≡ h
greatest_is h [] all = refl
greatest_is h (p ∷ ps) all = ap (λ n. max p.cw n) (greatest_is h ps (λ q m. all q (inr m))) ∙ top p.cw h (all p (inl refl))
  where
    top : (a h : ℕ) → nat_le a h ≡ true → max a h ≡ h
    top a h l = grind (arith, nat_tests, l)

pub votes_all : (P : Vote → Bool) (ps : List Promised) → ((p : Promised) → Member p ps → list_all P p.votes ≡ true)
    → list_all P (votes_told ps) ≡ true
votes_all P ps all = Member-all P (votes_told ps) (λ v m. go ps all v m)
  where
    go : (ps : List Promised) → ((p : Promised) → Member p ps → list_all P p.votes ≡ true) → (v : Vote) → Member v (votes_told ps)
        → P v ≡ true
    go [] all v m = absurd m
    go (p ∷ ps) all v m = elim (Member-cases v p.votes (votes_told ps)
        m) [ inl a ↦ all-Member P p.votes (all p (inl refl)) v a | inr b ↦ go ps (λ q i. all q (inr i)) v b ]
