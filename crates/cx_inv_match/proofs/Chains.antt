-- The chain of sets: one set at each place, sets at two places without a common member; and a round that was matched isn't shut.
use Rattle.cx_inv_run.proofs.Common.{◌≡◌, ◌≤◌, ◌<◌, ◌+◌, ◌*◌, ℕ, zero, suc, true, ◌⊎◌, List, [], ◌∷◌, length, ap, sym, ◌∙◌, subst, refl}
use Rattle.cx_inv_run.proofs.Common.{inl, inr, ⊎_elim, arith, nat_lt, list_all, true≢false, and_parts, cases_Bool, cases_lt, ltb-true}
use Rattle.cx_inv_run.proofs.Common.{Cluster, RoleId, Round, Shape, role, is_before, is_above, Entry, Letter, KeptRecord, same_number}
use Rattle.cx_inv_run.proofs.Common.{first_set, entry, Member, names_set, all-Member, length-below, some_passes, before_cases, before-both}
use Rattle.cx_inv_run.proofs.Common.{before-trans, before-to_at_least, before-not, least, HasRound}
use Rattle.std.proofs.Common.{Bool}
use Rattle.cx_base.specs.declared.role.Kind.TheVariants as kind
use Rattle.cx_base.specs.Sets.{is_rising}
use Rattle.cx_inv_run.proofs.Quorums.{most_meet}
use Rattle.cx_inv_match.specs.Words.{how_many, HasBoot, HasTaken, HasNext, IsDecided, IsNth, IsClosed, IsMatched, IsMatchable, CanTake}
use Rattle.cx_inv_match.specs.Words.{IsShut, IsWatermark, IsJoin, IsMember, SetFacts}
use Rattle.cx_inv_run.proofs.Rounds.{before-from_at_most}
use Rattle.cx_inv_match.specs.Words.{HasStopped, IsGridTold}
use Rattle.cx_inv_match.proofs.Parts.{covers_on}

-- sets without a common member

pub above_at : (t s : List ℕ) → is_above t s ≡ true → (m n : ℕ) → Member m t → Member n s → n < m
above_at t s e m n i k =
    ltb-true n m (all-Member (λ x. nat_lt x m) s (all-Member (λ y. list_all (λ x. nat_lt x y) s) t e m i) n k)

proper_length : (c : Cluster) (t : List ℕ) → names_set c t ≡ true → length t ≡ 2 * c.f + 1
proper_length c t e =
    same_number (length t) (2 * c.f + 1) (and_parts _ (is_rising t) (and_parts _ (list_all (λ m. nat_lt m c.pool) t) e).0).0

some_member : (c : Cluster) (t : List ℕ) → length t ≡ 2 * c.f + 1 → (m : ℕ) × Member m t
some_member c [] e = absurd (omega arith)
some_member c (m ∷ t) e = (m, inl refl)

module _ (c : Cluster) (history : List KeptRecord) (sent : List Letter) (facts : SetFacts c history) where
  pub nth_length : (n : ℕ) (t : List ℕ) → IsNth c history n t → length t ≡ 2 * c.f + 1
  nth_length zero t e = ap length e ∙ length-below (2 * c.f + 1)
  nth_length (suc n) t h = proper_length c t h.2.proper

  -- each set lies above all earlier ones of its own past
  pub nth_back : (k n : ℕ) (t : List ℕ) → n < k → IsNth c history k t
      → (s : List ℕ) × IsNth c history n s × ((x y : ℕ) → Member x t → Member y s → y < x)
  nth_back zero n t l h = absurd (omega arith)
  nth_back (suc k) n t l (p, h, d) = go (cases_lt n k) (λ b. nth_back k n p b h) (some_member c p (nth_length k p h))
    where
      go : (n < k) ⊎ (k ≤ n)
          → (n < k → (s : List ℕ) × IsNth c history n s × ((x y : ℕ) → Member x p → Member y s → y < x))
          → (z : ℕ) × Member z p
          → (s : List ℕ) × IsNth c history n s × ((x y : ℕ) → Member x t → Member y s → y < x)
      go (inl b) back z =
          let r = back b in
          (r.0, r.1, λ x y i j. let low = r.2 z.0 y z.1 j in let high = above_at t p d.above x z.0 i z.1 in omega arith)
      go (inr b) back z =
          (p, subst (λ j. IsNth c history j p) (omega arith) h, λ x y i j. above_at t p d.above x y i j)

  -- at the places up to n there is one set each
  abbrev OnceTo : ℕ → Type 0
  OnceTo n = (k : ℕ) (s t : List ℕ) → k ≤ n → IsNth c history k s → IsNth c history k t → s ≡ t

  meet_to : (n : ℕ) → OnceTo n → (k : ℕ) (s p : List ℕ) → IsNth c history k s → IsNth c history n p → (m : ℕ) → Member m s → Member m p
      → (k ≡ n) × (s ≡ p)
  meet_to n once k s p h q m i j = go (cases_lt k n) (cases_lt n k)
    where
      go : (k < n) ⊎ (n ≤ k) → (n < k) ⊎ (k ≤ n) → (k ≡ n) × (s ≡ p)
      go (inl l) o =
          let r = nth_back n k p l q in
          let e : s ≡ r.0 = once k s r.0 (omega arith) h r.1 in
          let low : m < m = r.2 m m j (subst (λ x. Member m x) e i) in
          absurd (omega arith)
      go (inr l) (inl b) =
          let r = nth_back k n s b h in
          let e : r.0 ≡ p = once n r.0 p (omega arith) r.1 q in
          let low : m < m = r.2 m m i (subst (λ x. Member m x) (sym e) j) in
          absurd (omega arith)
      go (inr l) (inr b) =
          let e : k ≡ n = omega arith in
          (e, once n s p (omega arith) (subst (λ x. IsNth c history x s) e h) q)

  -- one set at most is decided by the n-th
  decided_below : (n : ℕ) → OnceTo n → (p s t : List ℕ) → IsNth c history n p → (d : IsDecided c history p s) (e : IsDecided c history p t)
      → is_before d.ballot e.ballot ≡ true → s ≡ t
  decided_below n once p s t h d e l =
      let x = some_passes c p e.who e.most in
      let next = facts.nexted (role kind.Matchmaker x.0) e.ballot t (e.each x.0 x.2) in
      let same : next.set ≡ p = (meet_to n once next.known.0 next.set p next.known.1 h x.0 next.member x.1).1 in
      let closed : IsClosed c history p d.ballot t = subst (λ q. IsClosed c history q d.ballot t) same (next.closed d.ballot l) in
      let y = most_meet c p d.who closed.who (nth_length n p h) d.most closed.most in
      closed.only y.0 y.3 s (d.each y.0 y.2)

  decided_to : (n : ℕ) → OnceTo n → (p s t : List ℕ) → IsNth c history n p → IsDecided c history p s → IsDecided c history p t → s ≡ t
  decided_to n once p s t h d e = go (before_cases d.ballot e.ballot)
    where
      go : (is_before d.ballot e.ballot ≡ true) ⊎ ((d.ballot ≡ e.ballot) ⊎ (is_before e.ballot d.ballot ≡ true)) → s ≡ t
      go (inl l) = decided_below n once p s t h d e l
      go (inr (inl q)) =
          let x = some_passes c p d.who d.most in
          let y = some_passes c p e.who e.most in
          facts.one_next (role kind.Matchmaker x.0) (role kind.Matchmaker y.0) d.ballot s t (d.each x.0 x.2)
          (subst (λ b. HasNext history (role kind.Matchmaker y.0) b t) (sym q) (e.each y.0 y.2))
      go (inr (inr l)) = sym (decided_below n once p t s h e d l)

  once_to : (n : ℕ) → OnceTo n
  once_to zero zero s t l h q = h ∙ sym q
  once_to zero (suc k) s t l h q = absurd (omega arith)
  once_to (suc n) k s t l h q = go (cases_lt k (suc n)) (once_to n)
    where
      last : OnceTo n → (j : ℕ) → j ≡ suc n → IsNth c history j s → IsNth c history j t → s ≡ t
      last once zero e x y = absurd (omega arith)
      last once (suc j) e (p, hp, d) (r, hr, f) =
          let same : p ≡ r = once j p r (omega arith) hp hr in
          decided_to j (λ i a b m. once i a b (omega arith)) p s t hp d (subst (λ z. IsDecided c history z t) (sym same) f)

      go : (k < suc n) ⊎ (suc n ≤ k) → OnceTo n → s ≡ t
      go (inl b) once = once k s t (omega arith) h q
      go (inr b) once = last once k (omega arith) h q

  -- AT MOST ONE SET IS DECIDED BY EACH
  pub nth_once : (n : ℕ) (s t : List ℕ) → IsNth c history n s → IsNth c history n t → s ≡ t
  nth_once n s t h q = once_to n n s t (omega arith) h q

  pub decided_once : (n : ℕ) (p s t : List ℕ) → IsNth c history n p → IsDecided c history p s → IsDecided c history p t → s ≡ t
  decided_once n p s t h d e = decided_to n (once_to n) p s t h d e

  pub nth_meet : (k n : ℕ) (s p : List ℕ) → IsNth c history k s → IsNth c history n p → (m : ℕ) → Member m s → Member m p
      → (k ≡ n) × (s ≡ p)
  nth_meet k n s p h q m i j = meet_to n (once_to n) k s p h q m i j

  -- a member that began is a member of the set in which it began
  pub boot_at : (n : ℕ) (p : List ℕ) → IsNth c history n p → (m : ℕ) → Member m p → (s : List ℕ) (w : Round) (es : List Entry)
      → HasBoot history (role kind.Matchmaker m) s w es
      → (q : ℕ) × (n ≡ suc q) × (r : List ℕ) × IsNth c history q r × IsDecided c history r p × IsJoin c history r w es
  boot_at n p h m i s w es x =
      let b = facts.booted (role kind.Matchmaker m) s w es x in
      let r = nth_meet (suc b.1.place) n s p (b.1.set, b.1.nth, b.1.decided) h m b.0 i in
      (b.1.place, sym r.0, b.1.set, b.1.nth, subst (λ z. IsDecided c history b.1.set z) r.1 b.1.decided, b.1.join)

  -- a member of a later set than the first began in it
  pub began : (n : ℕ) (p : List ℕ) → IsNth c history (suc n) p → (m : ℕ) → Member m p → IsMember c history (role kind.Matchmaker m)
      → (s : List ℕ) × (w : Round) × (es : List Entry) × HasBoot history (role kind.Matchmaker m) s w es
  began n p h m i (inl k) = let r = nth_meet 0 (suc n) (first_set c) p refl h m k i in let e = r.0 in absurd (omega arith)
  began n p h m i (inr b) = b

  -- what holds of a log that begins in a later set, when it holds of the logs that are joined
  module _ (from : ℕ) (Tells : Round → List Entry → Type 0)
      -- from the set at that place to what begins behind it
      (base : (s : List ℕ) (w : Round) (es : List Entry) → IsNth c history from s → IsJoin c history s w es → Tells w es)
      -- from what a member began with to what is joined with it
      (on : (s : List ℕ) (w : Round) (es : List Entry) (j : IsJoin c history s w es) (m : ℕ) → j.who m ≡ true
      → (t : List ℕ) (v : Round) (xs : List Entry) → HasBoot history (role kind.Matchmaker m) t v xs → Tells v xs → Tells w es) where
    tells_join : (n : ℕ) (s : List ℕ) (w : Round) (es : List Entry) → from ≤ n → IsNth c history n s → IsJoin c history s w es → Tells w es
    tells_join zero s w es l h join = let e : zero ≡ from = omega arith in base s w es (subst (λ x. IsNth c history x s) e h) join
    tells_join (suc n) s w es l h join = go (cases_lt from (suc n)) (λ r v xs b k j. tells_join n r v xs b k j)
      where
        go : (from < suc n) ⊎ (suc n ≤ from)
            → ((r : List ℕ) (v : Round) (xs : List Entry) → from ≤ n → IsNth c history n r → IsJoin c history r v xs → Tells v xs)
            → Tells w es
        go (inr b) earlier = let e : suc n ≡ from = omega arith in base s w es (subst (λ x. IsNth c history x s) e h) join
        go (inl b) earlier =
            let x = some_passes c s join.who join.most in
            let k = began n s h x.0 x.1 (facts.members (role kind.Matchmaker x.0) (inr (join.stopped x.0 x.2))) in
            let a = boot_at (suc n) s h x.0 x.1 k.0 k.1 k.2 k.3 in
            let e = a.1 in
            on s w es join x.0 x.2 k.0 k.1 k.2 k.3
            (earlier a.2 k.1 k.2 (omega arith) (subst (λ q. IsNth c history q a.2) (let p : a.0 ≡ n = omega arith in p) a.3) a.5)

    -- so it holds of the log with which each member of a later set begins
    pub tells_boot : (n : ℕ) (p : List ℕ) → from < n → IsNth c history n p → (m : ℕ) → Member m p
        → (s : List ℕ) (w : Round) (es : List Entry) → HasBoot history (role kind.Matchmaker m) s w es → Tells w es
    tells_boot n p l h m i s w es x =
        let a = boot_at n p h m i s w es x in
        let e = a.1 in
        tells_join a.0 a.2 w es (omega arith) a.3 a.5

  -- WHAT MEMBERS OF AN EARLIER SET HAD IS COVERED BY WHAT A LATER SET BEGINS WITH

  -- more than half of the members of a set have stopped, and what they have is covered, or lies below the watermark
  pub record IsTold (k : ℕ) (w : Round) (es : List Entry) : Type 0 where
    pub set : List ℕ
    pub nth : IsNth c history k set
    pub who : ℕ → Bool
    pub most : c.f < how_many set who
    pub stopped : (m : ℕ) → who m ≡ true → HasStopped history (role kind.Matchmaker m)
    pub told : (m : ℕ) → who m ≡ true → (j : Round) (g : Shape) → HasRound history (role kind.Matchmaker m) j g → (is_before j w ≡ true)
        ⊎ IsGridTold c j g es

  joins_told : (s : List ℕ) (w : Round) (es : List Entry) (join : IsJoin c history s w es) (m : ℕ) → join.who m ≡ true
      → (i : Round) (g : Shape) → HasRound history (role kind.Matchmaker m) i g → (is_before i w ≡ true) ⊎ IsGridTold c i g es
  joins_told s w es join m t i g x = elim (cases_Bool (is_before i w)) [ inl l ↦ inl l | inr l ↦ inr (join.told m t i g l x) ]

  pub boot_told : (k n : ℕ) (p : List ℕ) → k < n → IsNth c history n p → (m : ℕ) → Member m p → (s : List ℕ) (w : Round) (es : List Entry)
      → HasBoot history (role kind.Matchmaker m) s w es → IsTold k w es
  boot_told k = tells_boot k (λ w es. IsTold k w es) base on
    where
      base : (s : List ℕ) (w : Round) (es : List Entry) → IsNth c history k s → IsJoin c history s w es → IsTold k w es
      base s w es h join = record {
        set = s;
        nth = h;
        who = join.who;
        most = join.most;
        stopped = join.stopped;
        told = λ m t j g x.
            joins_told s w es join m t j g x;
      }

      on : (s : List ℕ) (w : Round) (es : List Entry) (join : IsJoin c history s w es) (m : ℕ) → join.who m ≡ true
          → (t : List ℕ) (v : Round) (xs : List Entry) → HasBoot history (role kind.Matchmaker m) t v xs → IsTold k v xs → IsTold k w es
      on s w es join m t b v xs x h = record {
        set = h.set;
        nth = h.nth;
        who = h.who;
        most = h.most;
        stopped = h.stopped;
        told =
            λ o p j g y. go j g (h.told o p j g y);
      }
        where
          go : (j : Round) (g : Shape) → (is_before j v ≡ true) ⊎ IsGridTold c j g xs → (is_before j w ≡ true) ⊎ IsGridTold c j g es
          go j g (inl l) = inl (before-to_at_least j v w l (join.boots m t b v xs x))
          go j g (inr y) = ⊎_elim
              (λ l. inl (before-from_at_most j y.0.round w y.3 l))
              (λ z. inr (covers_on c j g xs es y z))
              (joins_told s w es join m t y.0.round y.0.grid (inr (b, v, xs, x, y.1)))

  -- A ROUND THAT WAS MATCHED ISN'T SHUT

  module _ (j : Round) where
    -- the round is covered, or lies below the watermark
    abbrev IsToldIn : Round → List Entry → Type 0
    IsToldIn w es = (is_before j w ≡ true) ⊎ ((g : Shape) × (IsGridTold c j g es × ((o : RoleId) × HasTaken history o j g)))

    -- a later round is told
    abbrev IsBehind : Round → List Entry → Type 0
    IsBehind w es = (e : Entry) × Member e es × (is_before j e.round ≡ true)

    -- what a stopped member has is told by the join, or lies below its watermark
    told_or_below : (s : List ℕ) (w : Round) (es : List Entry) (join : IsJoin c history s w es) (m : ℕ) → join.who m ≡ true
        → (i : Round) (g : Shape) → HasRound history (role kind.Matchmaker m) i g → (is_before i w ≡ true) ⊎ IsGridTold c i g es
    told_or_below s w es join m t i g x = elim (cases_Bool (is_before i w)) [ inl l ↦ inl l | inr l ↦ inr (join.told m t i g l x) ]

    -- what was taken is had
    taken_round : (m : RoleId) (g : Shape) → HasTaken history m j g → HasRound history m j g
    taken_round m g (inl x) = inl x
    taken_round m g (inr x) = inr (x.0, x.1, x.2, x.3, x.4)

    pub open_covers : (may : IsMatchable c history j) (n : ℕ) (p : List ℕ) → may.known.0 < n → IsNth c history n p → (m : ℕ) → Member m p
        → (s : List ℕ) (w : Round) (es : List Entry) → HasBoot history (role kind.Matchmaker m) s w es → IsToldIn w es
    open_covers may = tells_boot may.known.0 IsToldIn base on
      where
        base : (s : List ℕ) (w : Round) (es : List Entry) → IsNth c history may.known.0 s → IsJoin c history s w es → IsToldIn w es
        base s w es h join =
            let e : s ≡ may.set = nth_once may.known.0 s may.set h may.known.1 in
            let x = most_meet c s join.who may.who (nth_length may.known.0 s h) join.most
            (subst (λ q. c.f < how_many q may.who) (sym e) may.most) in
            ⊎_elim
            (λ r. ⊎_elim inl (λ k. inr (r.0, (k, (role kind.Matchmaker x.0, r.1))))
            (told_or_below s w es join x.0 x.2 j r.0 (taken_round (role kind.Matchmaker x.0) r.0 r.1)))
            (λ can. absurd (can.1 (join.stopped x.0 x.2)))
            (may.each x.0 x.3)

        on : (s : List ℕ) (w : Round) (es : List Entry) (join : IsJoin c history s w es) (m : ℕ) → join.who m ≡ true
            → (t : List ℕ) (v : Round) (xs : List Entry) → HasBoot history (role kind.Matchmaker m) t v xs → IsToldIn v xs → IsToldIn w es
        on s w es join m k t v xs x (inl l) = inl (before-to_at_least j v w l (join.boots m k t v xs x))
        on s w es join m k t v xs x (inr y) = ⊎_elim
            (λ b. inl (below b))
            (λ z. inr (y.0, (covers_on c j y.0 xs es y.1.0 z, y.1.1)))
            (told_or_below s w es join m k y.1.0.0.round y.1.0.0.grid (inr (t, v, xs, x, y.1.0.1)))
          where
            below : is_before y.1.0.0.round w ≡ true → is_before j w ≡ true
            below b = before-from_at_most j y.1.0.0.round w y.1.0.3 b

    pub shut_behind : (shut : IsShut c history j) (n : ℕ) (p : List ℕ) → shut.known.0 < n → IsNth c history n p → (m : ℕ) → Member m p
        → (s : List ℕ) (w : Round) (es : List Entry) → HasBoot history (role kind.Matchmaker m) s w es → IsBehind w es
    shut_behind shut = tells_boot shut.known.0 IsBehind base on
      where
        -- of a later round than j that a stopped member has
        later : (s : List ℕ) (w : Round) (es : List Entry) (join : IsJoin c history s w es) (m : ℕ) → join.who m ≡ true
            → (i : Round) (g : Shape) → is_before j i ≡ true → HasRound history (role kind.Matchmaker m) i g → IsBehind w es
        later s w es join m k i g l x = ⊎_elim (below join.raised) (λ y. (y.0, y.1, before-to_at_least j i y.0.round l y.3))
            (told_or_below s w es join m k i g x)
          where
            below : IsWatermark history w es → is_before i w ≡ true → IsBehind w es
            below (inl e) b = absurd (true≢false (sym (subst (λ z. is_before i z ≡ true) e b) ∙ least i))
            below (inr y) b = (entry w y.1.0, y.1.1, before-trans j i w l b)

        base : (s : List ℕ) (w : Round) (es : List Entry) → IsNth c history shut.known.0 s → IsJoin c history s w es → IsBehind w es
        base s w es h join =
            let e : s ≡ shut.set = nth_once shut.known.0 s shut.set h shut.known.1 in
            let x = most_meet c s join.who shut.who (nth_length shut.known.0 s h) join.most
            (subst (λ q. c.f < how_many q shut.who) (sym e) shut.most) in
            let r = shut.later x.0 x.3 in
            later s w es join x.0 x.2 r.0 r.1 r.2 r.3

        on : (s : List ℕ) (w : Round) (es : List Entry) (join : IsJoin c history s w es) (m : ℕ) → join.who m ≡ true
            → (t : List ℕ) (v : Round) (xs : List Entry) → HasBoot history (role kind.Matchmaker m) t v xs → IsBehind v xs → IsBehind w es
        on s w es join m k t v xs x y = later s w es join m k y.0.round y.0.grid y.2 (inr (t, v, xs, x, y.1))

    -- who has a round is a member of a set
    member_of : (m : RoleId) (i : Round) (g : Shape) → HasRound history m i g → IsMember c history m
    member_of m i g x = facts.members m (inl (i, (g, inl x)))

    open_shut : (may : IsMatchable c history j) (shut : IsShut c history j) (k n : ℕ) → IsNth c history n may.set
        → IsNth c history k shut.set
        → n ≡ may.known.0 → k ≡ shut.known.0 → (n < k) ⊎ (k ≤ n) → (k < n) ⊎ (n ≤ k) → ⊥
    open_shut may shut k n hn hk en ek (inl l) o =
        let r = shut.earlier n (subst (λ z. n < z) ek l) in
        let e : may.set ≡ r.0 = nth_once n may.set r.0 hn r.1 in
        let x = most_meet c r.0 may.who r.2.who (nth_length n r.0 r.1) (subst (λ q. c.f < how_many q may.who) e may.most) r.2.most in
        ⊎_elim
        (λ y. r.2.untaken x.0 x.3 y.0 y.1)
        (λ can. can.1 (r.2.stopped x.0 x.3))
        (may.each x.0 x.2)
    open_shut may shut k zero hn hk en ek (inr l) (inl b) = absurd (omega arith)
    open_shut may shut k (suc n) hn hk en ek (inr l) (inl b) =
        let x = some_passes c may.set may.who may.most in
        ⊎_elim (λ r. taken x.0 x.1 r.0 r.1) (λ can. can_take x.0 x.1 can) (may.each x.0 x.2)
      where
        behind : (m : ℕ) → Member m may.set → (s : List ℕ) (w : Round) (es : List Entry) → HasBoot history (role kind.Matchmaker m) s w es
            → IsBehind w es
        behind m i s w es y = shut_behind shut (suc n) may.set (subst (λ z. z < suc n) ek b) hn m i s w es y

        taken : (m : ℕ) → Member m may.set → (g : Shape) → HasTaken history (role kind.Matchmaker m) j g → ⊥
        taken m i g (inl x) =
            let k = began n may.set hn m i (member_of (role kind.Matchmaker m) j g (inl x)) in
            let y = behind m i k.0 k.1 k.2 k.3 in
            before-both j y.0.round y.2 (before-not y.0.round j (facts.above_boot (role kind.Matchmaker m) k.0 k.1 k.2 j g k.3 x y.0 y.1))
        taken m i g (inr x) =
            let y = behind m i x.0 x.1 x.2 x.3 in
            true≢false (sym y.2 ∙ x.5 y.0 y.1)

        can_take : (m : ℕ) → Member m may.set → CanTake c history (role kind.Matchmaker m) j → ⊥
        can_take m i can =
            let k = began n may.set hn m i can.0 in
            let y = behind m i k.0 k.1 k.2 k.3 in
            can.2 y.0.round y.0.grid y.2 (inr (k.0, k.1, k.2, k.3, y.1))
    open_shut may shut k n hn hk en ek (inr l) (inr b) =
        let e : may.set ≡ shut.set =
        nth_once n may.set shut.set hn (subst (λ z. IsNth c history z shut.set) (let q : k ≡ n = omega arith in q) hk) in
        let x =
        most_meet c shut.set may.who shut.who (nth_length k shut.set hk) (subst (λ q. c.f < how_many q may.who) e may.most) shut.most in
        ⊎_elim
        (λ r. shut.never x.0 x.3 r.0 r.1)
        (λ can. let y = shut.later x.0 x.3 in can.2 y.0 y.1 y.2 y.3)
        (may.each x.0 x.2)

    -- a round that may still be matched isn't shut
    pub open_not_shut : IsMatchable c history j → IsShut c history j → ⊥
    open_not_shut may shut =
        open_shut may shut shut.known.0 may.known.0 may.known.1 shut.known.1 refl refl
        (cases_lt may.known.0 shut.known.0) (cases_lt shut.known.0 may.known.0)

    pub matched_open : IsMatched c history j → IsShut c history j → ⊥
    matched_open matched shut =
        open_not_shut
        (record { set = matched.set; known = matched.known; who = matched.who; most = matched.most; each = λ m t. inl (matched.each m t) })
        shut
