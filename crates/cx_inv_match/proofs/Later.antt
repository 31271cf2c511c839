-- A set that works has stopped each earlier one. So an answer that is given later than some moment comes from no earlier set than those
-- that worked then: what a reader and a leader count after that moment tells what was so then.
use Rattle.cx_inv_run.proofs.Common.{◌≡◌, ◌≤◌, ◌<◌, ℕ, zero, suc, Bool, true, false, ◌⊎◌, List, sym, subst, refl, inl, inr, ⊎_elim, arith}
use Rattle.cx_inv_run.proofs.Common.{cases_Bool, cases_lt, Cluster, RoleId, Round, Shape, role, is_before, Entry, Letter, KeptRecord}
use Rattle.cx_inv_run.proofs.Common.{first_set, Member, some_passes, before-to_at_least, at_most-trans, HasRound}
use Rattle.cx_base.specs.declared.role.Kind.TheVariants as kind
use Rattle.cx_inv_run.proofs.Quorums.{most_meet}
use Rattle.cx_inv_match.specs.Words.{how_many, HasGarbage, HasBoot, HasTaken, HasStopped, IsNth, IsMatched, IsMember, IsJoin, SetFacts}
use Rattle.cx_inv_match.specs.Words.{IsGridTold}
use Rattle.cx_inv_match.proofs.Parts.{covers_on}
use Rattle.cx_inv_match.proofs.Chains.{nth_length, nth_back, nth_once, nth_meet, began, boot_at, tells_boot, open_covers}
use Rattle.cx_inv_match.proofs.Grow.{more_nth}

-- more than half of the members of a set have stopped
pub record IsHalted (c : Cluster) (history : List KeptRecord) (s : List ℕ) : Type 0 where
  pub who : ℕ → Bool
  pub most : c.f < how_many s who
  pub each : (m : ℕ) → who m ≡ true → HasStopped history (role kind.Matchmaker m)

-- BELOW A SET THAT WORKED, EACH SET HAS STOPPED
pub stopped_below : (c : Cluster) (history : List KeptRecord) (sent : List Letter) (facts : SetFacts c history)
    → (n : ℕ) (p : List ℕ) → IsNth c history n p → (m : ℕ) → Member m p → IsMember c history (role kind.Matchmaker m)
    → (k : ℕ) (s : List ℕ) → k < n → IsNth c history k s → IsHalted c history s
stopped_below c history sent facts zero p h m i member k s l q = absurd (omega arith)
stopped_below c history sent facts (suc n) p h m i member k s l q =
    go (cases_lt k n) (λ r x y z b. stopped_below c history sent facts n r x y z b k s)
  where
    own_boot : (t : List ℕ) × (w : Round) × (es : List Entry) × HasBoot history (role kind.Matchmaker m) t w es
    own_boot = began c history sent facts n p h m i member

    before : (r : List ℕ) × IsNth c history n r × ((w : Round) × (es : List Entry) × IsJoin c history r w es)
    before =
        let b = own_boot in
        let a = boot_at c history sent facts (suc n) p h m i b.0 b.1 b.2 b.3 in
        let e = a.1 in
        (a.2, subst (λ z. IsNth c history z a.2) (let x : a.0 ≡ n = omega arith in x) a.3, (b.1, b.2, a.5))

    go : (k < n) ⊎ (n ≤ k) → ((r : List ℕ) → IsNth c history n r → (y : ℕ) → Member y r → IsMember c history (role kind.Matchmaker y)
        → k < n → IsNth c history k s → IsHalted c history s) → IsHalted c history s
    go (inl b) earlier =
        let r = before in
        let join = r.2.2 in
        let x = some_passes c r.0 join.who join.most in
        earlier r.0 r.1 x.0 x.1 (facts.members (role kind.Matchmaker x.0) (inr (join.stopped x.0 x.2))) b q
    go (inr b) earlier =
        let r = before in
        let join = r.2.2 in
        let same : r.0 ≡ s =
        nth_once c history sent facts n r.0 s r.1 (subst (λ z. IsNth c history z s) (let x : k ≡ n = omega arith in x) q) in
        record { who = join.who; most = subst (λ z. c.f < how_many z join.who) same join.most; each = join.stopped }

-- A later moment, and an earlier one of the same run.
module _ (c : Cluster) (past history : List KeptRecord) (passed sent : List Letter)
    (more : (k : KeptRecord) → Member k past → Member k history) (then : SetFacts c past) (facts : SetFacts c history) where
  -- members of a known set that answered later had not stopped at the earlier moment; so no later set worked then
  no_later : (n : ℕ) (p : List ℕ) → IsNth c past n p → (m : ℕ) → Member m p → IsMember c past (role kind.Matchmaker m)
      → (k : ℕ) (s : List ℕ) → IsNth c history k s → k < n → (who : ℕ → Bool) → c.f < how_many s who
      → ((x : ℕ) → who x ≡ true → HasStopped past (role kind.Matchmaker x) → ⊥) → ⊥
  no_later n p h m i member k s q l who most running =
      let r = nth_back c past passed then n k p l h in
      let halted = stopped_below c past passed then n p h m i member k r.0 l r.1 in
      let same : r.0 ≡ s = nth_once c history sent facts k r.0 s (more_nth c past history more k r.0 r.1) q in
      let x = most_meet c s halted.who who (nth_length c history sent facts k s q)
      (subst (λ z. c.f < how_many z halted.who) same halted.most) most in
      running x.0 x.3 (halted.each x.0 x.2)

  -- WHAT A READER COUNTS
  -- An answer of a member that hadn't stopped when the read was asked for: all that it had then, from the answer's watermark on; it is one
  -- of the first set, or tells all that it began with, and a watermark that isn't below that one.
  pub record Tells (m : ℕ) (w : Round) (es : List Entry) : Type 0 where
    pub running : HasStopped past (role kind.Matchmaker m) → ⊥
    pub all : (j : Round) (g : Shape) → is_before j w ≡ false → HasRound past (role kind.Matchmaker m) j g → IsGridTold c j g es
    pub began : Member m (first_set c)
        ⊎ ((t : List ℕ) × (v : Round) × (xs : List Entry) × HasBoot history (role kind.Matchmaker m) t v xs × (is_before w v ≡ false)
        × ((e : Entry) → Member e xs → is_before e.round w ≡ false → IsGridTold c e.round e.grid es))

  module _ (j : Round) (matched : IsMatched c past j) (k : ℕ) (s : List ℕ) (nth : IsNth c history k s)
      (who : ℕ → Bool) (most : c.f < how_many s who) (tells : (m : ℕ) → who m ≡ true → (w : Round) × (es : List Entry) × Tells m w es) where
    -- one that was counted tells the round, or a watermark above it
    abbrev Told : Type 0
    Told = (m : ℕ) × (t : who m ≡ true) × ((is_before j (tells m t).0 ≡ true)
        ⊎ ((g : Shape) × (IsGridTold c j g (tells m t).1 × ((o : RoleId) × HasTaken history o j g))))

    grown_taken : (m : RoleId) (g : Shape) → HasTaken past m j g → HasTaken history m j g
    grown_taken m g (inl x) = inl (more _ x)
    grown_taken m g (inr x) = inr (x.0, x.1, x.2, more _ x.3, x.4, x.5)

    known_now : IsNth c history matched.known.0 matched.set
    known_now = more_nth c past history more matched.known.0 matched.set matched.known.1

    unless_below : (m : ℕ) (t : who m ≡ true) → ((is_before j (tells m t).0 ≡ false) → (g : Shape)
        × (IsGridTold c j g (tells m t).1 × ((o : RoleId) × HasTaken history o j g))) → Told
    unless_below m t h = ⊎_elim (λ l. (m, t, inl l)) (λ l. (m, t, inr (h l))) (cases_Bool (is_before j (tells m t).0))

    had : (m : RoleId) (g : Shape) → HasTaken past m j g → HasRound past m j g
    had m g (inl x) = inl x
    had m g (inr x) = inr (x.0, x.1, x.2, x.3, x.4)

    -- a round that was matched when the read was asked for is told, or lies below a watermark that is
    pub read_told : Told
    read_told = go (cases_lt matched.known.0 k) (cases_lt k matched.known.0)
      where
        covers : (m : ℕ) (t : who m ≡ true) (u : List ℕ) (v : Round) (xs : List Entry) → is_before (tells m t).0 v ≡ false
            → ((e : Entry) → Member e xs → is_before e.round (tells m t).0 ≡ false → IsGridTold c e.round e.grid (tells m t).1)
            → (is_before j v ≡ true) ⊎ ((g : Shape) × (IsGridTold c j g xs × ((o : RoleId) × HasTaken history o j g))) → Told
        covers m t u v xs low all (inl l) = (m, t, inl (before-to_at_least j v (tells m t).0 l low))
        covers m t u v xs low all (inr y) = unless_below m t (λ l. (
          y.0,
          (
            covers_on c j y.0 xs (tells m t).1 y.1.0 (all y.1.0.0 y.1.0.1 (at_most-trans (tells m t).0 j y.1.0.0.round l y.1.0.3)),
            y.1.1,
          ),
        ))

        later : (i : ℕ) → i ≡ k → matched.known.0 < i → Told
        later zero e l = absurd (omega arith)
        later (suc i) e l =
            let x = some_passes c s who most in
            let h = subst (λ z. IsNth c history z s) (sym e) nth in
            ⊎_elim (λ first. let r = nth_meet c history sent facts 0 (suc i) (first_set c) s refl h x.0 first x.1 in let q = r.0 in
            absurd (omega arith)) (λ b. covers x.0 x.2 b.0 b.1 b.2 b.4 b.5
            (open_covers c history sent facts j (record {
              set = matched.set;
              known = (matched.known.0, known_now);
              who = matched.who;
              most = matched.most;
              each = λ m t. let r = matched.each m t in inl (r.0, grown_taken (role kind.Matchmaker m) r.0 r.1);
            }) (suc i) s l h x.0 x.1 b.0 b.1 b.2 b.3)) (tells x.0 x.2).2.began

        go : (matched.known.0 < k) ⊎ (k ≤ matched.known.0) → (k < matched.known.0) ⊎ (matched.known.0 ≤ k) → Told
        go (inl l) o = later k refl l
        go (inr l) (inl b) =
            let x = some_passes c matched.set matched.who matched.most in
            let r = matched.each x.0 x.2 in
            absurd (no_later matched.known.0 matched.set matched.known.1 x.0 x.1 (then.members (role kind.Matchmaker x.0)
            (inl (j, (r.0, inl (had (role kind.Matchmaker x.0) r.0 r.1))))) k s nth b who most (λ m t. (tells m t).2.running))
        go (inr l) (inr b) =
            let e : k ≡ matched.known.0 = omega arith in
            let same : matched.set ≡ s =
            nth_once c history sent facts matched.known.0 matched.set s known_now (subst (λ z. IsNth c history z s) e nth) in
            let x = most_meet c s matched.who who (nth_length c history sent facts k s nth)
            (subst (λ z. c.f < how_many z matched.who) same matched.most) most in
            let r = matched.each x.0 x.2 in
            unless_below x.0 x.3 (λ l. (
              r.0,
              (
                (tells x.0 x.3).2.all j r.0 l (had (role kind.Matchmaker x.0) r.0 r.1),
                (role kind.Matchmaker x.0, grown_taken (role kind.Matchmaker x.0) r.0 r.1),
              ),
            ))

  -- WHAT A LEADER OF A NEWER ROUND COUNTS
  -- a member of a set forgot the rounds below this one, or began with a watermark that isn't below it
  abbrev Forgot : ℕ → Round → Type 0
  Forgot m i =
      ((w : Round) × (g : Shape) × HasGarbage past (role kind.Matchmaker m) w g × (is_before w i ≡ false))
      ⊎ ((t : List ℕ) × (w : Round) × (es : List Entry) × HasBoot past (role kind.Matchmaker m) t w es × (is_before w i ≡ false))

  -- an answer that is given later: its watermark isn't below any that the member had at the earlier moment, nor below the one with which it
  -- began
  pub record IsLaterAnswer (m : ℕ) (w : Round) : Type 0 where
    pub running : HasStopped past (role kind.Matchmaker m) → ⊥
    pub garbages : (v : Round) (g : Shape) → HasGarbage past (role kind.Matchmaker m) v g → is_before w v ≡ false
    pub boots : (t : List ℕ) (v : Round) (xs : List Entry) → HasBoot past (role kind.Matchmaker m) t v xs → is_before w v ≡ false
    pub began : Member m (first_set c)
        ⊎ ((t : List ℕ) × (v : Round) × (xs : List Entry) × HasBoot history (role kind.Matchmaker m) t v xs × (is_before w v ≡ false))

  module _ (i : Round) (n : ℕ) (p : List ℕ) (nth_p : IsNth c past n p) (forgot : ℕ → Bool) (enough : c.f < how_many p forgot)
      (have : (m : ℕ) → forgot m ≡ true → Forgot m i) (k : ℕ) (s : List ℕ) (nth : IsNth c history k s)
      (who : ℕ → Bool) (most : c.f < how_many s who) (later_answers : (m : ℕ) → who m ≡ true → (w : Round) × IsLaterAnswer m w) where
    -- once more than half of a set have forgotten the rounds below i, each later matching is told a watermark from i on
    pub retired_told : (m : ℕ) × (t : who m ≡ true) × (is_before (later_answers m t).0 i ≡ false)
    retired_told = go (cases_lt n k) (cases_lt k n)
      where
        now : IsNth c history n p
        now = more_nth c past history more n p nth_p

        at_common : (m : ℕ) → who m ≡ true → Forgot m i → (x : ℕ) × (t : who x ≡ true) × (is_before (later_answers x t).0 i ≡ false)
        at_common m t (inl y) = (m, t, at_most-trans i y.0 (later_answers m t).0 y.3 ((later_answers m t).1.garbages y.0 y.1 y.2))
        at_common m t (inr y) = (m, t, at_most-trans i y.1 (later_answers m t).0 y.4 ((later_answers m t).1.boots y.0 y.1 y.2 y.3))

        joined : (w : Round) (es : List Entry) (join : IsJoin c history p w es) (m : ℕ) → join.who m ≡ true → Forgot m i
            → is_before w i ≡ false
        joined w es join m t (inl y) = at_most-trans i y.0 w y.3 (join.garbages m t y.0 y.1 (more _ y.2))
        joined w es join m t (inr y) = at_most-trans i y.1 w y.4 (join.boots m t y.0 y.1 y.2 (more _ y.3))

        base : (r : List ℕ) (w : Round) (es : List Entry) → IsNth c history n r → IsJoin c history r w es → is_before w i ≡ false
        base r w es h join =
            let e : r ≡ p = nth_once c history sent facts n r p h now in
            let joined_p = subst (λ z. IsJoin c history z w es) e join in
            let x = most_meet c p joined_p.who forgot (nth_length c history sent facts n p now) joined_p.most enough in
            joined w es joined_p x.0 x.2 (have x.0 x.3)

        on : (r : List ℕ) (w : Round) (es : List Entry) (join : IsJoin c history r w es) (m : ℕ) → join.who m ≡ true → (t : List ℕ)
            (v : Round) (xs : List Entry) → HasBoot history (role kind.Matchmaker m) t v xs → is_before v i ≡ false → is_before w i ≡ false
        on r w es join m t u v xs x low = at_most-trans i v w low (join.boots m t u v xs x)

        later : (a : ℕ) → a ≡ k → n < a → (x : ℕ) × (t : who x ≡ true) × (is_before (later_answers x t).0 i ≡ false)
        later zero e l = absurd (omega arith)
        later (suc a) e l =
            let x = some_passes c s who most in
            let h = subst (λ z. IsNth c history z s) (sym e) nth in
            ⊎_elim (λ first.
            let r = nth_meet c history sent facts 0 (suc a) (first_set c) s refl h x.0 first x.1 in let q = r.0 in absurd (omega arith))
            (λ b.
            let low = tells_boot c history sent facts n (λ w es. is_before w i ≡ false) base on (suc a) s l h x.0 x.1 b.0 b.1 b.2 b.3 in
            (x.0, x.2, at_most-trans i b.1 (later_answers x.0 x.2).0 low b.4))
            (later_answers x.0 x.2).1.began

        member : (m : ℕ) → Forgot m i → IsMember c past (role kind.Matchmaker m)
        member m (inl y) = then.members (role kind.Matchmaker m) (inl (y.0, (y.1, inr y.2)))
        member m (inr y) = inr (y.0, y.1, y.2, y.3)

        go : (n < k) ⊎ (k ≤ n) → (k < n) ⊎ (n ≤ k) → (x : ℕ) × (t : who x ≡ true) × (is_before (later_answers x t).0 i ≡ false)
        go (inl l) o = later k refl l
        go (inr l) (inl b) =
            let x = some_passes c p forgot enough in
            absurd (no_later n p nth_p x.0 x.1 (member x.0 (have x.0 x.2)) k s nth b who most (λ m t. (later_answers m t).1.running))
        go (inr l) (inr b) =
            let e : k ≡ n = omega arith in
            let same : p ≡ s = nth_once c history sent facts n p s now (subst (λ z. IsNth c history z s) e nth) in
            let x =
            most_meet c s forgot who (nth_length c history sent facts k s nth) (subst (λ z. c.f < how_many z forgot) same enough) most in
            at_common x.0 x.3 (have x.0 x.2)
