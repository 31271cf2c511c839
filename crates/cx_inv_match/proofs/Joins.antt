-- What a replacer may ask once enough matchmakers of the known set have stopped: the set to decide can be decided in no earlier ballot but
-- as it is, and what they told is a join.
use Rattle.cx_inv_run.proofs.Common.{◌≡◌, ℕ, ◌<◌, Bool, true, false, not, ◌⊎◌, List, [], ◌∷◌, length, Option, Some, None, inl, inr, ap, sym}
use Rattle.cx_inv_run.proofs.Common.{subst, ◌∙◌, refl, ⊎_elim, arith, if◌then◌else◌, true≢false, cond_both, Cluster, Round, Shape, is_in}
use Rattle.cx_inv_run.proofs.Common.{role, is_before, same_round, no_round, Entry, Letter, KeptRecord, Halt, MatchAnswer}
use Rattle.cx_inv_run.proofs.Common.{greatest_watermark, live_entries, entry, Member, IsConfig, joined_entries, to_decide, Member-map}
use Rattle.cx_inv_run.proofs.Common.{Member-filter, is_in-Member, Member-is_in, once_count, before_cases, before-not, before-to_at_least}
use Rattle.cx_inv_run.proofs.Common.{at_most-trans, itself-not_before, least, same_round-true}
use Rattle.cx_base.specs.declared.role.Kind.TheVariants as kind
use Rattle.cx_model.specs.Replacer.{answers_of, with_entry, sorted_into, later_halt, latest, next_of}
use Rattle.cx_inv_match.specs.Words.{how_many, HasGarbage, HasNext, IsKnown, IsClosed, IsWatermark, IsHalt, IsJoin, SetFacts}
use Rattle.cx_inv_match.specs.Facts.{AreOnce, halted_by}
use Rattle.cx_inv_match.proofs.Chains.{nth_meet}
use Rattle.cx_inv_match.proofs.Searches.{live_from, live_has, top_above, top_told}

-- who was counted

pub halted_member : (m : ℕ) (halts : List Halt) → Member m (halted_by halts) → (h : Halt) × Member h halts × (m ≡ h.answer.matchmaker)
halted_member m [] k = absurd k
halted_member m (h ∷ halts) (inl e) = (h, inl refl, e)
halted_member m (h ∷ halts) (inr k) = let r = halted_member m halts k in (r.0, inr r.1, r.2)

halted_length : (halts : List Halt) → length (halted_by halts) ≡ length halts
halted_length [] = refl
halted_length (h ∷ halts) = let e = halted_length halts in omega arith

pub halted_count : (c : Cluster) (set : List ℕ) (halts : List Halt) → AreOnce (halted_by halts)
    → ((m : ℕ) → Member m (halted_by halts) → Member m set) → c.f < length halts → c.f < how_many set (λ m. is_in m (halted_by halts))
halted_count c set halts once known enough =
    let l = once_count AreOnce (λ m ms o. o) (λ m. is_in m (halted_by halts)) (halted_by halts) set once known
    (λ m k. Member-is_in m (halted_by halts) k) in
    let e = halted_length halts in
    omega arith

answer_in : (halts : List Halt) (h : Halt) → Member h halts → Member h.answer (answers_of halts)
answer_in [] h m = absurd m
answer_in (x ∷ halts) h (inl e) = inl (ap (λ (y : Halt). y.answer) e)
answer_in (x ∷ halts) h (inr m) = inr (answer_in halts h m)

answer_from : (halts : List Halt) (a : MatchAnswer) → Member a (answers_of halts) → (h : Halt) × Member h halts × (a ≡ h.answer)
answer_from halts a m = Member-map (λ (h : Halt). h.answer) a halts m

-- sorting

with_of : (x : Entry) (sorted : List Entry) (e : Entry) → Member e (with_entry x sorted) → (e ≡ x) ⊎ Member e sorted
with_of x [] e (inl p) = inl p
with_of x [] e (inr m) = absurd m
with_of x (y ∷ ys) e m =
    cond_both (is_before x.round y.round) (x ∷ y ∷ ys) _ (λ l. Member e l → (e ≡ x) ⊎ Member e (y ∷ ys))
    (λ t k. k)
    (λ f. cond_both (same_round x.round y.round) (y ∷ ys) (y ∷ with_entry x ys) (λ l. Member e l → (e ≡ x) ⊎ Member e (y ∷ ys))
    (λ t k. inr k)
    (λ g k. elim k [ inl p ↦ inr (inl p) | inr n ↦ ⊎_elim inl (λ q. inr (inr q)) (with_of x ys e n) ])) m

-- what stands in a sorted list was there, or was put into it
sorted_of : (sorted es : List Entry) (e : Entry) → Member e (sorted_into sorted es) → Member e sorted ⊎ Member e es
sorted_of sorted [] e m = inl m
sorted_of sorted (x ∷ es) e m = ⊎_elim
    (λ k. ⊎_elim (λ p. inr (inl p)) inl (with_of x sorted e k))
    (λ k. inr (inr k))
    (sorted_of (with_entry x sorted) es e m)

-- a round stays
abbrev Has : Round → List Entry → Type 0
Has i es = (g : Shape) × Member (entry i g) es

with_stays : (x : Entry) (sorted : List Entry) (e : Entry) → Member e sorted → Member e (with_entry x sorted)
with_stays x [] e m = absurd m
with_stays x (y ∷ ys) e m =
    cond_both (is_before x.round y.round) (x ∷ y ∷ ys) _ (λ l. Member e l)
    (λ t. inr m)
    (λ f. cond_both (same_round x.round y.round) (y ∷ ys) (y ∷ with_entry x ys) (λ l. Member e l)
    (λ t. m)
    (λ g. elim m [ inl p ↦ inl p | inr n ↦ inr (with_stays x ys e n) ]))

with_has : (x : Entry) (sorted : List Entry) → Has x.round (with_entry x sorted)
with_has x [] = (x.grid, inl refl)
with_has x (y ∷ ys) =
    cond_both (is_before x.round y.round) (x ∷ y ∷ ys) _ (λ l. Has x.round l)
    (λ t. (x.grid, inl refl))
    (λ f. cond_both (same_round x.round y.round) (y ∷ ys) (y ∷ with_entry x ys) (λ l. Has x.round l)
    (λ t. (y.grid, inl (ap (λ i. entry i y.grid) (same_round-true x.round y.round t))))
    (λ g. let r = with_has x ys in (r.0, inr r.1)))

sorted_stays : (sorted es : List Entry) (e : Entry) → Member e sorted → Member e (sorted_into sorted es)
sorted_stays sorted [] e m = m
sorted_stays sorted (x ∷ es) e m = sorted_stays (with_entry x sorted) es e (with_stays x sorted e m)

sorted_has : (sorted es : List Entry) (e : Entry) → Member e es → Has e.round (sorted_into sorted es)
sorted_has sorted [] e m = absurd m
sorted_has sorted (x ∷ es) e (inl p) =
    let r = with_has x sorted in
    subst (λ (y : Entry). Has y.round (sorted_into (with_entry x sorted) es)) (sym p)
    (r.0, sorted_stays (with_entry x sorted) es (entry x.round r.0) r.1)
sorted_has sorted (x ∷ es) e (inr m) = sorted_has (with_entry x sorted) es e m

-- the answer of the greatest ballot

same_one : (h x : Halt) → Some h ≡ Some x → h ≡ x
same_one h x e = cc

later_one : (x : Halt) (halts : List Halt) (o : Option Halt) → latest halts ≡ o
    → ((later_halt x o ≡ x) × ((y : Halt) → o ≡ Some y → is_before x.accepted y.accepted ≡ false))
    ⊎ ((y : Halt) × (o ≡ Some y) × (later_halt x o ≡ y) × (is_before x.accepted y.accepted ≡ true))
later_one x halts None e = inl (refl, λ y p. cc)
later_one x halts (Some y) e =
    cond_both (is_before x.accepted y.accepted) y x
    (λ z. ((z ≡ x) × ((v : Halt) → Some y ≡ Some v → is_before x.accepted v.accepted ≡ false))
    ⊎ ((v : Halt) × (Some y ≡ Some v) × (z ≡ v) × (is_before x.accepted v.accepted ≡ true))) (λ t. inr (y, refl, refl, t))
    (λ f. inl (refl, λ v p. subst (λ (z : Halt). is_before x.accepted z.accepted ≡ false) (same_one y v p) f))

latest_none : (x : Halt) (halts : List Halt) → latest halts ≡ None → Member x halts → {A : Type 0} → A
latest_none x [] e m = absurd m
latest_none x (y ∷ halts) e m = cc

pub latest_member : (halts : List Halt) (h : Halt) → latest halts ≡ Some h → Member h halts
latest_member [] h e = cc
latest_member (x ∷ halts) h e = ⊎_elim
    (λ r. inl (sym (sym r.0 ∙ same_one _ h e)))
    (λ r. inr (latest_member halts h (r.1 ∙ ap (λ y. Some y) (sym r.2 ∙ same_one _ h e))))
    (later_one x halts (latest halts) refl)

latest_above : (halts : List Halt) (h : Halt) → latest halts ≡ Some h → (y : Halt) → Member y halts
    → is_before h.accepted y.accepted ≡ false
latest_above [] h e y m = absurd m
latest_above (x ∷ halts) h e y m = ⊎_elim
    (λ r. let is : x ≡ h = sym r.0 ∙ same_one _ h e in
    subst (λ (z : Halt). is_before z.accepted y.accepted ≡ false) is (own r.1 m (latest halts) refl (λ v q k. latest_above halts v q y k)))
    (λ r. let is : r.0 ≡ h = sym r.2 ∙ same_one _ h e in
    subst (λ (z : Halt). is_before z.accepted y.accepted ≡ false) is (other r.0 r.3 m (λ k. latest_above halts r.0 r.1 y k)))
    (later_one x halts (latest halts) refl)
  where
    own : ((v : Halt) → latest halts ≡ Some v → is_before x.accepted v.accepted ≡ false) → (y ≡ x) ⊎ Member y halts → (o : Option Halt)
        → latest halts ≡ o → ((v : Halt) → latest halts ≡ Some v → Member y halts → is_before v.accepted y.accepted ≡ false)
        → is_before x.accepted y.accepted ≡ false
    own least (inl p) o q rest = subst (λ (z : Halt). is_before x.accepted z.accepted ≡ false) (sym p) (itself-not_before x.accepted)
    own least (inr k) None q rest = latest_none y halts q k
    own least (inr k) (Some v) q rest = at_most-trans y.accepted v.accepted x.accepted (rest v q k) (least v q)

    other : (v : Halt) → is_before x.accepted v.accepted ≡ true → (y ≡ x) ⊎ Member y halts
        → (Member y halts → is_before v.accepted y.accepted ≡ false) → is_before v.accepted y.accepted ≡ false
    other v t (inl p) rest = subst (λ (z : Halt). is_before v.accepted z.accepted ≡ false) (sym p) (before-not x.accepted v.accepted t)
    other v t (inr k) rest = rest k

module _ (c : Cluster) (history : List KeptRecord) (sent : List Letter) (facts : SetFacts c history) (own : Round) (set : List ℕ)
    (is_known : IsKnown c history set) (halts : List Halt) (says : (h : Halt) → Member h halts
    → IsHalt c history (role kind.Matchmaker h.answer.matchmaker) own h.answer.watermark h.answer.entries h.accepted h.next)
    (once : AreOnce (halted_by halts)) (known : (m : ℕ) → Member m (halted_by halts) → Member m set) (enough : c.f < length halts) where
  abbrev who : ℕ → Bool
  who m = is_in m (halted_by halts)

  abbrev water : Round
  water = greatest_watermark (answers_of halts)

  -- of a member that was counted
  counted : (m : ℕ) → who m ≡ true → (h : Halt) × Member h halts × (m ≡ h.answer.matchmaker)
  counted m t = halted_member m halts (is_in-Member m (halted_by halts) t)

  halted : (m : ℕ) (t : who m ≡ true) → (h : Halt) × Member h halts
      × IsHalt c history (role kind.Matchmaker m) own h.answer.watermark h.answer.entries h.accepted h.next
  halted m t =
      let r = counted m t in (
        r.0,
        r.1,
        subst (λ n. IsHalt c history (role kind.Matchmaker n) own r.0.answer.watermark r.0.answer.entries r.0.accepted r.0.next) (sym r.2)
            (says r.0 r.1),
      )

  low_water : (h : Halt) → Member h halts → is_before water h.answer.watermark ≡ false
  low_water h m = top_above (answers_of halts) h.answer (answer_in halts h m)

  -- WHAT THEY TOLD IS A JOIN
  join_told : (h : Halt) → Member h halts → (e : Entry) → is_before e.round water ≡ false → Member e h.answer.entries
      → Has e.round (joined_entries halts)
  join_told h m e l k =
      sorted_has [] (live_entries (answers_of halts)) e (live_has (answers_of halts) h.answer e l (answer_in halts h m) k)

  join_only : (e : Entry) → Member e (joined_entries halts) → IsConfig history e.round e.grid × (is_before e.round water ≡ false)
  join_only e m = go (sorted_of [] (live_entries (answers_of halts)) e m)
    where
      go : Member e [] ⊎ Member e (live_entries (answers_of halts)) → IsConfig history e.round e.grid × (is_before e.round water ≡ false)
      go (inl k) = absurd k
      go (inr k) =
          let from = live_from (answers_of halts) e k in
          let h = answer_from halts from.0 from.1 in
          let live = Member-filter (λ (x : Entry). not (is_before x.round water)) e _ k in
          ((says h.0 h.1).only e (subst (λ (a : MatchAnswer). Member e a.entries) h.2 from.2), is_low (is_before e.round water) live.1)
        where
          is_low : (b : Bool) → not b ≡ true → b ≡ false
          is_low true t = cc
          is_low false t = refl

  module _ (one_grid : (i : Round) (g h : Shape) → IsConfig history i g → IsConfig history i h → g ≡ h) where
    -- an entry that is told stands in the join itself, since a round has one grid
    join_exact : (h : Halt) → Member h halts → (e : Entry) → is_before e.round water ≡ false → Member e h.answer.entries
        → Member e (joined_entries halts)
    join_exact h m e l k =
        let r = join_told h m e l k in
        let same : r.0 ≡ e.grid = one_grid e.round r.0 e.grid (join_only (entry e.round r.0) r.1).0 ((says h m).only e k) in
        subst (λ g. Member (entry e.round g) (joined_entries halts)) same r.1

    join_watermark : IsWatermark history water (joined_entries halts)
    join_watermark = go (top_told (answers_of halts))
      where
        told : (h : Halt) → Member h halts → water ≡ h.answer.watermark → IsWatermark history h.answer.watermark h.answer.entries
            → IsWatermark history water (joined_entries halts)
        told h m e (inl none) = inl (e ∙ none)
        told h m e (inr x) =
            let k : Member (entry water x.1.0) h.answer.entries = subst (λ w. Member (entry w x.1.0) h.answer.entries) (sym e) x.1.1 in
            inr (
              (x.0.0, x.0.1, subst (λ w. HasGarbage history x.0.0 w x.0.1) (sym e) x.0.2),
              (x.1.0, join_exact h m (entry water x.1.0) (itself-not_before water) k),
            )

        go : (water ≡ no_round) ⊎ ((a : MatchAnswer) × Member a (answers_of halts) × (water ≡ a.watermark))
            → IsWatermark history water (joined_entries halts)
        go (inl e) = inl e
        go (inr r) =
            let h = answer_from halts r.0 r.1 in
            told h.0 h.1 (r.2 ∙ ap (λ (a : MatchAnswer). a.watermark) h.2) (says h.0 h.1).raised

    pub halts_join : IsJoin c history set water (joined_entries halts)
    halts_join = record {
      who = who;
      most = halted_count c set halts once known enough;
      stopped = λ m t. (own, (halted m t).2.stopped);
      told = λ m t j g l x.
          let h = halted m t in
          let y = h.2.all j g (at_most-trans h.0.answer.watermark water j (low_water h.0 h.1) l) x in
          (y.0, join_exact h.0 h.1 y.0 (at_most-trans water j y.0.round l y.3) y.1, y.2, y.3, y.4);
      garbages = λ m t j g x. let h = halted m t in at_most-trans j h.0.answer.watermark water (h.2.garbages j g x) (low_water h.0 h.1);
      boots = λ m t s v xs x. let h = halted m t in at_most-trans v h.0.answer.watermark water (h.2.boots s v xs x) (low_water h.0 h.1);
      only = join_only;
      raised = join_watermark;
    }

  -- THE SET TO DECIDE CAN BE DECIDED IN NO EARLIER BALLOT BUT AS IT IS
  module _ (ordered : List ℕ) (a : Round) (l : is_before a own ≡ true) where
    in_halted : (hs : List Halt) (h : Halt) → Member h hs → Member h.answer.matchmaker (halted_by hs)
    in_halted [] h k = absurd k
    in_halted (y ∷ hs) h (inl p) = inl (ap (λ (w : Halt). w.answer.matchmaker) p)
    in_halted (y ∷ hs) h (inr k) = inr (in_halted hs h k)

    -- where those that were counted accepted nothing else in the ballot
    closed_here : (t : List ℕ) → ((m : ℕ) → who m ≡ true → (h : Halt) → Member h halts → is_before h.accepted a ≡ false
        → (u : List ℕ) → HasNext history (role kind.Matchmaker m) a u → u ≡ t) → IsClosed c history set a t
    closed_here t only = record {
      who = who;
      most = halted_count c set halts once known enough;
      past = λ m p. (own, l, (halted m p).2.stopped);
      only = λ m p u x. let h = halted m p in only m p h.0 h.1 (h.2.nexts a u l x) u x;
    }

    closed_by : (z : Halt) → latest halts ≡ Some z → (b : Bool) → is_before no_round z.accepted ≡ b
        → IsClosed c history set a (if b then z.next else ordered)
    closed_by z e false f =
        closed_here ordered (λ m p h k low u x.
        let real = (facts.nexted (role kind.Matchmaker m) a u x).real in
        let none = at_most-trans a h.accepted z.accepted low (latest_above halts z e h k) in
        absurd (true≢false (sym (before-to_at_least no_round a z.accepted real none) ∙ f)))
    closed_by z e true t = go (says z (latest_member halts z e)).accepted
      where
        m_z : Member z.answer.matchmaker set
        m_z = known z.answer.matchmaker (in_halted halts z (latest_member halts z e))

        accepted : HasNext history (role kind.Matchmaker z.answer.matchmaker) z.accepted z.next
            → (is_before a z.accepted ≡ true) ⊎ ((a ≡ z.accepted) ⊎ (is_before z.accepted a ≡ true)) → IsClosed c history set a z.next
        accepted has (inl b) =
            let next = facts.nexted (role kind.Matchmaker z.answer.matchmaker) z.accepted z.next has in
            subst (λ q. IsClosed c history q a z.next) (nth_meet c history sent facts next.known.0 is_known.0 next.set set next.known.1
            is_known.1 z.answer.matchmaker next.member m_z).1 (next.closed a b)
        accepted has (inr (inl q)) =
            closed_here z.next (λ m p h k low u x.
            facts.one_next (role kind.Matchmaker m) (role kind.Matchmaker z.answer.matchmaker) a u z.next x
            (subst (λ b. HasNext history (role kind.Matchmaker z.answer.matchmaker) b z.next) (sym q) has))
        accepted has (inr (inr b)) = closed_here z.next
            (λ m p h k low u x. absurd (true≢false (sym b ∙ at_most-trans a h.accepted z.accepted low (latest_above halts z e h k))))

        go : (z.accepted ≡ no_round) ⊎ HasNext history (role kind.Matchmaker z.answer.matchmaker) z.accepted z.next
            → IsClosed c history set a z.next
        go (inl none) = absurd (true≢false (sym t ∙ subst (λ b. is_before no_round b ≡ false) (sym none) (itself-not_before no_round)))
        go (inr has) = accepted has (before_cases a z.accepted)

    pub halts_closed : IsClosed c history set a (to_decide ordered halts)
    halts_closed = go (latest halts) refl
      where
        go : (o : Option Halt) → latest halts ≡ o → IsClosed c history set a (next_of ordered o)
        go None e = closed_here ordered (λ m p h k low u x. latest_none h halts e k)
        go (Some z) e = closed_by z e (is_before no_round z.accepted) refl
